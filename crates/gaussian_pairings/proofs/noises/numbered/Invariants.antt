use Rattle.std.proofs.Common.{◌≡◌, ◌+◌, ◌++◌, drop}
use Rattle.gaussian_pairings.specs.Pairings.{numbered}
use Rattle.gaussian_pairings.proofs.noises.numbered.Given as goal

abbrev pub invariant-loop-group : goal.invariant-loop-group
invariant-loop-group l = record {
  noises : l.noises.items ++ numbered (l.number + 1) (drop l.group-index l.groups) ≡ numbered 1 l.groups;
  number : l.number ≡ l.group-index;
}
