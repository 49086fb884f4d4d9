use Rattle.std.proofs.Common.{length, ◌-◌, ◌≤◌, ◌<◌, ◌≡◌, take}
use Rattle.std.specs.List.{AllByRecursion}
use Rattle.twisted_antipode.proofs.runs.run_length.Given as goal

abbrev pub invariant-loop-i : goal.invariant-loop-i
invariant-loop-i l = record {
  some : 0 < l.i;
  most : l.i ≤ length l.terms;
  forest : AllByRecursion (λ e. e.forest ≡ l.forest) (take l.i l.terms);
}

abbrev pub decreases-loop-i : goal.decreases-loop-i
decreases-loop-i l = length l.terms - l.i
