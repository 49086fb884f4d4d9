use Rattle.std.proofs.Common.{◌≡◌, map, drop}
use Rattle.std.specs.List.{list_any}
use Rattle.equation_file.specs.Collect.{same}
use Rattle.equation_file.proofs.collect.is_seen.Given as goal

abbrev pub invariant-loop-s : goal.invariant-loop-s
invariant-loop-s l = list_any (same l.term) (map (λ s. s.now) l.seen) ≡ list_any (same l.term) (map (λ s. s.now) (drop l.s-index l.seen))
