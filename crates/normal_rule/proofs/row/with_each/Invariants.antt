use Rattle.std.proofs.Common.{◌≡◌, map}
use Rattle.normal_rule.specs.Made.{with_factor}
use Rattle.normal_rule.proofs.row.with_each.Given as goal

abbrev pub invariant-loop-node : goal.invariant-loop-node
invariant-loop-node l = l.longer.items ≡ map (with_factor l.factor) (map (λ n. n.now) l.yielded)
