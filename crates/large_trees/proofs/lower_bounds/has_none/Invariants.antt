use Rattle.std.proofs.Common.{◌≡◌, ◌≤◌}
use Rattle.large_trees.proofs.lower_bounds.has_none.Given as goal

abbrev pub invariant-loop : goal.invariant-loop
invariant-loop l = record {
  count : l.charge.count ≡ l.fn.count;
  each : l.charge.each ≤ l.most;
}
