use Rattle.std.proofs.Common.{◌≤◌, ℕ, List, drop, length}
use Rattle.tree_pool.specs.Content.{tree_over}
use Rattle.rule_steps.specs.Sets.{IsSetOf}
use Rattle.rule_steps.proofs.AboveSets.{IsAbove}
use Rattle.rule_steps.proofs.sums.+additions_above.Given as goal

abbrev pub decreases-additions_above : goal.decreases-additions_above
decreases-additions_above l = l.id.0

abbrev pub invariant-loop-i : goal.invariant-loop-i
invariant-loop-i l = record {
  within : l.i ≤ length l.edges;
  set : (n : List ℕ) → IsSetOf (IsAbove l.eq.types l.rule (tree_over l.pool.trees n (drop l.i l.edges))) l.all.items;
}

abbrev pub decreases-loop-i : goal.decreases-loop-i
decreases-loop-i l = l.i
