use Rattle.std.proofs.Common.{◌≡◌, ℕ, ◌<◌, take, get_or, true}
use Rattle.normal_rule.specs.Order.{empty_node}
use Rattle.normal_rule.specs.Gaps.{nodes_gap}
use Rattle.normal_rule.specs.Regularity.{holds, standard}
use Rattle.normal_rule.proofs.regularity.check_nodes.Given as goal

abbrev pub invariant-loop-i : goal.invariant-loop-i
invariant-loop-i l =
    (l.gap ≡ standard (nodes_gap l.eq l.kernel.0 (take l.i l.nodes))) × ((k : ℕ) → k < l.i → holds l.eq l.kernel.0 (get_or l.nodes k empty_node) ≡ true)
