use Rattle.std.proofs.Common.{◌≡◌, ◌≤◌, ◌+◌, ◌*◌, ℕ, List, map, drop, length}
use Rattle.plain_trees.specs.Plain.{edge_count_of}
use Rattle.plain_trees.specs.View.{plain, labelled, grafted}
use Rattle.plain_trees.specs.Canon.{canon}
use Rattle.plain_trees.proofs.canon.+canonical.Given as goal

abbrev pub invariant-canonical-loop-i : goal.invariant-canonical-loop-i
invariant-canonical-loop-i l = record {
  within : l.i ≤ length l.items;
  canonical : (n : List ℕ) → grafted n (map labelled l.edges.items) ≡ canon (grafted n (map labelled (drop l.i l.items)));
}

abbrev pub decreases-canonical-loop-i : goal.decreases-canonical-loop-i
decreases-canonical-loop-i l = l.i

abbrev pub decreases-canonical : goal.decreases-canonical
decreases-canonical l = 2 * edge_count_of (plain l.t.now)

abbrev pub decreases-canonical_edge : goal.decreases-canonical_edge
decreases-canonical_edge l = 2 * edge_count_of (labelled l.e.now).child + 1
