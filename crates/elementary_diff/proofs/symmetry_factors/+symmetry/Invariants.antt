use Rattle.std.proofs.Common.{◌≡◌, ◌*◌, [], drop}
use Rattle.tree_pool.specs.Content.{tree_at, tree_over}
use Rattle.elementary_diff.specs.Symmetry.{symmetry_of}
use Rattle.elementary_diff.proofs.symmetry_factors.+symmetry.Given as goal

abbrev pub decreases-symmetry : goal.decreases-symmetry
decreases-symmetry l = l.id.0

abbrev pub invariant-loop-i : goal.invariant-loop-i
invariant-loop-i l = l.factor * symmetry_of (tree_over l.pool.trees [] (drop l.i l.edges)) ≡ symmetry_of (tree_at l.pool l.fn.id.0)
