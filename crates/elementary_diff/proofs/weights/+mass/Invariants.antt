use Rattle.std.proofs.Common.{◌≡◌, ◌≤◌, ◌*◌, [], drop}
use Rattle.exact_sums.specs.Saturating.{overflow, saturated}
use Rattle.tree_pool.specs.Content.{tree_at, tree_over}
use Rattle.elementary_diff.specs.Differentials.{right_terms}
use Rattle.elementary_diff.specs.Masses.{above_mass, mass_of}
use Rattle.elementary_diff.proofs.weights.+mass.Given as goal

abbrev pub decreases-mass : goal.decreases-mass
decreases-mass l = l.id.0

abbrev pub invariant-loop-e : goal.invariant-loop-e
invariant-loop-e l = record {
  within : l.product ≤ overflow;
  product : saturated (l.product * above_mass l.eq.types (right_terms l.eq) (tree_over l.pool.trees [] (drop l.e-index l.edges))) ≡ saturated (mass_of l.eq.types (right_terms l.eq) l.fn.kernel.0 (tree_at l.pool l.fn.id.0));
}
