use Rattle.std.proofs.Common.{◌≡◌, ◌<◌, ◌≤◌, length, get_or}
use Rattle.degree_numbers.specs.Types.{kind_of}
use Rattle.tree_pool.proofs.Walks.{no_edge}
use Rattle.elementary_diff.specs.Differentials.{right_terms, kernel_edge}
use Rattle.elementary_diff.specs.Within.{IsSumWithin}
use Rattle.elementary_diff.proofs.FactorWalks.{left_factor, left_mass, child_mass, child_factor}
use Rattle.elementary_diff.proofs.products.+product.Given as goal

abbrev pub decreases-product : goal.decreases-product
decreases-product l = l.id.0

abbrev pub decreases-loop-left : goal.decreases-loop-left
decreases-loop-left l = l.left

abbrev pub invariant-loop-left : goal.invariant-loop-left
invariant-loop-left l =
    let ty = l.eq.types in
    let sides = right_terms l.eq in
    record {
      within : l.left ≤ length l.edges;
      above : IsSumWithin (left_factor ty sides l.pool l.edges l.left) (left_mass ty sides l.pool l.edges l.left) l.above;
      factor : l.left < length l.edges → kernel_edge (kind_of ty (get_or l.edges l.left no_edge).kind.0) ≡ 1 → IsSumWithin (child_factor ty sides l.pool l.edges l.left) (child_mass ty sides l.pool l.edges l.left) l.factor;
    }
