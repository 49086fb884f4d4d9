use Rattle.std.proofs.Common.{◌≡◌, ◌++◌, drop, map}
use Rattle.plain_trees.specs.Coproducts.{is_above_zero}
use Rattle.pooled_cuttings.specs.RightProducts.{lowered}
use Rattle.pooled_cuttings.proofs.RightFitting.{kept_row}
use Rattle.pooled_cuttings.proofs.right_shifts.kept_shifts.Given as goal

abbrev pub invariant-loop-s : goal.invariant-loop-s
invariant-loop-s l =
    map (λ m. m.entries) l.kept.items ++ kept_row (λ s. is_above_zero (lowered l.types l.branch s)) (drop l.s-index l.shifts)
    ≡ kept_row (λ s. is_above_zero (lowered l.types l.branch s)) l.shifts
