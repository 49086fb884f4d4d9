use Rattle.std.proofs.Common.{◌≡◌, ℕ, ◌+◌, ◌^◌, unsigned_abs, to_z, of_z, ap, ◌∙◌, arith}
use Rattle.std.specs.Int.{w64}
use Rattle.std.proofs.lemmas.Int.{ints, to_z-of_z}
use Rattle.exact_sums.specs.Saturating.{saturated}
use Rattle.tree_pool.specs.Content.{tree_at}
use Rattle.elementary_diff.specs.Symmetry.{symmetry_of}
use Rattle.elementary_diff.specs.Differentials.{kernel_edges}
use Rattle.elementary_diff.proofs.GivenDenominators.{denominator-value}
use Rattle.elementary_diff.proofs.denominators.denominator.Goals as goal

pub returns : goal.returns
returns c =
    let eq = c.args.eq.now in
    let t = tree_at c.args.pool.now c.args.id.0 in
    let q = unsigned_abs eq.denominator in
    let above = c.requires.equation.denominator_above in
    let bounded = c.requires.equation.denominator_bounded in
    let kept : to_z w64 (of_z w64 eq.denominator) ≡ eq.denominator = to_z-of_z w64 eq.denominator (omega (arith, ints, above, bounded)) in
    let size = c.from.ensures ∙ c.unsigned_abs.ensures.value ∙ ap unsigned_abs kept in
    denominator-value c.times.result c.of.result c.power.result c.of-common.result q (symmetry_of t) (1 + kernel_edges eq.types t) c.times.ensures (c.of.ensures ∙ ap saturated c.symmetry.ensures.value)
    (c.power.ensures ∙ ap (λ (n : ℕ). saturated (c.of-common.result ^ (1 + n))) c.kernel_edges.ensures.value) (c.of-common.ensures ∙ ap saturated size) (omega (arith, ints, above, bounded))
