use Rattle.std.proofs.Common.{take, subst, sym}
use Rattle.degree_numbers.specs.Fraction.{IsCommon}
use Rattle.degree_numbers.specs.Units.{fractions}
use Rattle.degree_numbers.proofs.Common.{none_yet, fractions_more}
use Rattle.degree_numbers.proofs.units.common_denominator.Goals as goal

pub loop-w-init : goal.loop-w-init
loop-w-init c = none_yet

pub with_degree-common-requires : goal.with_degree-common-requires
with_degree-common-requires c = c.loop-w.invariant.above

pub loop-w-preserved : goal.loop-w-preserved
loop-w-preserved c =
    let ds = c.args.list.now in
    let i = c.loop-w.w-index in
    subst (λ fs. IsCommon c.with_degree-common.result fs) (sym (fractions_more ds i c.w-item.result c.loop-w-test.true c.w-item.is)) (c.with_degree-common.ensures.value (fractions (take i ds)) c.loop-w.invariant)
