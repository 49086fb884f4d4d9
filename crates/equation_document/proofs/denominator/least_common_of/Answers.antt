use Rattle.std.proofs.Common.{arith, take, map}
use Rattle.degree_numbers.proofs.Common.{none_yet}
use Rattle.equation_document.proofs.LeastCommon.{plain, is_least_common, taken_more, taken_all}
use Rattle.equation_document.proofs.denominator.least_common_of.Goals as goal

pub loop-f-init : goal.loop-f-init
loop-f-init c = (none_yet, omega arith)

pub loop-f-preserved : goal.loop-f-preserved
loop-f-preserved c =
    let next = c.with_denominator-common.ensures in
    let i = c.loop-f.f-index in
    (taken_more _ c.args.fractions.now i _ c.f-item.result c.loop-f-test.true c.f-item.is c.get.ensures.value (next.value c.f-item.result.negative (map plain (take i c.args.fractions.now)) c.loop-f.invariant.0), next.above)

pub returns-clause-value : goal.returns-clause-value
returns-clause-value c = is_least_common _ c.args.fractions.now (taken_all _ c.args.fractions.now c.loop-f.f-index c.loop-f-test.false c.loop-f.invariant.0)
