use Rattle.std.proofs.Common.{refl}
use Rattle.degree_numbers.proofs.Common.{past, whole_in_common}
use Rattle.degree_numbers.proofs.units.join_units.Goals as goal

pub returns-then-common-gt-LARGEST-clause-err : goal.returns-then-common-gt-LARGEST-clause-err
returns-then-common-gt-LARGEST-clause-err c = (refl, past _ _ c.common_denominator-common.ensures c.if-common-gt-LARGEST.true)

pub returns-clause-whole : goal.returns-clause-whole
returns-clause-whole c = whole_in_common c.args.list.now _ c.common_denominator-common.ensures c.if-common-gt-LARGEST.false
