use Rattle.degree_numbers.proofs.Common.{one_more, one_past}
use Rattle.degree_numbers.proofs.units.with_denominator.Goals as goal

pub returns-then-common-ge-MOST-clause-value : goal.returns-then-common-ge-MOST-clause-value
returns-then-common-ge-MOST-clause-value c = λ negative fs h. one_past _ fs _ h c.if-common-ge-MOST.true

pub returns-clause-value : goal.returns-clause-value
returns-clause-value c = λ negative fs h. one_more _ _ _ fs _ h c.if-common-ge-MOST.false c.lowest_denominator.ensures c.joined.ensures
