use Rattle.std.proofs.Common.{List, ap, ◌∙◌}
use Rattle.symbol_polys.specs.View.{terms_of}
use Rattle.symbol_polys.specs.declared.Term.{Term}
use Rattle.elementary_diff.specs.Low.{most_entry}
use Rattle.elementary_diff.proofs.TotalLaws.{low_at, total-push, total-done, terms-append}
use Rattle.elementary_diff.proofs.total_derivatives.total_derivative.Goals as goal

pub further-requires-clause-low : goal.further-requires-clause-low
further-requires-clause-low c = rw c.as_slice.ensures (low_at most_entry c.args.terms.now c.loop-term.term-index c.term-item.result c.loop-term-test.true c.term-item.is c.requires.low)

pub loop-term-preserved : goal.loop-term-preserved
loop-term-preserved c =
    total-push c.args.direction c.args.terms.now c.loop-term.term-index c.term-item.result (terms_of c.loop-term.derived.items) (terms_of c.in_ok-further.field-0.items) (terms_of c.put_all.new.terms.items)
    c.loop-term-test.true c.term-item.is c.loop-term.invariant (rw c.as_slice.ensures at c.in_ok-further.ensures.value)
    (ap (λ (us : List Term). terms_of us) c.in_ok-put_all.ensures ∙ terms-append c.loop-term.derived.items c.in_ok-further.field-0.items)

pub returns-clause-value : goal.returns-clause-value
returns-clause-value c = total-done c.args.direction c.args.terms.now c.loop-term.term-index (terms_of c.loop-term.derived.items) c.loop-term-test.false c.loop-term.invariant
