use Rattle.std.proofs.Common.{sym, ◌∙◌}
use Rattle.symbol_polys.specs.View.{terms_of}
use Rattle.counterterm_report.proofs.StoredValues.{no_parameters, value_is_text, text_is_value, value_size, fault_read, not_expectations}
use Rattle.counterterm_report.proofs.stored.read_expectations.Goals as goal

pub read_poly-requires-clause-parameters : goal.read_poly-requires-clause-parameters
read_poly-requires-clause-parameters c = no_parameters c.args.types.now c.requires.types

pub returns-in-Err-clause-back : goal.returns-in-Err-clause-back
returns-in-Err-clause-back c = λ mass ts v r t.
    fault_read c.in-Err.e c.text_fault.result ts c.text_fault.ensures (value_size c.args.types.now mass ts v r) (c.in-Err.ensures.back ts (value_is_text c.args.types.now mass ts c.args.text.now v t))

pub returns-then-not-are_expectations-clause-back : goal.returns-then-not-are_expectations-clause-back
returns-then-not-are_expectations-clause-back c = λ mass ts v r t.
    absurd (not_expectations c.args.types.now mass ts (terms_of c.in-Ok.p.terms) v (c.in-Ok.ensures.back ts (value_is_text c.args.types.now mass ts c.args.text.now v t))
    (rw c.as_slice.ensures at (sym c.are_expectations.ensures ∙ c.if-not-are_expectations.true)))

pub returns-clause-value : goal.returns-clause-value
returns-clause-value c =
    text_is_value c.args.types.now c.in-Ok.p.mass (terms_of c.in-Ok.p.terms) c.args.text.now c.in-Ok.ensures.poly c.in-Ok.ensures.text
    (rw c.as_slice.ensures at (sym c.are_expectations.ensures ∙ c.if-not-are_expectations.false))

pub returns-clause-back : goal.returns-clause-back
returns-clause-back c = λ mass ts v r t. c.in-Ok.ensures.back ts (value_is_text c.args.types.now mass ts c.args.text.now v t)
