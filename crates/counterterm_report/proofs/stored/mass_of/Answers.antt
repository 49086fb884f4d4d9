use Rattle.std.proofs.Common.{◌∷◌, [], sym, refl, ◌∙◌}
use Rattle.std.proofs.lemmas.Slice.Eq.{bytes_eq-Decides}
use Rattle.counterterm_report.proofs.Masses.{zero_digits, zero_back, none_back, value_is, value_back}
use Rattle.counterterm_report.proofs.stored.mass_of.Goals as goal

pub returns-then-eq-clause-value : goal.returns-then-eq-clause-value
returns-then-eq-clause-value c =
    let eq = rw c.as_slice.ensures at (sym c.eq.ensures ∙ c.if-eq.true) in
    (refl, zero_digits c.args.digits.now ((bytes_eq-Decides c.args.digits.now (48 ∷ [])).0 eq))

pub returns-then-eq-clause-back : goal.returns-then-eq-clause-back
returns-then-eq-clause-back c = λ n lt h.
    let eq = rw c.as_slice.ensures at (sym c.eq.ensures ∙ c.if-eq.true) in
    zero_back c.args.digits.now n ((bytes_eq-Decides c.args.digits.now (48 ∷ [])).0 eq) h

pub returns-then-not-is_numeral-clause-back : goal.returns-then-not-is_numeral-clause-back
returns-then-not-is_numeral-clause-back c = λ n lt h.
    absurd (none_back c.args.digits.now n (rw c.as_slice.ensures at (sym c.eq.ensures ∙ c.if-eq.false)) (sym c.is_numeral.ensures ∙ c.if-not-is_numeral.true) h)

pub returns-clause-value : goal.returns-clause-value
returns-clause-value c = value_is c.args.digits.now c.magnitude.result c.in_range.result (sym c.is_numeral.ensures ∙ c.if-not-is_numeral.false) c.magnitude.ensures c.in_range.ensures.value c.in_range.ensures.fits

pub returns-clause-back : goal.returns-clause-back
returns-clause-back c = λ n lt h. value_back c.args.digits.now c.magnitude.result c.in_range.result n c.magnitude.ensures c.in_range.ensures.value lt h
