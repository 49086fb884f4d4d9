use Rattle.std.proofs.Common.{refl, sym, ◌∙◌}
use Rattle.std.proofs.lemmas.Result.{err_from_is_err_and}
use Rattle.right_side_text.proofs.Steps.{terms_step, terms_over, fails_too}
use Rattle.right_side_text.proofs.reading.terms_of.Goals as goal

pub returns-then-is_empty : goal.returns-then-is_empty
returns-then-is_empty c = sym c.loop.invariant ∙ terms_step _ _ _ _ _ c.loop-test.true ∙ rw (← c.is_empty.ensures, c.if-is_empty.true) refl

pub returns-in_default : goal.returns-in_default
returns-in_default c = sym c.loop.invariant ∙ terms_step _ _ _ _ _ c.loop-test.true ∙ rw (← c.is_empty.ensures, c.if-is_empty.false, ← c.sign_of.ensures, c.in_default.is) refl

pub returns-in_err-term : goal.returns-in_err-term
returns-in_err-term c =
    let p = err_from_is_err_and c.from_residual.result c.from_residual.ensures.1 in
    rw (p.1, p.2) (fails_too _ _ _ c.in_err-term.ensures (λ none. sym c.loop.invariant ∙ terms_step _ _ _ _ _ c.loop-test.true ∙ rw (← c.is_empty.ensures, c.if-is_empty.false, ← c.sign_of.ensures, c.in-Some.is, none) refl))

pub loop-preserved : goal.loop-preserved
loop-preserved c = sym (terms_step _ _ _ _ _ c.loop-test.true ∙ rw (← c.is_empty.ensures, c.if-is_empty.false, ← c.sign_of.ensures, c.in-Some.is, c.in_ok-term.ensures, c.in_ok-push.ensures.ok) refl) ∙ c.loop.invariant

pub returns : goal.returns
returns c = sym c.loop.invariant ∙ terms_over _ _ _ _ _ c.loop-test.false
