use Rattle.std.proofs.Common.{refl, sym, ◌∙◌}
use Rattle.std.proofs.lemmas.Result.{err_from_is_err_and}
use Rattle.right_side_text.proofs.Steps.{factors_step, factors_over, fails_too}
use Rattle.right_side_text.proofs.reading.factors_of.Goals as goal

pub returns-in_err-factor : goal.returns-in_err-factor
returns-in_err-factor c =
    let p = err_from_is_err_and c.from_residual.result c.from_residual.ensures.1 in
    rw (p.1, p.2) (fails_too _ _ _ c.in_err-factor.ensures (λ none. sym c.loop.invariant ∙ factors_step _ _ _ _ _ c.loop-test.true ∙ rw none refl))

pub returns-in-None : goal.returns-in-None
returns-in-None c = sym c.loop.invariant ∙ factors_step _ _ _ _ _ c.loop-test.true ∙ rw (c.in_ok-factor.ensures, ← c.mark_of.ensures, c.in-None.is, c.in_ok-push.ensures.ok) refl

pub loop-preserved : goal.loop-preserved
loop-preserved c = sym (factors_step _ _ _ _ _ c.loop-test.true ∙ rw (c.in_ok-factor.ensures, ← c.mark_of.ensures, c.in-Some.is, c.in_ok-push.ensures.ok) refl) ∙ c.loop.invariant

pub returns : goal.returns
returns c = sym c.loop.invariant ∙ factors_over _ _ _ _ _ c.loop-test.false
