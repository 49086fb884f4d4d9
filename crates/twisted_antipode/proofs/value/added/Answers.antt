use Rattle.std.proofs.Common.{subst}
use Rattle.twisted_antipode.specs.Values.{IsValueOf}
use Rattle.twisted_antipode.proofs.Arithmetic.{added}
use Rattle.twisted_antipode.proofs.value.added.Goals as goal

pub returns-in-Ok-clause-value : goal.returns-in-Ok-clause-value
returns-in-Ok-clause-value c = λ w u h k.
    added w u c.in-Sum-Sum.f c.in-Sum-Sum.g c.in-Ok.p (subst (IsValueOf w) c.in-Sum-Sum.is-0 h) (subst (IsValueOf u) c.in-Sum-Sum.is-1 k) c.in-Ok.ensures.coefficients c.in-Ok.ensures.mass c.in-Ok.ensures.fits
