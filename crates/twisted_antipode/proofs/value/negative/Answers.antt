use Rattle.std.proofs.Common.{subst}
use Rattle.twisted_antipode.specs.Values.{IsValueOf}
use Rattle.twisted_antipode.proofs.Arithmetic.{negated}
use Rattle.twisted_antipode.proofs.value.negative.Goals as goal

pub returns-in-Ok-clause-value : goal.returns-in-Ok-clause-value
returns-in-Ok-clause-value c = λ w l h. negated w c.in-Sum.f c.in-Ok.p (subst (IsValueOf w) c.in-Sum.is h) c.in-Ok.ensures.coefficients c.in-Ok.ensures.mass
