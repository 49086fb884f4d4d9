use Rattle.twisted_antipode.proofs.Arithmetic.{copied}
use Rattle.twisted_antipode.proofs.value.copy_poly.Goals as goal

pub returns-in-Ok-clause-value : goal.returns-in-Ok-clause-value
returns-in-Ok-clause-value c = λ w l h. copied w c.args.f.now c.in-Ok.p h c.in-Ok.ensures.coefficients c.in-Ok.ensures.mass
