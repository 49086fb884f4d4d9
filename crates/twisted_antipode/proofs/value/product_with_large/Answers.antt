use Rattle.std.proofs.Common.{arith}
use Rattle.std.proofs.lemmas.Int.{ints}
use Rattle.twisted_antipode.proofs.Arithmetic.{nothing}
use Rattle.twisted_antipode.proofs.value.product_with_large.Goals as goal

pub returns-then-f-eq0-clause-value : goal.returns-then-f-eq0-clause-value
returns-then-f-eq0-clause-value c = λ w u h l. nothing w u c.args.f.now c.in_ok-zero.field-0 c.requires.poly (let e = c.if-f-eq0.true in grind (arith, ints)) c.in_ok-zero.ensures.terms c.in_ok-zero.ensures.mass h
