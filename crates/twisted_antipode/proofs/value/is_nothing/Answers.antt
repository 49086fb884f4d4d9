use Rattle.std.proofs.Common.{◌≡◌, pos, subst, arith}
use Rattle.std.proofs.lemmas.Int.{ints}
use Rattle.twisted_antipode.specs.Values.{IsValueOf, IsKept}
use Rattle.twisted_antipode.proofs.Arithmetic.{no_coefficients}
use Rattle.twisted_antipode.proofs.value.is_nothing.Goals as goal

pub returns-in-Sum-clause-terms : goal.returns-in-Sum-clause-terms
returns-in-Sum-clause-terms c = λ e w h m.
    let value = subst (IsValueOf w) c.in-Sum.is h in
    let mass = value.mass in
    let none : c.in-Sum.f.mass ≡ pos 0 = grind (arith, ints) in
    no_coefficients w c.in-Sum.f (subst IsKept c.in-Sum.is c.requires).poly none value m
