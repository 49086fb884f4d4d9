use Rattle.std.proofs.Common.{◌≡◌, pos, unsigned_abs, ap, arith}
use Rattle.std.proofs.lemmas.Int.{ints}
use Rattle.antipode_laws.specs.Weighed.{Weighed}
use Rattle.twisted_antipode.proofs.Arithmetic.{no_terms}
use Rattle.vanishing_constants.proofs.HeldZeros.{weighed_zero}
use Rattle.vanishing_constants.proofs.zeros.is_nothing.Goals as goal

pub returns : goal.returns
returns c =
    let p = c.args.poly.now in (
      λ e. (let none : p.mass ≡ pos 0 = grind (arith, ints) in weighed_zero p (no_terms p c.requires none) none),
      λ e. (let none : unsigned_abs p.mass ≡ 0 = ap (λ (w : Weighed). w.mass) e in grind (arith, ints)),
    )
