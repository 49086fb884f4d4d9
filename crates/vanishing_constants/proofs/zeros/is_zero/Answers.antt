use Rattle.twisted_antipode.specs.Held.{weighed_of}
use Rattle.vanishing_constants.proofs.HeldZeros.{held_known, small_known}
use Rattle.vanishing_constants.proofs.zeros.is_zero.Goals as goal

pub returns-in-Some : goal.returns-in-Some
returns-in-Some c =
    held_known c.args.pool.now c.args.constants.now c.args.id.0 c.is_nothing.result (weighed_of c.in-Some.poly.now) c.laws.ensures c.requires.held c.requires.known (let v = c.vanishes.ensures in let e = c.if-not-vanishes.false in cc) c.in-Some.ensures.1 c.is_nothing.ensures

pub returns-in-None : goal.returns-in-None
returns-in-None c =
    small_known c.args.pool.now c.args.constants.now c.args.id.0 c.has_small_coefficients.result c.laws.ensures c.requires.held c.requires.known (let v = c.vanishes.ensures in let e = c.if-not-vanishes.false in cc) c.in-None.ensures c.has_small_coefficients.ensures
