use Rattle.vanishing_constants.proofs.HeldZeros.{held_already, zero_held}
use Rattle.vanishing_constants.proofs.zeros.hold_zero.Goals as goal

pub returns-then-held-clause-held : goal.returns-then-held-clause-held
returns-then-held-clause-held c = held_already c.args.pool.now c.args.constants.now c.args.id.0 (c.held.ensures.0 c.if-held.true)

pub returns-clause-held : goal.returns-clause-held
returns-clause-held c =
    zero_held c.hold.result c.args.pool.now c.args.constants.now c.hold.new.self c.args.id.0 c.in_ok-zero.field-0 (let v = c.vanishes.ensures in let e = c.if-not-vanishes.false in cc)
    (λ h. (let t = c.held.ensures.1 h in let f = c.if-held.false in absurd cc)) c.in_ok-zero.ensures.terms c.in_ok-zero.ensures.mass c.hold.ensures.held
