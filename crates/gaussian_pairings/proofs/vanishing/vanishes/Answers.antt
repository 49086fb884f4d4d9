use Rattle.std.proofs.Common.{refl}
use Rattle.gaussian_pairings.proofs.DirectionSums.{root_decides, rest_decides}
use Rattle.gaussian_pairings.proofs.vanishing.vanishes.Goals as goal

pub returns-then-not-is_zero : goal.returns-then-not-is_zero
returns-then-not-is_zero c = root_decides c.args.types.now c.args.pool.now c.args.id.0 c.node.result.0.entries c.node.result.1.now c.node.ensures.tree (cc)

pub returns-then-is_odd : goal.returns-then-is_odd
returns-then-is_odd c =
    rw (← rest_decides c.args.types.now c.args.pool.now c.args.id.0 c.node.result.0.entries c.node.result.1.now c.node.ensures.tree (cc), ← c.is_odd.ensures, c.if-is_odd.true) refl

pub returns-else-is_odd : goal.returns-else-is_odd
returns-else-is_odd c =
    rw (← rest_decides c.args.types.now c.args.pool.now c.args.id.0 c.node.result.0.entries c.node.result.1.now c.node.ensures.tree (cc), ← c.is_odd.ensures, c.if-is_odd.false) c.has_integrated.ensures
