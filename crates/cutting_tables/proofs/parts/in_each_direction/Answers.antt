use Rattle.std.proofs.Common.{arith}
use Rattle.cutting_tables.proofs.FiveEntries.{no_limits, limits_next}
use Rattle.cutting_tables.proofs.parts.in_each_direction.Goals as goal

pub loop-i-init : goal.loop-i-init
loop-i-init c = no_limits

pub loop-i-preserved : goal.loop-i-preserved
loop-i-preserved c = λ p five.
    let most = c.requires.scaling.most in
    limits_next c.loop-i.i c.args.most p c.loop-i.entries (omega (arith, most, five, c.loop-i-test.true)) (c.loop-i.invariant p five)
