use Rattle.std.proofs.Common.{◌-◌, length, arith}
use Rattle.tree_listing.proofs.Plans.{level_rows}
use Rattle.tree_listing.proofs.growth.growths.Goals as goal

pub put_stems-requires-clause-rows : goal.put_stems-requires-clause-rows
put_stems-requires-clause-rows c =
    level_rows c.args.pool.now c.args.plan.now c.args.row c.args.levels.now (length c.args.levels.now - 1 - c.loop-e.e) c.index-levels-above.result c.as_slice.result.now c.requires.levels (omega (arith, c.loop-e-test.true)) c.as_slice.ensures
