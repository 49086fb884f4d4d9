use Rattle.std.proofs.Common.{slice_index, refl}
use Rattle.large_trees.proofs.Units.{entry_more}
use Rattle.large_trees.proofs.unit.least_entry.Goals as goal

pub loop-i-preserved : goal.loop-i-preserved
loop-i-preserved c =
    entry_more c.args.types.now.scaling c.loop-i.i c.loop-i.least (slice_index c.args.types.now.scaling c.loop-i.i) c.min-least.result c.loop-i.invariant refl c.min-least.ensures
