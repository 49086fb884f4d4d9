use Rattle.plain_trees.proofs.DegreeBounds.{scaling_most}
use Rattle.pooled_cuttings.proofs.steps.shift_size.Goals as goal

pub scaled_size-requires : goal.scaled_size-requires
scaled_size-requires c = record { scaling = scaling_most c.args.types.now c.requires.types }
