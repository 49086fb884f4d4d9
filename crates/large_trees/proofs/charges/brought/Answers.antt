use Rattle.large_trees.proofs.TypeBounds.{degree_read}
use Rattle.large_trees.proofs.charges.brought.Goals as goal

pub fine-requires : goal.fine-requires
fine-requires c = degree_read c.args.types.now c.args.kernel.0 c.standard_degree.result c.requires.types c.standard_degree.ensures
