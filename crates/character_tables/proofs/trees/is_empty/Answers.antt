use Rattle.character_tables.proofs.EmptyTrees.{edges_filled}
use Rattle.character_tables.proofs.trees.is_empty.Goals as goal

pub returns-else-is_empty : goal.returns-else-is_empty
returns-else-is_empty c = edges_filled c.args.t.now c.is_empty.result c.is_empty.ensures c.if-is_empty.false
