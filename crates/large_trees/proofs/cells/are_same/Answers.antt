use Rattle.large_trees.proofs.Equal.{same_lines}
use Rattle.large_trees.proofs.cells.are_same.Goals as goal

pub returns : goal.returns
returns c = same_lines c.args.cells.now c.args.next.now c.eq.result c.eq.ensures
