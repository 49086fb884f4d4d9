use Rattle.std.proofs.Common.{◌≡◌, subst, rules}
use Rattle.large_trees.specs.Lines.{AreSmall}
use Rattle.large_trees.specs.Cells.{line_at}
use Rattle.large_trees.proofs.Sizes.{cells_small}
use Rattle.large_trees.proofs.nodes.with_edge.Goals as goal

pub sums-requires-clause-line : goal.sums-requires-clause-line
sums-requires-clause-line c =
    let is : line_at c.args.cells.now c.args.edge.now.kind.0 ≡ c.in-Some.above.now.cells = search rules in
    subst AreSmall is (cells_small c.args.count c.args.cells.now c.requires.cells c.args.edge.now.kind.0)
