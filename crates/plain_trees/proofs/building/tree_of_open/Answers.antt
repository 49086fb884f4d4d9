use Rattle.std.proofs.Common.{◌∙◌}
use Rattle.plain_trees.proofs.Builds.{grafted_over}
use Rattle.plain_trees.proofs.building.tree_of_open.Goals as goal

pub returns : goal.returns
returns c = c.tree_with.ensures ∙ grafted_over c.args.o.n.entries c.args.o.edges
