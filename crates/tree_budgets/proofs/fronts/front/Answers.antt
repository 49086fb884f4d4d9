use Rattle.std.proofs.lemmas.Slice.Eq.{strip_suffix_is}
use Rattle.tree_budgets.proofs.Equal.{EdgeType-Decides}
use Rattle.tree_budgets.proofs.fronts.front.Goals as goal

pub returns : goal.returns
returns c = strip_suffix_is EdgeType-Decides c.args.edges.now c.args.end.now c.strip_suffix.result c.strip_suffix.ensures.cases
