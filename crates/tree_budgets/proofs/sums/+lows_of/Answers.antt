use Rattle.tree_budgets.proofs.SumBounds.{parts_modest}
use Rattle.tree_budgets.proofs.sums.+lows_of.Goals as goal

pub plus-requires-clause-d : goal.plus-requires-clause-d
plus-requires-clause-d t c =
    (parts_modest c.args.types.now c.args.lows.now c.args.edges.now _ c.edge_low.result c.lows_of.result c.in-len1-up.len_at_least c.requires.types c.requires.lows c.requires.usable c.edge_low.ensures c.lows_of.ensures).0

pub plus-requires-clause-e : goal.plus-requires-clause-e
plus-requires-clause-e t c =
    (parts_modest c.args.types.now c.args.lows.now c.args.edges.now _ c.edge_low.result c.lows_of.result c.in-len1-up.len_at_least c.requires.types c.requires.lows c.requires.usable c.edge_low.ensures c.lows_of.ensures).1
