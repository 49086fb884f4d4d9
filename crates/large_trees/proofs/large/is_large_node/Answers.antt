use Rattle.std.proofs.Common.{◌≤◌, length, ap, rules}
use Rattle.large_trees.specs.declared.excess.Excess.{Excess}
use Rattle.large_trees.proofs.LargeTrees.{node_none}
use Rattle.large_trees.proofs.large.is_large_node.Goals as goal

pub is_large_cell-requires-clause-cell : goal.is_large_cell-requires-clause-cell
is_large_cell-requires-clause-cell c = c.node_line-line.ensures.small c.loop-class.class

pub returns-clause-no : goal.returns-clause-no
returns-clause-no c = λ e h.
    let all : length c.node_line-line.result.cells ≤ c.loop-class.class = search rules in
    let regularity = ap (λ (x : Excess). x.a) c.node_regularity-regularity.ensures.value in
    node_none c.args.eq.now c.args.count c.args.cells.now c.args.unit c.args.node.now c.node_line-line.result.cells c.node_regularity-regularity.result.a c.planted_lack-planted.result c.loop-class.class regularity
    c.planted_lack-planted.ensures.value c.requires.low c.node_line-line.ensures.least all c.loop-class.invariant h
