use Rattle.large_trees.specs.Lines.{Joins}
use Rattle.large_trees.specs.Sums.{HasNode}
use Rattle.large_trees.proofs.RoundLines.{UpTo}
use Rattle.large_trees.proofs.rounds.put_nodes.Given as goal

abbrev pub invariant-loop-node : goal.invariant-loop-node
invariant-loop-node l = Joins l.initial.line.cells (UpTo (HasNode l.eq l.count l.cells l.row.kernel.0) l.row.nodes l.initial.line.cells l.node-index) l.line.cells
