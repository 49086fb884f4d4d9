use Rattle.large_trees.specs.Lines.{Joins}
use Rattle.large_trees.specs.Sums.{HasRow}
use Rattle.large_trees.proofs.RoundLines.{UpTo}
use Rattle.large_trees.proofs.rounds.next_line.Given as goal

abbrev pub invariant-loop-row : goal.invariant-loop-row
invariant-loop-row l = Joins l.initial.line.cells (UpTo (HasRow l.eq l.count l.cells l.kind) l.rule.rows l.initial.line.cells l.row-index) l.line.cells
