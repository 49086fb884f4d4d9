use Rattle.std.proofs.Common.{take}
use Rattle.std.specs.List.{All}
use Rattle.large_trees.specs.Charges.{IsRowBound}
use Rattle.large_trees.proofs.bounded.are_bounds.Given as goal

abbrev pub invariant-loop-row : goal.invariant-loop-row
invariant-loop-row l = All (IsRowBound l.types l.charge l.bounds) (take l.row-index l.rule.rows)
