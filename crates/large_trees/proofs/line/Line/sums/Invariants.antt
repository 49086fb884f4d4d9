use Rattle.std.proofs.Common.{ℕ, ◌+◌, ◌<◌}
use Rattle.large_trees.specs.declared.excess.Excess.{Excess}
use Rattle.large_trees.specs.Lines.{Joins, HasCell}
use Rattle.large_trees.specs.Sums.{IsShifted}
use Rattle.large_trees.proofs.line.Line.sums.Given as goal

abbrev pub invariant-loop-class : goal.invariant-loop-class
invariant-loop-class l =
    Joins l.initial.sums.cells (λ m v. (j : ℕ) × (j < l.class) × ((x : Excess) × HasCell l.self.cells j x × IsShifted l.most (l.weight + j) x l.line.cells m v)) l.sums.cells
