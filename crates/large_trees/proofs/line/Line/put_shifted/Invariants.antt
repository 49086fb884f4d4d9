use Rattle.std.proofs.Common.{◌≡◌, ℕ, ◌+◌, ◌<◌, min}
use Rattle.large_trees.specs.declared.excess.Excess.{Excess}
use Rattle.large_trees.specs.Lines.{Joins, HasCell, excess_plus}
use Rattle.large_trees.proofs.line.Line.put_shifted.Given as goal

abbrev pub invariant-loop-above : goal.invariant-loop-above
invariant-loop-above l =
    Joins l.initial.self.cells (λ m v. (j : ℕ) × (j < l.above) × ((y : Excess) × HasCell l.line.cells j y × (m ≡ min l.most (l.class + j)) × (v ≡ excess_plus l.x y))) l.self.cells
