use Rattle.large_trees.specs.Limits.{AreLimited}
use Rattle.large_trees.proofs.Families.{AreCells}
use Rattle.large_trees.proofs.cells.cells.Given as goal

abbrev pub invariant-loop-round : goal.invariant-loop-round
invariant-loop-round l = record {
  cells : AreCells l.eq l.rule l.count l._round l.cells.items;
  limited : AreLimited l.cells.items;
}
