use Rattle.std.proofs.Common.{◌≡◌, ℕ, ◌<◌, length}
use Rattle.large_trees.specs.Lines.{IsLeast}
use Rattle.large_trees.specs.Cells.{line_at}
use Rattle.large_trees.specs.Sums.{HasExcess}
use Rattle.large_trees.proofs.cells.next_cells.Given as goal

abbrev pub invariant-loop-kind : goal.invariant-loop-kind
invariant-loop-kind l = record {
  count : length l.next.items ≡ l.kind;
  lines : (k : ℕ) → k < l.kind → IsLeast (HasExcess l.eq l.rule l.count l.cells k) (line_at l.next.items k);
}
