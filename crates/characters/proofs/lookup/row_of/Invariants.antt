use Rattle.std.proofs.Common.{◌≡◌, drop}
use Rattle.tree_pool.specs.Content.{tree_at}
use Rattle.character_tables.specs.Rows.{rows_over}
use Rattle.characters.specs.Sums.{row_of}
use Rattle.characters.proofs.lookup.row_of.Given as goal

abbrev pub invariant-loop-row : goal.invariant-loop-row
invariant-loop-row l =
    row_of (rows_over l.pool (drop l.row-index l.row-items)) (tree_at l.pool l.id.0) ≡ row_of (rows_over l.pool l.table.rows) (tree_at l.pool l.id.0)
