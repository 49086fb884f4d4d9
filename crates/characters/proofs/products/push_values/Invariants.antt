use Rattle.std.proofs.Common.{◌≡◌, ◌++◌, map, drop}
use Rattle.tree_pool.specs.Content.{trees_of}
use Rattle.character_tables.specs.Rows.{rows_over}
use Rattle.characters.specs.Sums.{value_of}
use Rattle.characters.proofs.products.push_values.Given as goal

abbrev pub invariant-loop-id : goal.invariant-loop-id
invariant-loop-id l =
    let value = value_of (rows_over l.pool l.table.rows) in
    l.found.items ++ map value (trees_of l.pool (drop l.id-index l.ids)) ≡ l.fn.found.items ++ map value (trees_of l.pool l.ids)
