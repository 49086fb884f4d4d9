use Rattle.std.proofs.Common.{◌≡◌, ◌++◌, drop}
use Rattle.tree_pool.specs.Content.{trees_of}
use Rattle.character_tables.specs.Rows.{rows_over}
use Rattle.characters.specs.Asked.{AreTrees}
use Rattle.characters.specs.Sums.{lacking}
use Rattle.characters.proofs.lacking.push_all_lacking.Given as goal

abbrev pub invariant-loop-id : goal.invariant-loop-id
invariant-loop-id l =
    let rs = rows_over l.pool l.table.rows in
    record {
      trees : trees_of l.pool l.found.items ++ lacking rs (trees_of l.pool (drop l.id-index l.ids)) ≡ trees_of l.pool l.fn.found.items ++ lacking rs (trees_of l.pool l.ids);
      known : AreTrees l.pool l.fn.found.items → AreTrees l.pool l.found.items;
    }
