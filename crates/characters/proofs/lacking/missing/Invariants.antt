use Rattle.std.proofs.Common.{◌≡◌, ◌++◌, map, drop}
use Rattle.tree_pool.specs.Content.{trees_of}
use Rattle.character_tables.specs.Rows.{rows_over}
use Rattle.characters.specs.Asked.{AreTrees, asked_in, missing}
use Rattle.characters.proofs.lacking.missing.Given as goal

abbrev pub invariant-loop-one : goal.invariant-loop-one
invariant-loop-one l =
    let gs = rows_over l.pool l.g.rows in
    let hs = rows_over l.pool l.h.rows in
    record {
      trees : trees_of l.pool l.found.items ++ missing gs hs (map (asked_in l.pool) (drop l.one-index l.asked)) ≡ missing gs hs (map (asked_in l.pool) l.asked);
      known : AreTrees l.pool l.found.items;
    }
