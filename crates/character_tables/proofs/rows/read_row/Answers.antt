use mir.Syntax.{w128}
use mir.Val.{SFits}
use Rattle.std.proofs.Common.{◌∙◌, rules}
use Rattle.std.proofs.lemmas.Int.{to_z-of_z}
use Rattle.plain_trees.specs.View.{plain}
use Rattle.character_tables.proofs.RowsRead.{some_of, row_read}
use Rattle.character_tables.proofs.rows.read_row.Goals as goal

pub returns-in_ok-tree-in-Some-clause-row : goal.returns-in_ok-tree-in-Some-clause-row
returns-in_ok-tree-in-Some-clause-row c =
    let z = c.in-Some.value in
    let fits : SFits w128 z = search rules in
    let cast = to_z-of_z w128 z fits in
    let is = some_of _ _ c.in_ok-tree.field-0 (c.in-Some.tree, z) c.in_ok-tree.ensures c.in-Some.is in
    rw cast
    (row_read c.intern_tree.new.self c.in_ok-tree-in-Some.tree c.args.types.now (plain c.in-Some.tree) c.args.line.now z c.in_ok-tree-in-Some.ensures.tree
    (c.intern_tree.ensures.grown.types ∙ c.requires.types) is)
