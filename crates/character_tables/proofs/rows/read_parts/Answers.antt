use Rattle.plain_trees.specs.Text.{tree_text}
use Rattle.character_tables.specs.Texts.{number_text}
use Rattle.character_tables.proofs.RowsRead.{none_of, no_number, no_tree}
use Rattle.character_tables.proofs.rows.read_parts.Goals as goal

pub returns-in_default : goal.returns-in_default
returns-in_default c = λ r h. c.in_default.ensures (tree_text c.args.types.now r.0) (number_text r.1) h.1

pub returns-in_default-read_number : goal.returns-in_default-read_number
returns-in_default-read_number c = λ r h.
    no_number c.args.types.now c.args.line.now c.in-Some.text.now c.in-Some.digits.now c.in-Some.ensures.0 c.in-Some.ensures.1 r h c.in_default-read_number.ensures.back

pub returns-in-None : goal.returns-in-None
returns-in-None c = λ r h.
    no_tree c.args.types.now c.args.line.now c.in-Some.text.now c.in-Some.digits.now c.in-Some.ensures.0 c.in-Some.ensures.1 r h
    (none_of _ _ c.in_ok-tree.field-0 c.in_ok-tree.ensures c.in-None.is)
