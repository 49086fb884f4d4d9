use Rattle.std.proofs.Common.{List, ◌++◌, ◌∷◌, [], ℕ, sym, subst}
use Rattle.degree_numbers.specs.declared.types.Types.{Types}
use Rattle.character_tables.specs.declared.table.CharacterRow.{CharacterRow}
use Rattle.character_tables.specs.Reading.{IsRowOf, AreReadRows}
use Rattle.character_tables.specs.Rows.{Row}
use Rattle.character_tables.specs.Texts.{HasLines}
use Rattle.character_tables.proofs.RowsRead.{none_of, some_of}
use Rattle.character_tables.proofs.Tables.{known_grown, no_row, test_fails, test_passes}
use Rattle.character_tables.proofs.rows.read_next_row.Goals as goal

pub returns-in_default-clause-read : goal.returns-in_default-clause-read
returns-in_default-clause-read c = λ ls read rs h.
    let none = none_of _ _ c.in_ok-row.field-0 c.in_ok-row.ensures.row c.in_default.is in
    no_row c.args.pool.now c.read_row.new.pool c.args.rows.now ls c.args.line.now c.laws.ensures.types c.in_ok-row.ensures.grown read
    (subst (λ (ty : Types). (r : Row) → IsRowOf ty c.args.line.now r → ⊥) (sym c.requires.types) none) rs
    (subst (λ (ty : Types). HasLines ty (ls ++ c.args.line.now ∷ []) rs) (sym c.requires.types) h)

pub is_behind-requires-clause-rows : goal.is_behind-requires-clause-rows
is_behind-requires-clause-rows c = rw c.as_slice.ensures (known_grown c.args.pool.now c.read_row.new.pool c.args.rows.now c.in_ok-row.ensures.grown c.requires.known)

pub returns-then-not-is_behind-clause-read : goal.returns-then-not-is_behind-clause-read
returns-then-not-is_behind-clause-read c = λ ls read rs h.
    let is = some_of _ _ c.in_ok-row.field-0 c.in-Some.row c.in_ok-row.ensures.row c.in-Some.is in
    test_fails c.args.pool.now c.read_row.new.pool c.args.rows.now ls c.args.line.now c.laws.ensures.types c.in_ok-row.ensures.grown read c.in-Some.row is
    c.is_behind.result (rw c.as_slice.ensures at c.is_behind.ensures) c.if-not-is_behind.true rs
    (subst (λ (ty : Types). HasLines ty (ls ++ c.args.line.now ∷ []) rs) (sym c.requires.types) h)

pub returns-clause-read : goal.returns-clause-read
returns-clause-read c = λ ls read.
    let is = some_of _ _ c.in_ok-row.field-0 c.in-Some.row c.in_ok-row.ensures.row c.in-Some.is in
    rw c.in_ok-push.ensures.ok
    (test_passes c.args.pool.now c.read_row.new.pool c.args.rows.now ls c.args.line.now c.laws.ensures.types c.in_ok-row.ensures.grown read c.in-Some.row is
    c.is_behind.result (rw c.as_slice.ensures at c.is_behind.ensures) c.if-not-is_behind.false)
