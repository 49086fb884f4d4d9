-- Answers for a table that is given as a text.
--   IsNoTable ty text e == e is the refusal of the text: it has more than 65,536 bytes, which is
--       said by the first number past that; or it leaves the grammar of tables, first at this line
--   IsForTable answers ty text r == r is one of the answers for the rows of the table that has this
--       text; or the refusal of a text that no table over the types has
use Rattle.std.specs.Prelude.{◌≡◌, ◌+◌, ◌<◌, ◌≤◌, ◌⊎◌, ℕ, pos, List, length, Result, Err}
use Rattle.limits.specs.declared.TheConstants.{MOST_FILE_BYTES}
use Rattle.degree_numbers.specs.declared.types.Types.{Types}
use Rattle.equation_document.specs.declared.fault.Which.TheVariants.{Bytes}
use Rattle.character_tables.specs.Rows.{Row}
use Rattle.character_tables.specs.Texts.{IsTableText, IsTableRefused}
use Rattle.character_tables.specs.declared.error.CharacterError.TheVariants as tables
use Rattle.workbench_core.specs.declared.refusal.Refusal.{Refusal}
use Rattle.workbench_core.specs.declared.refusal.Refusal.TheVariants.{Limit, TableRefused}

abbrev pub IsNoTable : Types → List ℕ → Refusal → Type 0
IsNoTable ty text e =
    ((MOST_FILE_BYTES < length text) × (e ≡ Limit Bytes (pos (MOST_FILE_BYTES + 1))))
    ⊎ ((length text ≤ MOST_FILE_BYTES) × (line : ℕ) × IsTableRefused ty text (tables.TableRefused line)
    × (e ≡ TableRefused line))

abbrev pub IsForTable : {T : Type 0} → (List Row → Result T Refusal → Type 0) → Types → List ℕ →
    Result T Refusal → Type 0
IsForTable answers ty text r =
    ((length text ≤ MOST_FILE_BYTES) × (rows : List Row) × IsTableText ty text rows
    × answers rows r)
    ⊎ ((e : Refusal) × IsNoTable ty text e × (r ≡ Err e))
