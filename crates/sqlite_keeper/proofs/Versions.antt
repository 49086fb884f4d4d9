-- What the version of a store answers, and what putting it leaves.
use Rattle.std.proofs.Common.{◌≡◌, ◌≢◌, ℕ, List, [], ◌∷◌, length, map, is_some, slice_get, if◌then◌else◌, None, Ok, Err, Result, OnOk, refl, ap, subst, ◌∙◌, arith, Ordering, Less, Equal, Greater}
use Rattle.std.specs.List.{flat_map}
use Rattle.std.specs.Ordering.{match_ordering}
use Rattle.std.proofs.lemmas.List.{length-map}
use Rattle.std.proofs.lemmas.List.Sorted.{length_permutation}
use Rattle.sqlite.specs.declared.error.Error.{Error}
use Rattle.sqlite.specs.Order.{Row, value_cmp}
use Rattle.sqlite.specs.Query.{IsAnswer, output, Output}
use Rattle.sqlite.specs.Program.{overlay}
use Rattle.sqlite.specs.Tree.{rowid, put_row}
use Rattle.sqlite.specs.Edit.{numbered, put_all}
use Rattle.sqlite.specs.Cast.{cast_row}
use Rattle.sqlite.specs.Rowids.TheVariants.{Chosen}
use Rattle.sqlite.specs.Command.TheVariants.{Insert}
use Rattle.sqlite.specs.Source.TheVariants.{Values}
use Rattle.sqlite.specs.Effect.{Database}
use Rattle.sqlite.specs.Does.{Does}
use Rattle.sqlite.specs.State.{State, mode_of, Executes, ExecutesInside, Shown}
use Rattle.sqlite.specs.Listing.{understood}
use Rattle.sqlite.proofs.Callers.{statement_of, runs_as}
use Rattle.result_keeper.specs.Kept.{Kept}
use Rattle.sqlite_keeper.specs.Schema.{store_schema}
use Rattle.sqlite_keeper.specs.Tables.{store_rows, version_told, version_in, IsStore}
use Rattle.sqlite_keeper.specs.Told.{kept_in}
use Rattle.sqlite_keeper.specs.Changes.{HasTables, in_version_2}
use Rattle.sqlite_keeper.proofs.Statements.{answer_of, numbered_store, version_text, version_query, version_is, insert_version_text, version_terms, insert_version_is}
use Rattle.sqlite_keeper.proofs.Counting.{all_matches}
use Rattle.sqlite_keeper.proofs.Writing.{adds}
use Rattle.sqlite_keeper.proofs.Making.{same_tables}

same_width : (rows stored : List Row) → length rows ≡ length stored → (if is_some (slice_get rows 0) then 2 else 1) ≡ version_told stored
same_width [] [] h = refl
same_width [] (s ∷ stored) h = absurd (omega (arith, h))
same_width (r ∷ rows) [] h = absurd (omega (arith, h))
same_width (r ∷ rows) (s ∷ stored) h = refl

-- a row is shown where the store has a version
pub version_of_rows : (old new : State) (rows : List Row) → IsStore old.now → Shown version_text [] old new rows → (if is_some (slice_get rows 0) then 2 else 1) ≡ version_in old.now
version_of_rows old new rows is h =
    let stored = store_rows old.now in
    let a : IsAnswer version_query (overlay old.now.trees []) [] rows = answer_of version_text version_query _ version_is [] old new rows is.schema h in
    let all = flat_map (λ (r : Row). ([] ∷ r ∷ []) ∷ []) stored in
    let kept : a.kept ≡ map (output version_query) all = a.distinct ∙ ap (map (output version_query)) a.grouped in
    let shown : length rows ≡ length a.ordered = ap length a.shown ∙ length-map a.ordered (λ (o : Output). o.1) in
    let width : length rows ≡ length stored =
    shown ∙ length_permutation a.kept a.ordered a.same ∙ ap length kept ∙ length-map all (output version_query) ∙ all_matches stored in
    same_width rows stored width

not_four : ◌≢◌ {A = ℕ} 0 4
not_four e = omega (arith, e)

two_not_four : ◌≢◌ {A = ℕ} 2 4
two_not_four e = omega (arith, e)

some_row : (new : Row) (rows : List Row) → version_told (put_row new rows) ≡ 2
some_row new [] = refl
some_row new (r ∷ rows) =
    elim (value_cmp (rowid r) (rowid new)) as (λ (o : Ordering). version_told (match_ordering o (r ∷ put_row new rows) (new ∷ rows) (new ∷ r ∷ rows)) ≡ 2) [
      | Less ↦ refl
      | Equal ↦ refl
      | Greater ↦ refl
    ]

-- the version goes into a table of its own
pub version_kept : (old new : State) (count : ℕ) → IsStore old.now → Executes insert_version_text [] old new (Ok count) → HasTables (in_version_2 (kept_in old.now)) new.now
version_kept old new count is h =
    let db = old.now.trees in
    let command = Insert 2 (Values version_terms 3) in
    let w = runs_as insert_version_text [] old new store_schema is.schema command insert_version_is.command insert_version_is.plain count h in
    let text = statement_of insert_version_text (understood store_schema insert_version_text) in
    let done = subst (λ s. Does old.step_limit (mode_of old) [] (record old.now { schema = s }) text None command (Ok (w.tally, new.now))) is.schema w.changed in
    let it = adds old.step_limit (mode_of old).keys (mode_of old) [] numbered_store.name 4 numbered_store.columns numbered_store.key numbered_store.primary [] [] numbered_store.checks 2 (Values version_terms 3) db w.tally new.now done in
    let version : version_in new.now ≡ 2 = ap version_told (it.rows ∙ ap (λ g. put_all (db 4) (numbered Chosen (db 4) (map (cast_row numbered_store) g))) it.source.1) ∙ some_row _ (db 4) in
    same_tables old.now new.now is it.schema (it.others.0 not_four) (it.others.1.0 two_not_four) version

pub version_within : (old new : State) (r : Result ℕ Error) → IsStore old.now → ExecutesInside 0 insert_version_text [] old new r → OnOk r (HasTables (in_version_2 (kept_in old.now)) new.now)
version_within old new (Err e) is h = tt
version_within old new (Ok n) is h = version_kept old new n is h.0

pub then_version : (r : Result ℕ Error) (k : Kept) (mid new : Database) → HasTables k mid → (IsStore mid → OnOk r (HasTables (in_version_2 (kept_in mid)) new)) → OnOk r (HasTables (in_version_2 k) new)
then_version (Err e) k mid new t f = tt
then_version (Ok n) k mid new t f =
    let it = f t.is in
    record { is = it.is; version = it.version; projects = it.projects ∙ t.projects; rows = it.rows ∙ t.rows }
