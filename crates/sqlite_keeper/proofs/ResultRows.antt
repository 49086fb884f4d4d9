-- What the statements on the table of results make of it.
use Rattle.std.proofs.Common.{◌≡◌, ◌≢◌, ◌&&◌, if◌then◌else◌, not, inl, inr, ℕ, ◌++◌, List, [], ◌∷◌, map, filter, Bool, true, false, is_some, None, Ok, Err, Result, refl, sym, ap, subst, subst₂, ◌∙◌, arith, All, OnOk, Ordering, Less, Equal, Greater}
use Rattle.std.specs.List.{IsDistinct, list_all, flat_map}
use Rattle.std.specs.List.Sorted.{IsPermutation}
use Rattle.std.specs.Ordering.{eq_by_cmp, is_eq, ordering_then}
use Rattle.std.specs.Cmp.{eq_by_cmp_equiv}
use Rattle.std.specs.FinMap.{find, from_entries, insert, contains_key, get-from_entries}
use Rattle.std.proofs.lemmas.Bool.{cases_Bool}
use Rattle.std.proofs.lemmas.List.{map_push}
use Rattle.std.proofs.lemmas.List.Elements.{All-from_recursion, recursion_from_All}
use Rattle.std.proofs.lemmas.List.Sorted.{IsPermutation-map}
use Rattle.std.proofs.lemmas.Map.Keys.{IsDistinct-IsPermutation}
use Rattle.sqlite_value.proofs.OrderLemmas.{value_cmp-Blob}
use Rattle.sqlite.specs.declared.error.Error.{Error}
use Rattle.sqlite.specs.declared.types.Value.{Value}
use Rattle.sqlite.specs.declared.types.Value.TheVariants.{Int, Blob, Null}
use Rattle.sqlite.specs.Order.{Row, column, bytes, value_cmp}
use Rattle.sqlite.specs.Term.{Env, holds}
use Rattle.sqlite.specs.Query.{IsAnswer, output, Output}
use Rattle.sqlite.specs.Program.{overlay}
use Rattle.sqlite.specs.Tree.{IsTable, put_row}
use Rattle.sqlite.specs.Edit.{numbered, next_rowid, is_taken, are_fresh, put_all}
use Rattle.sqlite.specs.Cast.{cast_row}
use Rattle.sqlite.specs.Rowids.TheVariants.{Chosen}
use Rattle.sqlite.specs.Command.TheVariants.{Insert, Delete}
use Rattle.sqlite.specs.Source.TheVariants.{Values}
use Rattle.sqlite.specs.Effect.{Database}
use Rattle.sqlite.specs.Does.{Does}
use Rattle.sqlite.specs.State.{State, mode_of, Executes, ExecutesInside}
use Rattle.sqlite.specs.Listing.{understood}
use Rattle.sqlite.proofs.Callers.{statement_of, runs_as}
use Rattle.sqlite_trees.proofs.TreeLemmas.{all-put_row, IsTable-put_row}
use Rattle.result_keeper.specs.Kept.{Kept, bytes_cmp, row_cmp, Rows, put_rows, with_rows}
use Rattle.result_keeper.specs.Entries.{AreApart, pair_of}
use Rattle.result_keeper.specs.declared.StoredRow.{StoredRow}
use Rattle.result_keeper.proofs.Orders.{bytes_total, bytes_exact, row_total, row_exact}
use Rattle.result_keeper.proofs.Maps.{same_in_any_order}
use Rattle.result_keeper.proofs.PlaceLemmas as place
use Rattle.sqlite_keeper.specs.Schema.{store_schema}
use Rattle.sqlite_keeper.specs.Tables.{project_rows, result_rows, store_rows, version_told, project_entry, result_entry, results_in, AreProjects, AreResults, IsResultRow, IsStore}
use Rattle.sqlite_keeper.specs.Told.{kept_in}
use Rattle.sqlite_keeper.specs.Changes.{HasTables, without_row}
use Rattle.sqlite_keeper.proofs.Statements.{numbered_result, delete_result_text, delete_result_query, by_two_parameters, delete_result_is, insert_result_text, result_terms, insert_result_is}
use Rattle.sqlite_keeper.proofs.Queries.{blob_test}
use Rattle.sqlite_keeper.proofs.Removing.{IsNumbered, taken_out, all_filter, ordered_filter, filter_alike, put_permutes}
use Rattle.sqlite_keeper.proofs.Writing.{removes, adds, cast_null}
use Rattle.sqlite_keeper.proofs.ProjectRows.{weaken, not_true, apart_from, is_none, put_again, removed_key}

abbrev is_under : List ℕ → Value → Bool
is_under key v = is_eq (value_cmp v (Blob key))

abbrev pub is_keyed : List ℕ → List ℕ → Row → Bool
is_keyed c t r = is_under c (column r 1) && is_under t (column r 2)

abbrev step : List ℕ → List ℕ → Row → List Env
step c t r = if list_all (holds ((Blob c ∷ Blob t ∷ []) ∷ r ∷ [])) by_two_parameters then ((Blob c ∷ Blob t ∷ []) ∷ r ∷ []) ∷ [] else []

zero_is_not : ◌≢◌ {A = ℕ} 0 2
zero_is_not e = omega (arith, e)

four_is_not : ◌≢◌ {A = ℕ} 4 2
four_is_not e = omega (arith, e)

shows_ids : (c t : List ℕ) (rows : List Row) → map (λ (o : Output). o.1) (map (output delete_result_query) (flat_map (step c t) rows)) ≡ map (λ r. column r 0 ∷ []) (filter (is_keyed c t) rows)
shows_ids c t [] = refl
shows_ids c t (r ∷ rows) =
    elim (cases_Bool (is_under c (column r 1))) [
      | inl a ↦ elim (cases_Bool (is_under t (column r 2))) [
        | inl b ↦ rw (blob_test (column r 1) c, blob_test (column r 2) t, a, b) (ap (λ (l : List Row). (column r 0 ∷ []) ∷ l) (shows_ids c t rows))
        | inr b ↦ rw (blob_test (column r 1) c, blob_test (column r 2) t, a, b) (shows_ids c t rows)
      ]
      | inr a ↦ rw (blob_test (column r 1) c, a) (shows_ids c t rows)
    ]

-- the test of the row is that of the entry
one_key : (v : Value) (key : List ℕ) → v ≡ Blob (bytes v) → is_under key v ≡ eq_by_cmp bytes_cmp key (bytes v)
one_key v key e = ap (is_under key) e ∙ ap is_eq (value_cmp-Blob (bytes v) key) ∙ (eq_by_cmp_equiv bytes_total).symm (bytes v) key

both_equal : (a b : Ordering) → (is_eq a && is_eq b) ≡ is_eq (ordering_then a b)
both_equal Less b = refl
both_equal Equal b = refl
both_equal Greater b = refl

keyed_entry : (c t : List ℕ) (r : Row) → IsResultRow r → is_keyed c t r ≡ eq_by_cmp row_cmp (c, t) (result_entry r).0
keyed_entry c t r is = (λ i. one_key (column r 1) c is.context i && one_key (column r 2) t is.tree i) ∙ both_equal (bytes_cmp c (bytes (column r 1))) (bytes_cmp t (bytes (column r 2)))

pub record RemovesResult (c t : List ℕ) (old new : Database) : Type 0 where
  pub schema : new.schema ≡ store_schema
  pub projects : project_rows new ≡ project_rows old
  pub store : store_rows new ≡ store_rows old
  pub results : result_rows new ≡ filter (λ r. not (is_keyed c t r)) (result_rows old)

removes_result : (old new : State) (c t : List ℕ) (count : ℕ) → IsStore old.now → Executes delete_result_text (Blob c ∷ Blob t ∷ []) old new (Ok count) → RemovesResult c t old.now new.now
removes_result old new c t count is h =
    let params = Blob c ∷ Blob t ∷ [] in
    let db = old.now.trees in
    let rows = result_rows old.now in
    let command = Delete 1 (record { lets = []; body = delete_result_query }) in
    let w = runs_as delete_result_text params old new store_schema is.schema command delete_result_is.command delete_result_is.plain count h in
    let text = statement_of delete_result_text (understood store_schema delete_result_text) in
    let done = subst (λ s. Does old.step_limit (mode_of old) params (record old.now { schema = s }) text None command (Ok (w.tally, new.now))) is.schema w.changed in
    let it = removes old.step_limit (mode_of old).keys (mode_of old) params numbered_result.name 2 numbered_result.columns None [] ((1 ∷ 2 ∷ []) ∷ []) numbered_result.orders [] 1 (record { lets = []; body = delete_result_query }) db w.tally new.now done in
    let a : IsAnswer delete_result_query (overlay db []) params it.found = it.answers.answer Null in
    let kept = a.distinct ∙ ap (map (output delete_result_query)) a.grouped in
    let found : IsPermutation (map (λ r. column r 0 ∷ []) (filter (is_keyed c t) rows)) it.found =
    subst₂ IsPermutation (ap (map (λ (o : Output). o.1)) kept ∙ shows_ids c t rows) (sym a.shown) (IsPermutation-map (λ (o : Output). o.1) a.kept a.ordered a.same) in
    let good = weaken IsResultRow IsNumbered (λ r p. p.number) rows (recursion_from_All IsResultRow rows is.results.typed) in
    record {
      schema = it.schema;
      projects = it.others.0 zero_is_not;
      store = it.others.1.1.0 four_is_not;
      results = it.rows ∙ taken_out (is_keyed c t) (λ r. column r 0 ∷ []) (λ r. refl) rows it.found good is.results.ordered found;
    }

-- the store after it is the one without the row
removed_tables : (c t : List ℕ) (old new : Database) → IsStore old → RemovesResult c t old new → HasTables (without_row c t (kept_in old)) new
removed_tables c t old new is r =
    let rows = result_rows old in
    let good = recursion_from_All IsResultRow rows is.results.typed in
    let alike : filter (λ x. not (is_keyed c t x)) rows ≡ filter (λ x. not (eq_by_cmp row_cmp (c, t) (result_entry x).0)) rows = filter_alike IsResultRow _ _ (λ x p. ap not (keyed_entry c t x p)) rows good in
    record {
      is = record {
        schema = r.schema;
        projects = subst AreProjects (sym r.projects) is.projects;
        results = subst AreResults (sym r.results) (record {
          typed = All-from_recursion IsResultRow _ (all_filter IsResultRow _ rows good);
          ordered = ordered_filter _ rows is.results.ordered;
          apart = subst (λ l. AreApart row_cmp (map result_entry l)) (sym alike) (place.removes_apart row_cmp row_total row_exact result_entry (c, t) rows is.results.apart);
        });
      };
      version = ap version_told r.store;
      projects = ap (λ l. from_entries (map project_entry l)) r.projects;
      rows = ap (λ l. from_entries (map result_entry l)) (r.results ∙ alike) ∙ place.removes row_cmp row_total row_exact result_entry (c, t) rows;
    }

-- the row that an insert makes
abbrev result_row : List Row → List ℕ → List ℕ → List ℕ → Row
result_row rows c t v = Int (next_rowid rows) ∷ Blob c ∷ Blob t ∷ Blob v ∷ []

pub record AddsResult (c t v : List ℕ) (old new : Database) : Type 0 where
  pub schema : new.schema ≡ store_schema
  pub projects : project_rows new ≡ project_rows old
  pub store : store_rows new ≡ store_rows old
  pub results : result_rows new ≡ put_row (result_row (result_rows old) c t v) (result_rows old)
  pub fresh : is_taken (result_rows old) (result_row (result_rows old) c t v) ≡ false

adds_result : (old new : State) (c t v : List ℕ) (count : ℕ) → IsStore old.now → Executes insert_result_text (Blob c ∷ Blob t ∷ Blob v ∷ []) old new (Ok count) → AddsResult c t v old.now new.now
adds_result old new c t v count is h =
    let params = Blob c ∷ Blob t ∷ Blob v ∷ [] in
    let db = old.now.trees in
    let command = Insert 1 (Values result_terms 4) in
    let w = runs_as insert_result_text params old new store_schema is.schema command insert_result_is.command insert_result_is.plain count h in
    let text = statement_of insert_result_text (understood store_schema insert_result_text) in
    let done = subst (λ s. Does old.step_limit (mode_of old) params (record old.now { schema = s }) text None command (Ok (w.tally, new.now))) is.schema w.changed in
    let it = adds old.step_limit (mode_of old).keys (mode_of old) params numbered_result.name 2 numbered_result.columns None [] ((1 ∷ 2 ∷ []) ∷ []) numbered_result.orders [] 1 (Values result_terms 4) db w.tally new.now done in
    let row = result_row (db 2) c t v in
    let chosen : numbered Chosen (db 2) (map (cast_row numbered_result) it.given) ≡ row ∷ [] = ap (λ g. numbered Chosen (db 2) (map (cast_row numbered_result) g)) it.source.1 ∙ rw cast_null refl in
    record {
      schema = it.schema;
      projects = it.others.0 zero_is_not;
      store = it.others.1.1.0 four_is_not;
      results = it.rows ∙ ap (put_all (db 2)) chosen;
      fresh = not_true (is_taken (db 2) row) (subst (λ n. are_fresh (db 2) n ≡ true) chosen it.fresh);
    }

-- the store after it has the row, whose key was new
added_tables : (c t v : List ℕ) (old new : Database) → IsStore old → contains_key (results_in old) (c, t) ≡ false → AddsResult c t v old new → HasTables (with_rows c ((t, v) ∷ []) (kept_in old)) new
unfolding IsDistinct
added_tables c t v old new is free a =
    let rows = result_rows old in
    let row = result_row rows c t v in
    let es = map result_entry (row ∷ rows) in
    let good = recursion_from_All IsResultRow rows is.results.typed in
    let fits : IsResultRow row = record { number = refl; context = refl; tree = refl; value = refl } in
    let all : IsPermutation (row ∷ rows) (result_rows new) = subst (IsPermutation (row ∷ rows)) (sym a.results) (put_permutes row rows a.fresh) in
    let moved : IsPermutation es (map result_entry (result_rows new)) = IsPermutation-map result_entry (row ∷ rows) (result_rows new) all in
    let missing : find row_cmp (c, t) (map result_entry rows) ≡ None = is_none _ (ap is_some (sym (get-from_entries row_total (map result_entry rows) (c, t))) ∙ free) in
    let apart : AreApart row_cmp es = (apart_from row_cmp (c, t) (map result_entry rows) missing, is.results.apart) in
    record {
      is = record {
        schema = a.schema;
        projects = subst AreProjects (sym a.projects) is.projects;
        results = record {
          typed = subst (All IsResultRow) (sym a.results) (All-from_recursion IsResultRow _ (all-put_row IsResultRow row rows fits good));
          ordered = subst IsTable (sym a.results) (IsTable-put_row row rows is.results.ordered);
          apart = IsDistinct-IsPermutation (eq_by_cmp row_cmp) (eq_by_cmp_equiv row_total).symm (map (λ e. e.0) es) (map (λ e. e.0) (map result_entry (result_rows new))) (IsPermutation-map (λ e. e.0) es _ moved) apart;
        };
      };
      version = ap version_told a.store;
      projects = ap (λ l. from_entries (map project_entry l)) a.projects;
      rows = sym (same_in_any_order row_cmp row_total bytes_cmp bytes_total row_exact bytes_exact es (map result_entry (result_rows new)) apart moved);
    }

pub delete_within : (old new : State) (c t : List ℕ) (r : Result ℕ Error) → IsStore old.now → ExecutesInside 0 delete_result_text (Blob c ∷ Blob t ∷ []) old new r
    → OnOk r (HasTables (without_row c t (kept_in old.now)) new.now)
delete_within old new c t (Err e) is h = tt
delete_within old new c t (Ok n) is h = removed_tables c t old.now new.now is (removes_result old new c t n is h.0)

pub insert_within : (old new : State) (c t v : List ℕ) (r : Result ℕ Error) → IsStore old.now → contains_key (results_in old.now) (c, t) ≡ false
    → ExecutesInside 0 insert_result_text (Blob c ∷ Blob t ∷ Blob v ∷ []) old new r → OnOk r (HasTables (with_rows c ((t, v) ∷ []) (kept_in old.now)) new.now)
insert_within old new c t v (Err e) is free h = tt
insert_within old new c t v (Ok n) is free h = added_tables c t v old.now new.now is free (adds_result old new c t v n is h.0)

pub replaced : (r : Result ℕ Error) (k : Kept) (mid new : Database) (c t v : List ℕ) → HasTables (without_row c t k) mid
    → (IsStore mid → contains_key (results_in mid) (c, t) ≡ false → OnOk r (HasTables (with_rows c ((t, v) ∷ []) (kept_in mid)) new)) → OnOk r (HasTables (with_rows c ((t, v) ∷ []) k) new)
replaced (Err e) k mid new c t v h f = tt
replaced (Ok n) k mid new c t v h f =
    let it = f h.is (ap (λ x. contains_key x (c, t)) h.rows ∙ removed_key row_cmp row_total k.rows (c, t)) in
    record {
      is = it.is;
      version = it.version ∙ h.version;
      projects = it.projects ∙ h.projects;
      rows = it.rows ∙ ap (λ x. insert x (c, t) v) h.rows ∙ put_again row_cmp row_total row_exact k.rows (c, t) v;
    }

put_pushed : (c : List ℕ) (given : List (List ℕ × List ℕ)) (x : List ℕ × List ℕ) (m : Rows) → put_rows c (given ++ x ∷ []) m ≡ insert (put_rows c given m) (c, x.0) x.1
put_pushed c [] x m = refl
put_pushed c (y ∷ given) x m = put_pushed c given x (insert m (c, y.0) y.1)

-- the rows that were put so far, and one more
pub put_more : (first mid new : Database) (c : List ℕ) (rows more : List StoredRow) (row : StoredRow) → more ≡ rows ++ row ∷ [] → HasTables (with_rows c (map pair_of rows) (kept_in first)) mid
    → HasTables (with_rows c (pair_of row ∷ []) (kept_in mid)) new → HasTables (with_rows c (map pair_of more) (kept_in first)) new
put_more first mid new c rows more row is before after = record {
  is = after.is;
  version = after.version ∙ before.version;
  projects = after.projects ∙ before.projects;
  rows = after.rows ∙ ap (λ m. insert m (c, row.tree.items) row.value.items) before.rows ∙ sym (put_pushed c (map pair_of rows) (pair_of row) (results_in first)) ∙ ap (λ l. put_rows c l (results_in first)) (sym (ap (map pair_of) is ∙ map_push pair_of rows row));
}
