-- What the statements on the table of projects make of it.
use Rattle.std.proofs.Common.{◌≡◌, ◌≢◌, ◌&&◌, not, inl, inr, ℕ, nat_lt, List, [], ◌∷◌, map, filter, length, Bool, true, false, cond, is_some, unwrap_or, Some, None, Option, Ok, Err, Result, refl, sym, ap, subst, subst₂, ◌∙◌, arith, All, OnOk}
use Rattle.std.specs.Option.{option_to_list}
use Rattle.std.specs.List.{AllByRecursion, IsDistinct, flat_map}
use Rattle.std.specs.List.Sorted.{IsPermutation}
use Rattle.std.specs.Ordering.{eq_by_cmp}
use Rattle.std.specs.Cmp.{eq_by_cmp_equiv, IsTotalOrder}
use Rattle.std.specs.declared.cmp.Ordering.{Ordering}
use Rattle.std.specs.FinMap.{FinMap, IsAntisymmetric, get, find, from_entries, remove, insert, contains_key, get-from_entries, get-insert, get-remove, same_map}
use Rattle.std.proofs.lemmas.Bool.{cases_Bool}
use Rattle.std.proofs.lemmas.List.{length-map}
use Rattle.std.proofs.lemmas.List.Elements.{All-from_recursion, recursion_from_All}
use Rattle.std.proofs.lemmas.List.Sorted.{IsPermutation-map, length_permutation}
use Rattle.std.proofs.lemmas.Map.Keys.{IsDistinct-IsPermutation}
use Rattle.sqlite.specs.declared.error.Error.{Error}
use Rattle.sqlite.specs.declared.types.Value.TheVariants.{Int, Text, Blob, Null}
use Rattle.sqlite.specs.Order.{Row, column, bytes}
use Rattle.sqlite.specs.Query.{IsAnswer, output, Output}
use Rattle.sqlite.specs.Program.{overlay}
use Rattle.sqlite.specs.Tree.{IsTable, put_row}
use Rattle.sqlite.specs.Edit.{numbered, next_rowid, is_taken, are_fresh, put_all}
use Rattle.sqlite.specs.Cast.{cast_row}
use Rattle.sqlite.specs.Rowids.TheVariants.{Chosen}
use Rattle.sqlite.specs.Command.TheVariants.{Insert, Delete}
use Rattle.sqlite.specs.Source.TheVariants.{Values}
use Rattle.sqlite.specs.Effect.{Database}
use Rattle.sqlite.specs.Does.{Does}
use Rattle.sqlite.specs.State.{State, mode_of, Executes, ExecutesInside}
use Rattle.sqlite.specs.Listing.{understood}
use Rattle.sqlite.proofs.Callers.{statement_of, runs_as}
use Rattle.sqlite_trees.proofs.TreeLemmas.{all-put_row, IsTable-put_row}
use Rattle.result_keeper.specs.ProjectName.{is_project_name}
use Rattle.result_keeper.specs.Kept.{Kept, bytes_cmp, without_project, after_put}
use Rattle.result_keeper.specs.declared.Put.TheVariants.{Added, Replaced}
use Rattle.result_keeper.specs.Entries.{AreApart}
use Rattle.result_keeper.proofs.Orders.{bytes_total, bytes_exact}
use Rattle.result_keeper.proofs.Maps.{same_in_any_order}
use Rattle.result_keeper.proofs.PlaceLemmas as place
use Rattle.sqlite_keeper.specs.Schema.{store_schema, project_table}
use Rattle.sqlite_keeper.specs.Tables.{project_rows, result_rows, store_rows, version_told, project_entry, result_entry, projects_in, AreProjects, AreResults, IsProjectRow, IsStore}
use Rattle.sqlite_keeper.specs.Told.{kept_in}
use Rattle.sqlite_keeper.specs.Changes.{HasTables}
use Rattle.sqlite_keeper.proofs.Statements.{delete_project_text, delete_project_query, delete_project_is, insert_project_text, project_terms, insert_project_is}
use Rattle.sqlite_keeper.proofs.Queries.{text_test}
use Rattle.sqlite_keeper.proofs.Finding.{is_named, step, named_entry, named_one}
use Rattle.sqlite_keeper.proofs.Removing.{IsNumbered, taken_out, all_filter, ordered_filter, filter_alike, put_permutes}
use Rattle.sqlite_keeper.proofs.Writing.{removes, adds, cast_null}

pub weaken : (P Q : Row → Type 0) → ((r : Row) → P r → Q r) → (rows : List Row) → AllByRecursion P rows → AllByRecursion Q rows
weaken P Q f [] a = tt
weaken P Q f (r ∷ rows) a = (f r a.0, weaken P Q f rows a.1)

pub not_true : (b : Bool) → (not b && true) ≡ true → b ≡ false
not_true true h = absurd cc
not_true false h = refl

two_is_not : ◌≢◌ {A = ℕ} 2 0
two_is_not e = omega (arith, e)

four_is_not : ◌≢◌ {A = ℕ} 4 0
four_is_not e = omega (arith, e)

shows_ids : (name : List ℕ) (rows : List Row) → map (λ (o : Output). o.1) (map (output delete_project_query) (flat_map (step name) rows)) ≡ map (λ r. column r 0 ∷ []) (filter (is_named name) rows)
shows_ids name [] = refl
shows_ids name (r ∷ rows) =
    elim (cases_Bool (is_named name r)) [
      | inl same ↦ rw (text_test (column r 1) name, same) (ap (λ (l : List Row). (column r 0 ∷ []) ∷ l) (shows_ids name rows))
      | inr other ↦ rw (text_test (column r 1) name, other) (shows_ids name rows)
    ]

pub record RemovesProject (name : List ℕ) (old new : Database) (n : ℕ) : Type 0 where
  pub schema : new.schema ≡ store_schema
  pub projects : project_rows new ≡ filter (λ r. not (is_named name r)) (project_rows old)
  pub results : result_rows new ≡ result_rows old
  pub store : store_rows new ≡ store_rows old
  pub count : n ≡ length (filter (is_named name) (project_rows old))

pub removes_project : (old new : State) (name : List ℕ) (count : ℕ) → IsStore old.now → Executes delete_project_text (Text name ∷ []) old new (Ok count) → RemovesProject name old.now new.now count
removes_project old new name count is h =
    let params = Text name ∷ [] in
    let db = old.now.trees in
    let rows = project_rows old.now in
    let command = Delete 0 (record { lets = []; body = delete_project_query }) in
    let w = runs_as delete_project_text params old new store_schema is.schema command delete_project_is.command delete_project_is.plain count h in
    let text = statement_of delete_project_text (understood store_schema delete_project_text) in
    let done = subst (λ s. Does old.step_limit (mode_of old) params (record old.now { schema = s }) text None command (Ok (w.tally, new.now))) is.schema w.changed in
    let it = removes old.step_limit (mode_of old).keys (mode_of old) params project_table.name 0 project_table.columns None (1 ∷ []) ((1 ∷ []) ∷ []) project_table.orders [] 0 (record { lets = []; body = delete_project_query }) db w.tally new.now done in
    let a : IsAnswer delete_project_query (overlay db []) params it.found = it.answers.answer Null in
    let kept = a.distinct ∙ ap (map (output delete_project_query)) a.grouped in
    let found : IsPermutation (map (λ r. column r 0 ∷ []) (filter (is_named name) rows)) it.found =
    subst₂ IsPermutation (ap (map (λ (o : Output). o.1)) kept ∙ shows_ids name rows) (sym a.shown) (IsPermutation-map (λ (o : Output). o.1) a.kept a.ordered a.same) in
    let good = weaken IsProjectRow IsNumbered (λ r p. p.number) rows (recursion_from_All IsProjectRow rows is.projects.typed) in
    record {
      schema = it.schema;
      projects = it.rows ∙ taken_out (is_named name) (λ r. column r 0 ∷ []) (λ r. refl) rows it.found good is.projects.ordered found;
      results = it.others.1.0 two_is_not;
      store = it.others.1.1.0 four_is_not;
      count = w.counted ∙ ap (λ o. unwrap_or o 0) it.count ∙ length_permutation _ it.found found ∙ length-map (filter (is_named name) rows) _;
    }

-- the store after it is the one without the project
pub removed_tables : (name : List ℕ) (old new : Database) (count : ℕ) → IsStore old → RemovesProject name old new count → HasTables (without_project name (kept_in old)) new
removed_tables name old new count is r =
    let rows = project_rows old in
    let good = recursion_from_All IsProjectRow rows is.projects.typed in
    let alike : filter (λ x. not (is_named name x)) rows ≡ filter (λ x. not (eq_by_cmp bytes_cmp name (project_entry x).0)) rows = filter_alike IsProjectRow _ _ (λ x p. ap not (named_entry name x p)) rows good in
    record {
      is = record {
        schema = r.schema;
        projects = subst AreProjects (sym r.projects) (record {
          typed = All-from_recursion IsProjectRow _ (all_filter IsProjectRow _ rows good);
          ordered = ordered_filter _ rows is.projects.ordered;
          apart = subst (λ l. AreApart bytes_cmp (map project_entry l)) (sym alike) (place.removes_apart bytes_cmp bytes_total bytes_exact project_entry name rows is.projects.apart);
        });
        results = subst AreResults (sym r.results) is.results;
      };
      version = ap version_told r.store;
      projects = ap (λ l. from_entries (map project_entry l)) (r.projects ∙ alike) ∙ place.removes bytes_cmp bytes_total bytes_exact project_entry name rows;
      rows = ap (λ l. from_entries (map result_entry l)) r.results;
    }

some_or_none : (o : Option (List ℕ)) → nat_lt 0 (length (option_to_list o)) ≡ is_some o
some_or_none None = refl
some_or_none (Some v) = refl

pub was_kept : (name : List ℕ) (old new : Database) (count : ℕ) → IsStore old → RemovesProject name old new count → nat_lt 0 count ≡ contains_key (projects_in old) name
was_kept name old new count is r =
    let rows = project_rows old in
    let one = named_one name rows (recursion_from_All IsProjectRow rows is.projects.typed) is.projects.apart in
    ap (nat_lt 0) (r.count ∙ sym (length-map (filter (is_named name) rows) (λ x. bytes (column x 2))) ∙ ap length one)
    ∙ some_or_none (find bytes_cmp name (map project_entry rows))
    ∙ ap is_some (sym (get-from_entries bytes_total (map project_entry rows) name))

-- the row that an insert makes
abbrev pub project_row : List Row → List ℕ → List ℕ → Row
project_row rows name file = Int (next_rowid rows) ∷ Text name ∷ Blob file ∷ []

pub record AddsProject (name file : List ℕ) (old new : Database) : Type 0 where
  pub schema : new.schema ≡ store_schema
  pub projects : project_rows new ≡ put_row (project_row (project_rows old) name file) (project_rows old)
  pub fresh : is_taken (project_rows old) (project_row (project_rows old) name file) ≡ false
  pub results : result_rows new ≡ result_rows old
  pub store : store_rows new ≡ store_rows old

pub adds_project : (old new : State) (name file : List ℕ) (count : ℕ) → IsStore old.now → Executes insert_project_text (Text name ∷ Blob file ∷ []) old new (Ok count) → AddsProject name file old.now new.now
adds_project old new name file count is h =
    let params = Text name ∷ Blob file ∷ [] in
    let db = old.now.trees in
    let command = Insert 0 (Values project_terms 3) in
    let w = runs_as insert_project_text params old new store_schema is.schema command insert_project_is.command insert_project_is.plain count h in
    let text = statement_of insert_project_text (understood store_schema insert_project_text) in
    let done = subst (λ s. Does old.step_limit (mode_of old) params (record old.now { schema = s }) text None command (Ok (w.tally, new.now))) is.schema w.changed in
    let it = adds old.step_limit (mode_of old).keys (mode_of old) params project_table.name 0 project_table.columns None (1 ∷ []) ((1 ∷ []) ∷ []) project_table.orders [] 0 (Values project_terms 3) db w.tally new.now done in
    let row = project_row (db 0) name file in
    let chosen : numbered Chosen (db 0) (map (cast_row project_table) it.given) ≡ row ∷ [] = ap (λ g. numbered Chosen (db 0) (map (cast_row project_table) g)) it.source.1 ∙ rw cast_null refl in
    record {
      schema = it.schema;
      projects = it.rows ∙ ap (put_all (db 0)) chosen;
      fresh = not_true (is_taken (db 0) row) (subst (λ n. are_fresh (db 0) n ≡ true) chosen it.fresh);
      results = it.others.1.0 two_is_not;
      store = it.others.1.1.0 four_is_not;
    }

pub apart_from : {K : Type 0} (R : K → K → Ordering) (k : K) (es : List (K × List ℕ)) → find R k es ≡ None → AllByRecursion (λ y. eq_by_cmp R k y ≡ false) (map (λ e. e.0) es)
apart_from R k [] h = tt
apart_from R k (e ∷ es) h =
    (elim (eq_by_cmp R k e.0) as (λ b. cond b (Some e.1) (find R k es) ≡ None → (b ≡ false) × AllByRecursion (λ y. eq_by_cmp R k y ≡ false) (map (λ f. f.0) es)) [
      | true ↦ λ n. absurd (let m : Some e.1 ≡ None = n in cc)
      | false ↦ λ n. (refl, apart_from R k es n)
    ]) h

pub is_none : (o : Option (List ℕ)) → is_some o ≡ false → o ≡ None
is_none None h = refl
is_none (Some v) h = absurd (let m : true ≡ false = h in cc)

-- the store after it has the file under its name, which was new
pub added_tables : (name file : List ℕ) (old new : Database) → is_project_name name ≡ true → IsStore old → contains_key (projects_in old) name ≡ false → AddsProject name file old new
    → HasTables (after_put Added name file (kept_in old)) new
unfolding IsDistinct
added_tables name file old new fine is free a =
    let rows = project_rows old in
    let row = project_row rows name file in
    let es = map project_entry (row ∷ rows) in
    let good = recursion_from_All IsProjectRow rows is.projects.typed in
    let fits : IsProjectRow row = record { number = refl; name = refl; named = fine; file = refl } in
    let all : IsPermutation (row ∷ rows) (project_rows new) = subst (IsPermutation (row ∷ rows)) (sym a.projects) (put_permutes row rows a.fresh) in
    let moved : IsPermutation es (map project_entry (project_rows new)) = IsPermutation-map project_entry (row ∷ rows) (project_rows new) all in
    let missing : find bytes_cmp name (map project_entry rows) ≡ None = is_none _ (ap is_some (sym (get-from_entries bytes_total (map project_entry rows) name)) ∙ free) in
    let apart : AreApart bytes_cmp es = (apart_from bytes_cmp name (map project_entry rows) missing, is.projects.apart) in
    record {
      is = record {
        schema = a.schema;
        projects = record {
          typed = subst (All IsProjectRow) (sym a.projects) (All-from_recursion IsProjectRow _ (all-put_row IsProjectRow row rows fits good));
          ordered = subst IsTable (sym a.projects) (IsTable-put_row row rows is.projects.ordered);
          apart = IsDistinct-IsPermutation (eq_by_cmp bytes_cmp) (eq_by_cmp_equiv bytes_total).symm (map (λ e. e.0) es) (map (λ e. e.0) (map project_entry (project_rows new))) (IsPermutation-map (λ e. e.0) es _ moved) apart;
        };
        results = subst AreResults (sym a.results) is.results;
      };
      version = ap version_told a.store;
      projects = sym (same_in_any_order bytes_cmp bytes_total bytes_cmp bytes_total bytes_exact bytes_exact es (map project_entry (project_rows new)) apart moved);
      rows = ap (λ l. from_entries (map result_entry l)) a.results;
    }

pub delete_within : (old new : State) (name : List ℕ) (r : Result ℕ Error) → IsStore old.now → ExecutesInside 0 delete_project_text (Text name ∷ []) old new r
    → OnOk r (HasTables (without_project name (kept_in old.now)) new.now)
delete_within old new name (Err e) is h = tt
delete_within old new name (Ok n) is h = removed_tables name old.now new.now n is (removes_project old new name n is h.0)

pub insert_within : (old new : State) (name file : List ℕ) (r : Result ℕ Error) → is_project_name name ≡ true → IsStore old.now → contains_key (projects_in old.now) name ≡ false
    → ExecutesInside 0 insert_project_text (Text name ∷ Blob file ∷ []) old new r → OnOk r (HasTables (after_put Added name file (kept_in old.now)) new.now)
insert_within old new name file (Err e) fine is free h = tt
insert_within old new name file (Ok n) fine is free h = added_tables name file old.now new.now fine is free (adds_project old new name file n is h.0)

-- a key that is taken out and put in again is put in
pub put_again : {K X : Type 0} (R : K → K → Ordering) → IsTotalOrder R → IsAntisymmetric R → (m : FinMap R X) (k : K) (v : X) → insert (remove m k) k v ≡ insert m k v
put_again R o exact m k v = same_map o exact (insert (remove m k) k v) (insert m k v) (λ q.
    get-insert o (remove m k) k v q
    ∙ ap (cond (eq_by_cmp R q k) (Some v)) (get-remove o m k q)
    ∙ twice_same (eq_by_cmp R q k) (Some v) None (get m q)
    ∙ sym (get-insert o m k v q))
  where
    twice_same : {A : Type 0} (b : Bool) (x y z : A) → cond b x (cond b y z) ≡ cond b x z
    twice_same true x y z = refl
    twice_same false x y z = refl

pub removed_key : {K X : Type 0} (R : K → K → Ordering) → IsTotalOrder R → (m : FinMap R X) (k : K) → contains_key (remove m k) k ≡ false
removed_key R o m k = ap is_some (get-remove o m k k) ∙ ap (λ b. is_some (cond b None (get m k))) ((eq_by_cmp_equiv o).refl k)

pub replaced : (r : Result ℕ Error) (k : Kept) (mid new : Database) (name file : List ℕ) → HasTables (without_project name k) mid
    → (IsStore mid → contains_key (projects_in mid) name ≡ false → OnOk r (HasTables (after_put Added name file (kept_in mid)) new)) → OnOk r (HasTables (after_put Replaced name file k) new)
replaced (Err e) k mid new name file t h = tt
replaced (Ok n) k mid new name file t h =
    let it = h t.is (ap (λ x. contains_key x name) t.projects ∙ removed_key bytes_cmp bytes_total k.projects name) in
    record {
      is = it.is;
      version = it.version ∙ t.version;
      projects = it.projects ∙ ap (λ x. insert x name file) t.projects ∙ put_again bytes_cmp bytes_total bytes_exact k.projects name file;
      rows = it.rows ∙ t.rows;
    }
