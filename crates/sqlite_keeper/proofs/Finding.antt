-- What the look-up of a file answers.
use Rattle.std.proofs.Common.{◌≡◌, inl, inr, if◌then◌else◌, ℕ, List, [], ◌∷◌, map, filter, slice_get, Bool, true, false, cond, is_some, Some, None, Option, Ok, Err, Result, refl, sym, ap, subst, subst₂, ◌∙◌, IfOk, Vec, Global, arith}
use Rattle.std.specs.Option.{option_to_list, option_map}
use Rattle.std.specs.List.{flat_map, list_all, AllByRecursion, IsDistinct}
use Rattle.std.specs.List.Sorted.{IsPermutation}
use Rattle.std.specs.Ordering.{is_eq, eq_by_cmp}
use Rattle.std.specs.Cmp.{eq_by_cmp_equiv, Equal-is}
use Rattle.std.proofs.lemmas.Simd.{map-map}
use Rattle.std.specs.FinMap.{get, find, get-from_entries, contains_key}
use Rattle.std.proofs.lemmas.Bool.{cases_Bool}
use Rattle.std.proofs.lemmas.List.Elements.{recursion_from_All}
use Rattle.std.proofs.lemmas.List.Sorted.{IsPermutation-map, length_permutation}
use Rattle.sqlite_value.proofs.OrderLemmas.{value_cmp-Text}
use Rattle.sqlite.specs.declared.error.Error.{Error}
use Rattle.sqlite.specs.declared.types.Value.TheVariants.{Text}
use Rattle.sqlite.specs.Order.{Row, column, bytes, value_cmp}
use Rattle.sqlite.specs.Term.{Env, holds}
use Rattle.sqlite.specs.Query.{IsAnswer, output, Output}
use Rattle.sqlite.specs.Program.{overlay}
use Rattle.sqlite.specs.State.{State, Shown}
use Rattle.sqlite.proofs.Callers.{one_permutation}
use Rattle.result_keeper.specs.Kept.{bytes_cmp}
use Rattle.result_keeper.specs.Entries.{AreApart}
use Rattle.result_keeper.proofs.Orders.{bytes_total, bytes_exact}
use Rattle.sqlite_keeper.specs.Schema.{store_schema}
use Rattle.sqlite_keeper.specs.Tables.{project_rows, project_entry, projects_in, IsProjectRow, IsStore}
use Rattle.sqlite_keeper.proofs.Statements.{answer_of, file_text, file_query, by_parameter, file_is}
use Rattle.sqlite_keeper.proofs.Queries.{text_test}

abbrev pub is_named : List ℕ → Row → Bool
is_named name r = is_eq (value_cmp (column r 1) (Text name))

abbrev files_named : List ℕ → List Row → List Row
files_named name rows = map (λ r. column r 2 ∷ []) (filter (is_named name) rows)

abbrev pub step : List ℕ → Row → List Env
step name r = if list_all (holds ((Text name ∷ []) ∷ r ∷ [])) by_parameter then ((Text name ∷ []) ∷ r ∷ []) ∷ [] else []

shows_is : (name : List ℕ) (rows : List Row) → map (λ (o : Output). o.1) (map (output file_query) (flat_map (step name) rows)) ≡ files_named name rows
shows_is name [] = refl
shows_is name (r ∷ rows) =
    elim (cases_Bool (is_named name r)) [
      | inl same ↦ rw (text_test (column r 1) name, same) (ap (λ (l : List Row). (column r 2 ∷ []) ∷ l) (shows_is name rows))
      | inr other ↦ rw (text_test (column r 1) name, other) (shows_is name rows)
    ]

finds : (old new : State) (name : List ℕ) (rows : List Row) → old.now.schema ≡ store_schema → Shown file_text (Text name ∷ []) old new rows → IsPermutation (files_named name (project_rows old.now)) rows
finds old new name rows has h =
    let a : IsAnswer file_query (overlay old.now.trees []) (Text name ∷ []) rows = answer_of file_text file_query _ file_is (Text name ∷ []) old new rows has h in
    let kept = a.distinct ∙ ap (map (output file_query)) a.grouped in
    subst₂ IsPermutation (ap (map (λ (o : Output). o.1)) kept ∙ shows_is name (project_rows old.now)) (sym a.shown) (IsPermutation-map (λ (o : Output). o.1) a.kept a.ordered a.same)

-- the test of the row is that of the entry
pub named_entry : (name : List ℕ) (r : Row) → IsProjectRow r → is_named name r ≡ eq_by_cmp bytes_cmp name (project_entry r).0
named_entry name r is =
    ap (λ v. is_eq (value_cmp v (Text name))) is.name
    ∙ ap is_eq (value_cmp-Text (bytes (column r 1)) name)
    ∙ (eq_by_cmp_equiv bytes_total).symm (bytes (column r 1)) name

others_not : (name : List ℕ) (r : Row) (rows : List Row) → AllByRecursion IsProjectRow rows → eq_by_cmp bytes_cmp name (project_entry r).0 ≡ true
    → AllByRecursion (λ y. eq_by_cmp bytes_cmp (project_entry r).0 y ≡ false) (map (λ e. e.0) (map project_entry rows)) → filter (is_named name) rows ≡ []
others_not name r [] all own apart = refl
others_not name r (s ∷ rows) all own apart =
    let same : name ≡ (project_entry r).0 = bytes_exact name (project_entry r).0 ((Equal-is (bytes_cmp name (project_entry r).0)).0 own) in
    let other : is_named name s ≡ false = named_entry name s all.0 ∙ ap (λ n. eq_by_cmp bytes_cmp n (project_entry s).0) same ∙ apart.0 in
    rw other (others_not name r rows all.1 own apart.1)

-- at most one row has the name
pub named_one : (name : List ℕ) (rows : List Row) → AllByRecursion IsProjectRow rows → AreApart bytes_cmp (map project_entry rows)
    → map (λ r. bytes (column r 2)) (filter (is_named name) rows) ≡ option_to_list (find bytes_cmp name (map project_entry rows))
unfolding IsDistinct
named_one name [] all apart = refl
named_one name (r ∷ rows) all apart =
    ap (λ b. map (λ (x : Row). bytes (column x 2)) (cond b (r ∷ filter (is_named name) rows) (filter (is_named name) rows))) (named_entry name r all.0)
    ∙ (elim (eq_by_cmp bytes_cmp name (project_entry r).0) as (λ b. eq_by_cmp bytes_cmp name (project_entry r).0 ≡ b
    → map (λ (x : Row). bytes (column x 2)) (cond b (r ∷ filter (is_named name) rows) (filter (is_named name) rows)) ≡ option_to_list (cond b (Some (project_entry r).1) (find bytes_cmp name (map project_entry rows)))) [
      | true ↦ λ t. ap (λ (l : List Row). bytes (column r 2) ∷ map (λ (x : Row). bytes (column x 2)) l) (others_not name r rows all.1 t apart.0)
      | false ↦ λ t. named_one name rows all.1 apart.1
    ]) refl

first_of_option : (o : Option (List ℕ)) (xs : List (List ℕ)) → IsPermutation (option_to_list o) xs → slice_get xs 0 ≡ o
first_of_option None [] p = refl
first_of_option None (x ∷ xs) p = absurd (omega (arith, length_permutation [] (x ∷ xs) p))
first_of_option (Some v) xs p = ap (λ l. slice_get l 0) (one_permutation v xs p)

slice_get-map : (f : Row → List ℕ) (rows : List Row) → option_map f (slice_get rows 0) ≡ slice_get (map f rows) 0
slice_get-map f [] = refl
slice_get-map f (r ∷ rows) = refl

-- the first row that is found has the file
pub file_of : (old new : State) (name : List ℕ) (rows : List Row) → IsStore old.now → Shown file_text (Text name ∷ []) old new rows
    → option_map (λ r. bytes (column r 0)) (slice_get rows 0) ≡ get (projects_in old.now) name
file_of old new name rows is h =
    let all = project_rows old.now in
    let first = λ (r : Row). bytes (column r 0) in
    let permuted = IsPermutation-map first (files_named name all) rows (finds old new name rows is.schema h) in
    let one : map first (files_named name all) ≡ option_to_list (find bytes_cmp name (map project_entry all)) = map-map first (λ r. column r 2 ∷ []) (filter (is_named name) all) ∙ named_one name all (recursion_from_All IsProjectRow all is.projects.typed) is.projects.apart in
    slice_get-map first rows
    ∙ first_of_option (find bytes_cmp name (map project_entry all)) (map first rows) (subst (λ l. IsPermutation l (map first rows)) one permuted)
    ∙ sym (get-from_entries bytes_total (map project_entry all) name)

pub file_of_if : (old new : State) (name : List ℕ) (result : Result (Vec Row Global) Error) → IsStore old.now → IfOk result (λ rows. Shown file_text (Text name ∷ []) old new rows.items)
    → IfOk result (λ rows. option_map (λ r. bytes (column r 0)) (slice_get rows.items 0) ≡ get (projects_in old.now) name)
file_of_if old new name (Err e) is h = tt
file_of_if old new name (Ok rows) is h = file_of old new name rows.items is h

-- whether a row is found tells whether the project is kept
pub kept_of : (old new : State) (name : List ℕ) (rows : List Row) → IsStore old.now → Shown file_text (Text name ∷ []) old new rows → is_some (slice_get rows 0) ≡ contains_key (projects_in old.now) name
kept_of old new name rows is h = some_map rows ∙ ap is_some (file_of old new name rows is h)
  where
    some_map : (xs : List Row) → is_some (slice_get xs 0) ≡ is_some (option_map (λ r. bytes (column r 0)) (slice_get xs 0))
    some_map [] = refl
    some_map (x ∷ xs) = refl
