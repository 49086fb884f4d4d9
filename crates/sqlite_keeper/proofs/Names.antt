-- What the list of the names answers.
use Rattle.std.proofs.Common.{◌≡◌, ℕ, suc, arith, List, [], ◌∷◌, map, true, cond, Some, None, Ok, Err, Result, refl, sym, ap, subst, ◌∙◌, IfOk, Vec, Global, All}
use Rattle.std.specs.List.{flat_map, filter_map}
use Rattle.std.specs.List.Sorted.{IsPermutation, IsSorted}
use Rattle.std.specs.Ordering.{on}
use Rattle.std.proofs.lemmas.Simd.{map-map}
use Rattle.std.proofs.lemmas.List.Elements.{All-map}
use Rattle.std.proofs.lemmas.List.Sorted.{IsPermutation-map, All-permutation}
use Rattle.sqlite.specs.declared.error.Error.{Error}
use Rattle.sqlite.specs.Order.{Row, column}
use Rattle.sqlite.specs.Query.{IsAnswer, output, Output}
use Rattle.sqlite.specs.Program.{overlay}
use Rattle.sqlite.specs.State.{State, Shown}
use Rattle.result_keeper.specs.ProjectName.{is_project_name}
use Rattle.result_keeper.specs.Kept.{bytes_cmp, names_in}
use Rattle.result_keeper.proofs.Orders.{bytes_total, bytes_exact}
use Rattle.result_keeper.proofs.Maps.{sorted_are_keys}
use Rattle.result_keeper.proofs.Ordered.{sorted_map}
use Rattle.sqlite_keeper.specs.Tables.{project_rows, project_entry, projects_in, IsProjectRow, IsStore, shown_name, named}
use Rattle.sqlite_keeper.proofs.Statements.{answer_of, names_text, names_query, names_is}
use Rattle.sqlite_keeper.proofs.Sorting.{sorted_alike, first_cmp, first_bytes, IsTextFirst, text_first}

abbrev shown_row : Row → Output
shown_row r = (column r 1 ∷ [], column r 1 ∷ [])

shows_is : (rows : List Row) → map (output names_query) (flat_map (λ r. ([] ∷ r ∷ []) ∷ []) rows) ≡ map shown_row rows
shows_is [] = refl
shows_is (r ∷ rows) = ap (λ (l : List Output). shown_row r ∷ l) (shows_is rows)

-- an output shows what it is sorted by, the name of a project
record IsNameOutput (o : Output) : Type 0 where
  text : IsTextFirst o
  named : is_project_name (first_bytes o) ≡ true
  same : column o.1 0 ≡ column o.0 0

name_output : (rows : List Row) → All IsProjectRow rows → All IsNameOutput (map shown_row rows)
name_output rows all = All-map IsNameOutput shown_row rows (λ k d l. let is = all k d l in record { text = is.name; named = is.named; same = refl })

shown_name-output : (os : List Output) → All IsNameOutput os → filter_map shown_name (map (λ o. o.1) os) ≡ map first_bytes os
shown_name-output [] all = refl
shown_name-output (o ∷ os) all =
    let is : IsNameOutput o = all 0 o (omega arith) in
    let shown : shown_name o.1 ≡ Some (first_bytes o) = ap named (is.same ∙ is.text) ∙ ap (λ b. cond b (Some (first_bytes o)) None) is.named in
    rw shown (ap (λ (l : List (List ℕ)). first_bytes o ∷ l) (shown_name-output os (λ k d l. all (suc k) d (omega arith))))

-- the rows show the names in order
pub names_of_rows : (old new : State) (rows : List Row) → IsStore old.now → Shown names_text [] old new rows → filter_map shown_name rows ≡ names_in (projects_in old.now)
names_of_rows old new rows is h =
    let all = project_rows old.now in
    let a : IsAnswer names_query (overlay old.now.trees []) [] rows = answer_of names_text names_query _ names_is [] old new rows is.schema h in
    let kept : a.kept ≡ map shown_row all = a.distinct ∙ ap (map (output names_query)) a.grouped ∙ shows_is all in
    let moved : IsPermutation (map shown_row all) a.ordered = subst (λ k. IsPermutation k a.ordered) kept a.same in
    let outputs : All IsNameOutput a.ordered = All-permutation IsNameOutput (map shown_row all) a.ordered moved (name_output all is.projects.typed) in
    let ns = map first_bytes a.ordered in
    let up : IsSorted bytes_cmp ns = sorted_map first_bytes bytes_cmp bytes_total a.ordered (sorted_alike first_cmp (on first_bytes bytes_cmp) IsTextFirst text_first a.ordered (λ k d l. (outputs k d l).text) a.sorted) in
    let names : IsPermutation (map (λ e. e.0) (map project_entry all)) ns = subst (λ l. IsPermutation l ns) (map-map first_bytes shown_row all ∙ sym (map-map (λ e. e.0) project_entry all)) (IsPermutation-map first_bytes (map shown_row all) a.ordered moved) in
    ap (filter_map shown_name) a.shown ∙ shown_name-output a.ordered outputs ∙ sorted_are_keys bytes_cmp bytes_total bytes_exact (map project_entry all) ns is.projects.apart names up

pub names_of_rows_if : (old new : State) (result : Result (Vec Row Global) Error) → IsStore old.now → IfOk result (λ rows. Shown names_text [] old new rows.items) → IfOk result (λ rows. filter_map shown_name rows.items ≡ names_in (projects_in old.now))
names_of_rows_if old new (Err e) is h = tt
names_of_rows_if old new (Ok rows) is h = names_of_rows old new rows.items is h
