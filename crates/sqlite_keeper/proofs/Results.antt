-- What the rows of a context answer.
use Rattle.std.proofs.Common.{◌≡◌, ℕ, List, [], ◌∷◌, map, filter, Bool, true, false, cond, Ok, Err, Result, inl, inr, if◌then◌else◌, refl, sym, ap, subst, ◌∙◌, IfOk, Vec, Global, All, Ordering, Equal}
use Rattle.std.specs.List.{flat_map, list_all, AllByRecursion, IsDistinct}
use Rattle.std.specs.List.Sorted.{IsPermutation, IsSorted}
use Rattle.std.specs.Ordering.{on, is_eq, eq_by_cmp, ordering_then}
use Rattle.std.specs.Cmp.{eq_by_cmp_equiv, tied_itself}
use Rattle.std.specs.Str.{bytes_eq}
use Rattle.std.specs.FinMap.{entries}
use Rattle.std.proofs.lemmas.Bool.{cases_Bool}
use Rattle.std.proofs.lemmas.Cmp.{on_total}
use Rattle.std.proofs.lemmas.Simd.{map-map}
use Rattle.std.proofs.lemmas.Map.Text.{is_eq-slice_cmp}
use Rattle.std.proofs.lemmas.Map.Keys.{IsDistinct-IsPermutation}
use Rattle.std.proofs.lemmas.Slice.Eq.{bytes_eq-Decides}
use Rattle.std.proofs.lemmas.List.Elements.{All-from_recursion, recursion_from_All}
use Rattle.std.proofs.lemmas.List.Sorted.{IsPermutation-map, All-permutation}
use Rattle.sqlite_value.proofs.OrderLemmas.{value_cmp-Blob}
use Rattle.sqlite.specs.declared.error.Error.{Error}
use Rattle.sqlite.specs.declared.types.Value.TheVariants.{Blob}
use Rattle.sqlite.specs.Order.{Row, column, bytes, value_cmp}
use Rattle.sqlite.specs.Query.{IsAnswer, output, Output}
use Rattle.sqlite.specs.Term.{Env, holds}
use Rattle.sqlite.specs.Program.{overlay}
use Rattle.sqlite.specs.State.{State, Shown}
use Rattle.result_keeper.specs.Kept.{bytes_cmp, row_cmp, within}
use Rattle.result_keeper.specs.Entries.{AreApart}
use Rattle.result_keeper.proofs.Orders.{bytes_total}
use Rattle.result_keeper.proofs.Ordered.{sorted_map, sorted_are_results}
use Rattle.sqlite_keeper.specs.Tables.{result_rows, result_entry, results_in, shown_pair, IsResultRow, IsStore}
use Rattle.sqlite_keeper.proofs.Statements.{answer_of, results_text, results_query, by_parameter, results_is}
use Rattle.sqlite_keeper.proofs.Queries.{blob_test}
use Rattle.sqlite_keeper.proofs.Sorting.{sorted_alike, first_cmp, first_bytes, IsBlobFirst, blob_first, rising}

abbrev Entry : Type 0
Entry = (List ℕ × List ℕ) × List ℕ

abbrev pub is_within : List ℕ → Row → Bool
is_within c r = is_eq (value_cmp (column r 1) (Blob c))

abbrev step : List ℕ → Row → List Env
step c r = if list_all (holds ((Blob c ∷ []) ∷ r ∷ [])) by_parameter then ((Blob c ∷ []) ∷ r ∷ []) ∷ [] else []

abbrev shown_row : Row → Output
shown_row r = (column r 2 ∷ [], column r 2 ∷ column r 3 ∷ [])

shows_is : (c : List ℕ) (rows : List Row) → map (output results_query) (flat_map (step c) rows) ≡ map shown_row (filter (is_within c) rows)
shows_is c [] = refl
shows_is c (r ∷ rows) =
    elim (cases_Bool (is_within c r)) [
      | inl same ↦ rw (blob_test (column r 1) c, same) (ap (λ (l : List Output). shown_row r ∷ l) (shows_is c rows))
      | inr other ↦ rw (blob_test (column r 1) c, other) (shows_is c rows)
    ]

abbrev out_pair : Output → List ℕ × List ℕ
out_pair o = shown_pair o.1

-- the test of the row is that of the entry
pub within_entry : (c : List ℕ) (r : Row) → IsResultRow r → is_within c r ≡ bytes_eq (result_entry r).0.0 c
within_entry c r is = ap (λ v. is_eq (value_cmp v (Blob c))) is.context ∙ ap is_eq (value_cmp-Blob (bytes (column r 1)) c) ∙ is_eq-slice_cmp (bytes (column r 1)) c

pairs_is : (c : List ℕ) (rows : List Row) → AllByRecursion IsResultRow rows → map out_pair (map shown_row (filter (is_within c) rows)) ≡ within c (map result_entry rows)
pairs_is c [] all = refl
pairs_is c (r ∷ rows) all =
    ap (λ b. map out_pair (map shown_row (cond b (r ∷ filter (is_within c) rows) (filter (is_within c) rows)))) (within_entry c r all.0)
    ∙ (elim (bytes_eq (result_entry r).0.0 c) as (λ b. map out_pair (map shown_row (cond b (r ∷ filter (is_within c) rows) (filter (is_within c) rows)))
    ≡ map (λ (e : Entry). (e.0.1, e.1)) (cond b (result_entry r ∷ filter (λ (e : Entry). bytes_eq e.0.0 c) (map result_entry rows)) (filter (λ (e : Entry). bytes_eq e.0.0 c) (map result_entry rows)))) [
      | true ↦ ap (λ (l : List (List ℕ × List ℕ)). ((result_entry r).0.1, (result_entry r).1) ∷ l) (pairs_is c rows all.1)
      | false ↦ pairs_is c rows all.1
    ])

-- an output shows the tree that it is sorted by
record IsTreeOutput (o : Output) : Type 0 where
  blob : IsBlobFirst o
  same : (out_pair o).0 ≡ first_bytes o

tree_output : (c : List ℕ) (rows : List Row) → AllByRecursion IsResultRow rows → AllByRecursion IsTreeOutput (map shown_row (filter (is_within c) rows))
tree_output c [] all = tt
tree_output c (r ∷ rows) all =
    elim (is_within c r) as (λ b. AllByRecursion IsTreeOutput (map shown_row (cond b (r ∷ filter (is_within c) rows) (filter (is_within c) rows)))) [
      | true ↦ (record { blob = all.0.tree; same = refl }, tree_output c rows all.1)
      | false ↦ tree_output c rows all.1
    ]

tree_first : (x y : Output) → IsTreeOutput x → IsTreeOutput y → first_cmp x y ≡ bytes_cmp (out_pair x).0 (out_pair y).0
tree_first x y p q = blob_first x y p.blob q.blob ∙ (λ i. bytes_cmp (sym p.same i) (sym q.same i))

-- no tree of a context comes twice
trees_from : (c : List ℕ) (e : Entry) (es : List Entry) → bytes_eq e.0.0 c ≡ true → AllByRecursion (λ y. eq_by_cmp row_cmp e.0 y ≡ false) (map (λ f. f.0) es) → AllByRecursion (λ y. eq_by_cmp bytes_cmp e.0.1 y ≡ false) (map (λ p. p.0) (within c es))
trees_from c e [] m a = tt
trees_from c e (f ∷ es) m a =
    let rest = trees_from c e es m a.1 in
    (elim (bytes_eq f.0.0 c) as (λ b. bytes_eq f.0.0 c ≡ b → AllByRecursion (λ y. eq_by_cmp bytes_cmp e.0.1 y ≡ false) (map (λ (p : List ℕ × List ℕ). p.0) (map (λ (r : Entry). (r.0.1, r.1)) (cond b (f ∷ filter (λ (r : Entry). bytes_eq r.0.0 c) es) (filter (λ (r : Entry). bytes_eq r.0.0 c) es))))) [
      | true ↦ λ n.
          let same : e.0.0 ≡ f.0.0 = (bytes_eq-Decides e.0.0 c).0 m ∙ sym ((bytes_eq-Decides f.0.0 c).0 n) in
          let tie : bytes_cmp e.0.0 f.0.0 ≡ Equal = ap (λ x. bytes_cmp e.0.0 x) (sym same) ∙ tied_itself bytes_total e.0.0 in
          let apart : eq_by_cmp bytes_cmp e.0.1 f.0.1 ≡ false = sym (ap (λ (o : Ordering). is_eq (ordering_then o (bytes_cmp e.0.1 f.0.1))) tie) ∙ a.0 in
          (apart, rest)
      | false ↦ λ n. rest
    ]) refl

trees_apart : (c : List ℕ) (es : List Entry) → AreApart row_cmp es → IsDistinct (eq_by_cmp bytes_cmp) (map (λ p. p.0) (within c es))
unfolding IsDistinct
trees_apart c [] a = tt
trees_apart c (e ∷ es) a =
    let rest = trees_apart c es a.1 in
    (elim (bytes_eq e.0.0 c) as (λ b. bytes_eq e.0.0 c ≡ b → IsDistinct (eq_by_cmp bytes_cmp) (map (λ (p : List ℕ × List ℕ). p.0) (map (λ (r : Entry). (r.0.1, r.1)) (cond b (e ∷ filter (λ (r : Entry). bytes_eq r.0.0 c) es) (filter (λ (r : Entry). bytes_eq r.0.0 c) es))))) [
      | true ↦ λ m. (trees_from c e es m a.0, rest)
      | false ↦ λ m. rest
    ]) refl

-- the rows show the results of the context in order
pub results_of_rows : (old new : State) (c : List ℕ) (rows : List Row) → IsStore old.now → Shown results_text (Blob c ∷ []) old new rows → map shown_pair rows ≡ within c (entries (results_in old.now))
results_of_rows old new c rows is h =
    let all = result_rows old.now in
    let es = map result_entry all in
    let typed = recursion_from_All IsResultRow all is.results.typed in
    let a : IsAnswer results_query (overlay old.now.trees []) (Blob c ∷ []) rows = answer_of results_text results_query _ results_is (Blob c ∷ []) old new rows is.schema h in
    let found = map shown_row (filter (is_within c) all) in
    let kept : a.kept ≡ found = a.distinct ∙ ap (map (output results_query)) a.grouped ∙ shows_is c all in
    let moved : IsPermutation found a.ordered = subst (λ k. IsPermutation k a.ordered) kept a.same in
    let outputs : All IsTreeOutput a.ordered = All-permutation IsTreeOutput found a.ordered moved (All-from_recursion IsTreeOutput found (tree_output c all typed)) in
    let ps = map out_pair a.ordered in
    let pairs : IsPermutation (within c es) ps = subst (λ l. IsPermutation l ps) (pairs_is c all typed) (IsPermutation-map out_pair found a.ordered moved) in
    let by_tree : IsSorted (on (λ p. p.0) bytes_cmp) ps = sorted_map out_pair (on (λ (p : List ℕ × List ℕ). p.0) bytes_cmp) (on_total (λ (p : List ℕ × List ℕ). p.0) bytes_total) a.ordered
    (sorted_alike first_cmp (on out_pair (on (λ (p : List ℕ × List ℕ). p.0) bytes_cmp)) IsTreeOutput tree_first a.ordered outputs a.sorted) in
    let trees = IsDistinct-IsPermutation (eq_by_cmp bytes_cmp) (eq_by_cmp_equiv bytes_total).symm (map (λ p. p.0) (within c es)) (map (λ p. p.0) ps) (IsPermutation-map (λ p. p.0) (within c es) ps pairs) (trees_apart c es is.results.apart) in
    ap (map shown_pair) a.shown ∙ map-map shown_pair (λ (o : Output). o.1) a.ordered ∙ sorted_are_results c es ps is.results.apart pairs (rising ps by_tree trees)

pub results_of_rows_if : (old new : State) (c : List ℕ) (result : Result (Vec Row Global) Error) → IsStore old.now → IfOk result (λ rows. Shown results_text (Blob c ∷ []) old new rows.items)
    → IfOk result (λ rows. map shown_pair rows.items ≡ within c (entries (results_in old.now)))
results_of_rows_if old new c (Err e) is h = tt
results_of_rows_if old new c (Ok rows) is h = results_of_rows old new c rows.items is h
