-- What the list of the contexts answers.
use Rattle.std.proofs.Common.{◌≡◌, ℕ, suc, ◌||◌, List, [], ◌∷◌, ◌++◌, map, Bool, true, false, Ok, Err, Result, inl, inr, refl, sym, ap, subst, ◌∙◌, arith, IfOk, Vec, Global, All, Ordering, Less, Equal, Greater, is_lt}
use Rattle.std.specs.List.{flat_map, AllByRecursion, IsDistinct, list_any, dedup}
use Rattle.std.specs.List.Sorted.{IsPermutation, IsSorted, IsStrictlySortedBy}
use Rattle.std.specs.Ordering.{on, is_eq, eq_by_cmp, ordering_reverse}
use Rattle.std.specs.Cmp.{eq_by_cmp_equiv}
use Rattle.std.specs.Str.{bytes_eq}
use Rattle.std.specs.FinMap.{keys, entries, from_entries, entries_sorted}
use Rattle.std.proofs.lemmas.Simd.{map-map}
use Rattle.std.proofs.lemmas.Map.Text.{is_eq-slice_cmp}
use Rattle.std.proofs.lemmas.Map.Keys.{IsDistinct-IsPermutation}
use Rattle.std.proofs.lemmas.List.Kept.{IsStrictlySortedBy-dedup}
use Rattle.std.proofs.lemmas.List.Elements.{All-map, All-from_recursion, recursion_from_All}
use Rattle.std.proofs.lemmas.List.Sorted.{IsPermutation-map, All-permutation, list_any-IsPermutation}
use Rattle.sqlite_value.proofs.OrderLemmas.{value_cmp-Blob, then-Equal}
use Rattle.sqlite_sql.specs.Group.{members}
use Rattle.sqlite_value.specs.Keys.{collated_cmp}
use Rattle.sqlite.specs.Tree.{IsAscending}
use Rattle.sqlite.specs.declared.error.Error.{Error}
use Rattle.sqlite.specs.declared.types.Value.TheVariants.{Blob}
use Rattle.sqlite.specs.Collation.TheVariants.{Binary}
use Rattle.sqlite.specs.Order.{Row, column, value_cmp}
use Rattle.sqlite.specs.Query.{IsAnswer, output, Output}
use Rattle.sqlite.specs.Program.{overlay}
use Rattle.sqlite.specs.State.{State, Shown}
use Rattle.ordered_lists.specs.Members.{IsIn}
use Rattle.ordered_lists.proofs.Insertion.{strictly_sorted_unique}
use Rattle.ordered_lists.proofs.Unique.{sorted-rest}
use Rattle.ordered_lists.proofs.Counts.{first_is_least}
use Rattle.result_keeper.specs.Kept.{bytes_cmp, row_cmp, contexts_in, Rows}
use Rattle.result_keeper.proofs.Orders.{bytes_total, bytes_exact, row_total}
use Rattle.result_keeper.proofs.Maps.{entries_permute}
use Rattle.result_keeper.proofs.Ordered.{sorted_map, sorted_contexts}
use Rattle.result_keeper.proofs.Moves.{among-dedup, bytes_itself, same_bytes}
use Rattle.sqlite_keeper.specs.Tables.{result_rows, result_entry, results_in, shown_text, IsResultRow, IsStore}
use Rattle.sqlite_keeper.proofs.Statements.{answer_of, contexts_text, contexts_query, contexts_is}
use Rattle.sqlite_keeper.proofs.Sorting.{sorted_alike, first_cmp, first_bytes, IsBlobFirst, blob_first}

abbrev Texts : Type 0
Texts = List (List ℕ)

abbrev shown_row : Row → Output
shown_row r = (column r 1 ∷ [], column r 1 ∷ [])

shows_is : (rows : List Row) → map (output contexts_query) (flat_map (λ r. ([] ∷ r ∷ []) ∷ []) rows) ≡ map shown_row rows
shows_is [] = refl
shows_is (r ∷ rows) = ap (λ (l : List Output). shown_row r ∷ l) (shows_is rows)

-- an output shows the context that it is sorted by, and nothing else
record IsContextOutput (o : Output) : Type 0 where
  blob : IsBlobFirst o
  same : o.1 ≡ Blob (first_bytes o) ∷ []

context_output : (rows : List Row) → All IsResultRow rows → All IsContextOutput (map shown_row rows)
context_output rows all = All-map IsContextOutput shown_row rows (λ k d l. let is = all k d l in record { blob = is.context; same = ap (λ v. v ∷ []) is.context })

abbrev out_cmp : Output → Output → Ordering
out_cmp = on (λ o. o.1) (collated_cmp (Binary ∷ []))

out_bytes : (x y : Output) → IsContextOutput x → IsContextOutput y → out_cmp x y ≡ bytes_cmp (first_bytes x) (first_bytes y)
out_bytes x y p q =
    (λ i. collated_cmp (Binary ∷ []) (p.same i) (q.same i))
    ∙ then-Equal (value_cmp (Blob (first_bytes x)) (Blob (first_bytes y)))
    ∙ value_cmp-Blob (first_bytes x) (first_bytes y)

abbrev Group : Type 0
Group = Output × List Output

-- what holds of all elements holds of the members of the groups
split : (P : Output → Type 0) (xs ys : List Output) → AllByRecursion P (xs ++ ys) → AllByRecursion P xs × AllByRecursion P ys
split P [] ys a = (tt, a)
split P (x ∷ xs) ys a = let rest = split P xs ys a.1 in ((a.0, rest.0), rest.1)

any_append : (q : List ℕ) (xs ys : List Output) → list_any (bytes_eq q) (map first_bytes (xs ++ ys)) ≡ (list_any (bytes_eq q) (map first_bytes xs) || list_any (bytes_eq q) (map first_bytes ys))
any_append q [] ys = refl
any_append q (x ∷ xs) ys = ap (λ b. bytes_eq q (first_bytes x) || b) (any_append q xs ys) ∙ or_assoc (bytes_eq q (first_bytes x)) (list_any (bytes_eq q) (map first_bytes xs)) (list_any (bytes_eq q) (map first_bytes ys))
  where
    or_assoc : (a b c : Bool) → (a || (b || c)) ≡ ((a || b) || c)
    or_assoc true b c = refl
    or_assoc false b c = refl

or_same : (a b : Bool) → b ≡ a → (a || b) ≡ a
or_same true b h = refl
or_same false b h = h

-- the members of a group have the context of its first
any_group : (q : List ℕ) (x : Output) (ys : List Output) → IsContextOutput x → AllByRecursion IsContextOutput ys → AllByRecursion (λ y. out_cmp x y ≡ Equal) ys
    → list_any (bytes_eq q) (map first_bytes (x ∷ ys)) ≡ bytes_eq q (first_bytes x)
any_group q x [] g a e = or_false (bytes_eq q (first_bytes x))
  where
    or_false : (b : Bool) → (b || false) ≡ b
    or_false true = refl
    or_false false = refl
any_group q x (y ∷ ys) g a e =
    let same : first_bytes x ≡ first_bytes y = bytes_exact (first_bytes x) (first_bytes y) (sym (out_bytes x y g a.0) ∙ e.0) in
    ap (λ (t : List ℕ). bytes_eq q (first_bytes x) || (bytes_eq q t || list_any (bytes_eq q) (map first_bytes ys))) (sym same)
    ∙ or_again (bytes_eq q (first_bytes x)) (list_any (bytes_eq q) (map first_bytes ys))
    ∙ any_group q x ys g a.1 e.1
  where
    or_again : (a b : Bool) → (a || (a || b)) ≡ (a || b)
    or_again true b = refl
    or_again false b = refl

firsts_any : (q : List ℕ) (groups : List Group) → AllByRecursion IsContextOutput (flat_map members groups) → AllByRecursion (λ g. AllByRecursion (λ x. out_cmp g.0 x ≡ Equal) g.1) groups
    → list_any (bytes_eq q) (map first_bytes (map (λ g. g.0) groups)) ≡ list_any (bytes_eq q) (map first_bytes (flat_map members groups))
firsts_any q [] a e = refl
firsts_any q (g ∷ groups) a e =
    let parts = split IsContextOutput (members g) (flat_map members groups) a in
    (λ i. (sym (any_group q g.0 g.1 parts.0.0 parts.0.1 e.0) i) || (firsts_any q groups parts.1 e.1 i))
    ∙ sym (any_append q (members g) (flat_map members groups))

good_firsts : (groups : List Group) → AllByRecursion IsContextOutput (flat_map members groups) → AllByRecursion IsContextOutput (map (λ g. g.0) groups)
good_firsts [] a = tt
good_firsts (g ∷ groups) a = let parts = split IsContextOutput (members g) (flat_map members groups) a in (parts.0.0, good_firsts groups parts.1)

not_equal : (x y : List ℕ) → (bytes_cmp x y ≡ Equal → ⊥) → eq_by_cmp bytes_cmp x y ≡ false
not_equal x y h =
    (elim (bytes_cmp x y) as (λ (o : Ordering). (o ≡ Equal → ⊥) → is_eq o ≡ false) [
      | Less ↦ λ n. refl
      | Equal ↦ λ n. absurd (n refl)
      | Greater ↦ λ n. refl
    ]) h

firsts_apart_from : (g : Group) (groups : List Group) → IsContextOutput g.0 → AllByRecursion IsContextOutput (map (λ h. h.0) groups) → AllByRecursion (λ h. out_cmp g.0 h.0 ≡ Equal → ⊥) groups
    → AllByRecursion (λ y. eq_by_cmp bytes_cmp (first_bytes g.0) y ≡ false) (map first_bytes (map (λ h. h.0) groups))
firsts_apart_from g [] s a e = tt
firsts_apart_from g (h ∷ groups) s a e = (not_equal (first_bytes g.0) (first_bytes h.0) (λ t. e.0 (out_bytes g.0 h.0 s a.0 ∙ t)), firsts_apart_from g groups s a.1 e.1)

firsts_apart : (groups : List Group) → AllByRecursion IsContextOutput (map (λ g. g.0) groups) → IsAscending (λ g h. out_cmp g.0 h.0 ≡ Equal → ⊥) groups → IsDistinct (eq_by_cmp bytes_cmp) (map first_bytes (map (λ g. g.0) groups))
unfolding IsDistinct
firsts_apart [] a e = tt
firsts_apart (g ∷ groups) a e = (firsts_apart_from g groups a.0 a.1 e.0, firsts_apart groups a.1 e.1)

below : (a b : Ordering) → a ≡ ordering_reverse b → is_eq a ≡ false → is_lt b ≡ false → a ≡ Less
below a Less h e l = absurd cc
below a Equal h e l = absurd (let t : is_eq a ≡ true = ap is_eq h in cc)
below a Greater h e l = h

-- a sorted list of distinct texts rises
strictly : (xs : Texts) → IsSorted bytes_cmp xs → IsDistinct (eq_by_cmp bytes_cmp) xs → IsStrictlySortedBy bytes_cmp xs
unfolding IsDistinct IsStrictlySortedBy
strictly [] h d = tt
strictly (x ∷ xs) h d = (all_after xs (first_is_least bytes_cmp bytes_total x xs h) d.0, strictly xs (sorted-rest bytes_cmp bytes_total x xs h) d.1)
  where
    all_after : (ys : Texts) → AllByRecursion (λ y. is_lt (bytes_cmp y x) ≡ false) ys → AllByRecursion (λ y. eq_by_cmp bytes_cmp x y ≡ false) ys → AllByRecursion (λ y. bytes_cmp x y ≡ Less) ys
    all_after [] a b = tt
    all_after (y ∷ ys) a b = (below (bytes_cmp x y) (bytes_cmp y x) (bytes_total.antisymm x y) b.0 a.0, all_after ys a.1 b.1)

in_from_any : (q : List ℕ) (xs : Texts) → list_any (bytes_eq q) xs ≡ true → IsIn q xs
in_from_any q [] h = absurd cc
in_from_any q (x ∷ xs) h =
    (elim (bytes_eq q x) as (λ b. bytes_eq q x ≡ b → (b || list_any (bytes_eq q) xs) ≡ true → IsIn q (x ∷ xs)) [
      | true ↦ λ t g. inl (sym (same_bytes q x t))
      | false ↦ λ t g. inr (in_from_any q xs g)
    ]) refl h

any_from_in : (q : List ℕ) (xs : Texts) → IsIn q xs → list_any (bytes_eq q) xs ≡ true
any_from_in q [] h = absurd h
any_from_in q (x ∷ xs) (inl e) = ap (λ t. bytes_eq q t || list_any (bytes_eq q) xs) e ∙ ap (λ b. b || list_any (bytes_eq q) xs) (bytes_itself q)
any_from_in q (x ∷ xs) (inr h) = or_true (bytes_eq q x) (list_any (bytes_eq q) xs) (any_from_in q xs h)
  where
    or_true : (a b : Bool) → b ≡ true → (a || b) ≡ true
    or_true true b k = refl
    or_true false b k = k

-- the rows show the contexts in order, each once
pub contexts_of_rows : (old new : State) (rows : List Row) → IsStore old.now → Shown contexts_text [] old new rows → map shown_text rows ≡ contexts_in (results_in old.now)
contexts_of_rows old new rows is h =
    let all = result_rows old.now in
    let es = map result_entry all in
    let m : Rows = from_entries es in
    let a : IsAnswer contexts_query (overlay old.now.trees []) [] rows = answer_of contexts_text contexts_query _ contexts_is [] old new rows is.schema h in
    let outs = map shown_row all in
    let staged : map (output contexts_query) a.staged ≡ outs = ap (map (output contexts_query)) a.grouped ∙ shows_is all in
    let groups = a.distinct.0 in
    let part = a.distinct.1 in
    let there : IsPermutation outs (flat_map members groups) = subst (λ l. IsPermutation l (flat_map members groups)) staged part.same in
    let good = recursion_from_All IsContextOutput (flat_map members groups) (All-permutation IsContextOutput outs (flat_map members groups) there (context_output all is.results.typed)) in
    let firsts = map (λ (g : Group). g.0) groups in
    let moved : IsPermutation firsts a.ordered = subst (λ k. IsPermutation k a.ordered) a.distinct.2 a.same in
    let outputs : All IsContextOutput a.ordered = All-permutation IsContextOutput firsts a.ordered moved (All-from_recursion IsContextOutput firsts (good_firsts groups good)) in
    let cs = map first_bytes a.ordered in
    let up : IsSorted bytes_cmp cs = sorted_map first_bytes bytes_cmp bytes_total a.ordered (sorted_alike first_cmp (on first_bytes bytes_cmp) IsBlobFirst blob_first a.ordered (λ k d l. (outputs k d l).blob) a.sorted) in
    let spread = IsPermutation-map first_bytes firsts a.ordered moved in
    let apart = IsDistinct-IsPermutation (eq_by_cmp bytes_cmp) (eq_by_cmp_equiv bytes_total).symm (map first_bytes firsts) cs spread (firsts_apart groups (good_firsts groups good) part.apart) in
    let kept = map (λ (k : List ℕ × List ℕ). k.0) (keys m) in
    let right = IsStrictlySortedBy-dedup bytes_total (λ x y. sym (is_eq-slice_cmp x y)) kept (sorted_contexts (entries m) (entries_sorted m)) in
    let contexts : map first_bytes outs ≡ map (λ k. k.0) (map (λ e. e.0) es) = map-map first_bytes shown_row all ∙ sym (map-map (λ k. k.0) (λ r. (result_entry r).0) all) ∙ ap (map (λ k. k.0)) (sym (map-map (λ e. e.0) result_entry all)) in
    let whole = IsPermutation-map (λ k. k.0) (map (λ e. e.0) es) (keys m) (IsPermutation-map (λ e. e.0) es (entries m) (entries_permute row_cmp row_total es is.results.apart)) in
    let alike = λ (q : List ℕ).
    sym (list_any-IsPermutation (bytes_eq q) (map first_bytes firsts) cs spread)
    ∙ firsts_any q groups good part.alike
    ∙ sym (list_any-IsPermutation (bytes_eq q) (map first_bytes outs) (map first_bytes (flat_map members groups)) (IsPermutation-map first_bytes outs (flat_map members groups) there))
    ∙ ap (list_any (bytes_eq q)) contexts
    ∙ list_any-IsPermutation (bytes_eq q) (map (λ k. k.0) (map (λ e. e.0) es)) kept whole
    ∙ sym (among-dedup q kept) in
    let shown : map shown_text rows ≡ cs = ap (map shown_text) a.shown ∙ map-map shown_text (λ (o : Output). o.1) a.ordered ∙ same_texts a.ordered outputs in
    shown ∙ strictly_sorted_unique bytes_cmp bytes_total bytes_exact cs (dedup bytes_eq kept) (strictly cs up apart) right
    (λ q i. in_from_any q (dedup bytes_eq kept) (sym (alike q) ∙ any_from_in q cs i))
    (λ q i. in_from_any q cs (alike q ∙ any_from_in q (dedup bytes_eq kept) i))
  where
    same_texts : (os : List Output) → All IsContextOutput os → map (λ o. shown_text o.1) os ≡ map first_bytes os
    same_texts [] a = refl
    same_texts (o ∷ os) a =
        let first : shown_text o.1 ≡ first_bytes o = ap shown_text (a 0 o (omega arith)).same in
        λ i. first i ∷ same_texts os (λ k d l. a (suc k) d (omega arith)) i

pub contexts_of_rows_if : (old new : State) (result : Result (Vec Row Global) Error) → IsStore old.now → IfOk result (λ rows. Shown contexts_text [] old new rows.items) → IfOk result (λ rows. map shown_text rows.items ≡ contexts_in (results_in old.now))
contexts_of_rows_if old new (Err e) is h = tt
contexts_of_rows_if old new (Ok rows) is h = contexts_of_rows old new rows.items is h
