-- The answers in order: the results of a context, and the contexts.
use Rattle.std.proofs.Common.{◌≡◌, ℕ, ◌+◌, T, List, [], ◌∷◌, map, filter, Bool, true, false, cond, refl, sym, ap, ◌∙◌, arith, Ordering, Less, Equal, Greater, is_lt}
use Rattle.std.specs.Ordering.{ordering_reverse, ordering_then, is_eq, on}
use Rattle.std.specs.Cmp.{IsTotalOrder, tied_itself}
use Rattle.std.specs.Str.{bytes_eq}
use Rattle.std.specs.List.{AllByRecursion, sum_by, dedup, dedup_from}
use Rattle.std.specs.List.Sorted.{IsSorted, IsPermutation}
use Rattle.std.specs.FinMap.{keys, entries, from_entries, is_sorted, entries_sorted}
use Rattle.std.specs.FinMap.Entries.{below_all}
use Rattle.std.proofs.lemmas.Cmp.{on_total}
use Rattle.std.proofs.lemmas.Slice.Eq.{bytes_eq-Decides}
use Rattle.std.proofs.lemmas.List.Sums.{sum_by-cons}
use Rattle.std.proofs.lemmas.List.Sorted.{sum_by-IsPermutation, IsPermutation-trans, IsPermutation-sym, IsPermutation-map}
use Rattle.ordered_lists.specs.Subs.{count_of}
use Rattle.ordered_lists.proofs.Counts.{sorted-cons, first_is_least}
use Rattle.ordered_lists.proofs.Unique.{by_counts, sorted_unique, sorted-rest}
use Rattle.result_keeper.specs.Kept.{bytes_cmp, row_cmp, Rows, within, contexts_in}
use Rattle.result_keeper.specs.Entries.{AreApart}
use Rattle.result_keeper.proofs.Orders.{bytes_total, bytes_exact, row_total, row_exact}
use Rattle.result_keeper.proofs.Maps.{first_of, second_of, less_of, entries_permute}

abbrev Entry : Type 0
Entry = (List ℕ × List ℕ) × List ℕ

-- a list that is sorted by f of its elements
pub sorted_map : {A K : Type 0} (f : A → K) (R : K → K → Ordering) → IsTotalOrder R → (xs : List A) → IsSorted (on f R) xs → IsSorted R (map f xs)
sorted_map f R o [] h = λ k d l m. absurd (omega arith)
sorted_map {A} f R o (x ∷ xs) h = sorted-cons R o (f x) (map f xs) (sorted_map f R o xs (sorted-rest (on f R) (on_total f o) x xs h)) (least xs (first_is_least (on f R) (on_total f o) x xs h))
  where
    least : (ys : List A) → AllByRecursion (λ y. is_lt (R (f y) (f x)) ≡ false) ys → AllByRecursion (λ y. is_lt (R y (f x)) ≡ false) (map f ys)
    least [] a = tt
    least (y ∷ ys) a = (a.0, least ys a.1)

abbrev weight : List ℕ × List ℕ → List ℕ → Entry → ℕ
weight z c e = cond (bytes_eq e.0.0 c) (cond (is_eq (row_cmp z (e.0.1, e.1))) 1 0) 0

count_of-within : (z : List ℕ × List ℕ) (c : List ℕ) (es : List Entry) → count_of row_cmp z (within c es) ≡ sum_by (weight z c) es
count_of-within z c [] = refl
count_of-within z c (e ∷ es) =
    (elim (bytes_eq e.0.0 c) as (λ b. count_of row_cmp z (map (λ (r : Entry). (r.0.1, r.1)) (cond b (e ∷ filter (λ (r : Entry). bytes_eq r.0.0 c) es) (filter (λ (r : Entry). bytes_eq r.0.0 c) es))) ≡ cond b (cond (is_eq (row_cmp z (e.0.1, e.1))) 1 0) 0 + sum_by (weight z c) es) [
      | true ↦ ap (λ n. cond (is_eq (row_cmp z (e.0.1, e.1))) 1 0 + n) (count_of-within z c es)
      | false ↦ omega (arith, count_of-within z c es)
    ]) ∙ sym (sum_by-cons (weight z c) e es)

count_of-sum : (z : List ℕ × List ℕ) (ps : List (List ℕ × List ℕ)) → sum_by (λ p. cond (is_eq (row_cmp z p)) 1 0) ps ≡ count_of row_cmp z ps
count_of-sum z [] = refl
count_of-sum z (p ∷ ps) = sum_by-cons (λ p. cond (is_eq (row_cmp z p)) 1 0) p ps ∙ ap (λ n. cond (is_eq (row_cmp z p)) 1 0 + n) (count_of-sum z ps)

-- of two rows of a context, the one with the greater tree is not below
not_below : (c : List ℕ) (e f : Entry) → bytes_eq e.0.0 c ≡ true → bytes_eq f.0.0 c ≡ true →
    row_cmp e.0 f.0 ≡ Less → is_lt (row_cmp (f.0.1, f.1) (e.0.1, e.1)) ≡ false
not_below c e f m n h =
    let same : e.0.0 ≡ f.0.0 = (bytes_eq-Decides e.0.0 c).0 m ∙ sym ((bytes_eq-Decides f.0.0 c).0 n) in
    let tie : bytes_cmp e.0.0 f.0.0 ≡ Equal = ap (λ x. bytes_cmp e.0.0 x) (sym same) ∙ tied_itself bytes_total e.0.0 in
    let less : bytes_cmp e.0.1 f.0.1 ≡ Less = rw tie at h in
    let after : bytes_cmp f.0.1 e.0.1 ≡ Greater = bytes_total.antisymm f.0.1 e.0.1 ∙ ap ordering_reverse less in
    rw after refl

none_below : (c : List ℕ) (e : Entry) (es : List Entry) → bytes_eq e.0.0 c ≡ true →
    T (below_all row_cmp e.0 es) →
    AllByRecursion (λ p. is_lt (row_cmp p (e.0.1, e.1)) ≡ false) (within c es)
none_below c e [] m h = tt
none_below c e (f ∷ es) m h =
    let rest = none_below c e es m (second_of (is_lt (row_cmp e.0 f.0)) (below_all row_cmp e.0 es) h) in
    (elim (bytes_eq f.0.0 c) as (λ b. bytes_eq f.0.0 c ≡ b → AllByRecursion (λ p. is_lt (row_cmp p (e.0.1, e.1)) ≡ false) (map (λ (r : Entry). (r.0.1, r.1)) (cond b (f ∷ filter (λ (r : Entry). bytes_eq r.0.0 c) es) (filter (λ (r : Entry). bytes_eq r.0.0 c) es)))) [
      | true ↦ λ n. (not_below c e f m n (less_of (row_cmp e.0 f.0) (first_of (is_lt (row_cmp e.0 f.0)) (below_all row_cmp e.0 es) h)), rest)
      | false ↦ λ n. rest
    ]) refl

sorted_within : (c : List ℕ) (es : List Entry) → T (is_sorted row_cmp es) → IsSorted row_cmp (within c es)
sorted_within c [] h = λ k d l m. absurd (omega arith)
sorted_within c (e ∷ es) h =
    let rest = sorted_within c es (second_of (below_all row_cmp e.0 es) (is_sorted row_cmp es) h) in
    (elim (bytes_eq e.0.0 c) as (λ b. bytes_eq e.0.0 c ≡ b → IsSorted row_cmp (map (λ (r : Entry). (r.0.1, r.1)) (cond b (e ∷ filter (λ (r : Entry). bytes_eq r.0.0 c) es) (filter (λ (r : Entry). bytes_eq r.0.0 c) es)))) [
      | true ↦ λ m. sorted-cons row_cmp row_total (e.0.1, e.1) (within c es) rest (none_below c e es m (first_of (below_all row_cmp e.0 es) (is_sorted row_cmp es) h))
      | false ↦ λ m. rest
    ]) refl

-- the rows of a context in order are those of the map
pub sorted_are_results : (c : List ℕ) (es : List Entry) (ps : List (List ℕ × List ℕ)) → AreApart row_cmp es → IsPermutation (within c es) ps → IsSorted row_cmp ps → ps ≡ within c (entries (from_entries {R = row_cmp} es))
sorted_are_results c es ps apart p up =
    let m : Rows = from_entries es in
    by_counts row_cmp row_total row_exact ps (within c (entries m)) up (sorted_within c (entries m) (entries_sorted m)) (λ z.
    sym (count_of-sum z ps)
    ∙ sum_by-IsPermutation (λ q. cond (is_eq (row_cmp z q)) 1 0) (within c es) ps p
    ∙ count_of-sum z (within c es)
    ∙ count_of-within z c es
    ∙ sym (sum_by-IsPermutation (weight z c) es (entries m) (entries_permute row_cmp row_total es apart))
    ∙ sym (count_of-within z c (entries m)))

context_not_below : (x y : List ℕ × List ℕ) → row_cmp x y ≡ Less → is_lt (bytes_cmp y.0 x.0) ≡ false
context_not_below x y h =
    ap is_lt (bytes_total.antisymm y.0 x.0)
    ∙ (elim (bytes_cmp x.0 y.0) as (λ (a : Ordering). ordering_then a (bytes_cmp x.1 y.1) ≡ Less → is_lt (ordering_reverse a) ≡ false) [
      | Less ↦ λ g. refl
      | Equal ↦ λ g. refl
      | Greater ↦ λ g. absurd cc
    ]) h

contexts_below : (k : List ℕ × List ℕ) (es : List Entry) → T (below_all row_cmp k es) →
    AllByRecursion (λ y. is_lt (bytes_cmp y k.0) ≡ false) (map (λ r. r.0) (map (λ e. e.0) es))
contexts_below k [] h = tt
contexts_below k (e ∷ es) h = (context_not_below k e.0 (less_of (row_cmp k e.0) (first_of (is_lt (row_cmp k e.0)) (below_all row_cmp k es) h)), contexts_below k es (second_of (is_lt (row_cmp k e.0)) (below_all row_cmp k es) h))

pub sorted_contexts : (es : List Entry) → T (is_sorted row_cmp es) → IsSorted bytes_cmp (map (λ r. r.0) (map (λ e. e.0) es))
sorted_contexts [] h = λ k d l m. absurd (omega arith)
sorted_contexts (e ∷ es) h = sorted-cons bytes_cmp bytes_total e.0.0 (map (λ r. r.0) (map (λ f. f.0) es)) (sorted_contexts es (second_of (below_all row_cmp e.0 es) (is_sorted row_cmp es) h)) (contexts_below e.0 es (first_of (below_all row_cmp e.0 es) (is_sorted row_cmp es) h))

-- the contexts in order, each once, are those of the map
pub sorted_are_contexts : (es : List Entry) (cs : List (List ℕ)) → AreApart row_cmp es →
    IsPermutation (map (λ r. r.0) (map (λ e. e.0) es)) cs → IsSorted bytes_cmp cs →
    dedup bytes_eq cs ≡ contexts_in (from_entries es)
sorted_are_contexts es cs apart p up =
    let m : Rows = from_entries es in
    let all = map (λ (r : List ℕ × List ℕ). r.0) (keys m) in
    ap (dedup bytes_eq) (sorted_unique bytes_cmp bytes_total bytes_exact cs all up (sorted_contexts (entries m) (entries_sorted m))
    (IsPermutation-trans cs (map (λ r. r.0) (map (λ e. e.0) es)) all (IsPermutation-sym (map (λ r. r.0) (map (λ e. e.0) es)) cs p)
    (IsPermutation-map (λ r. r.0) (map (λ e. e.0) es) (keys m) (IsPermutation-map (λ e. e.0) es (entries m) (entries_permute row_cmp row_total es apart)))))

-- neighbours are the same before and after f
pub map-dedup : {A : Type 0} (f : A → List ℕ) (same : A → A → Bool) →
    ((x y : A) → same x y ≡ bytes_eq (f x) (f y)) → (xs : List A) →
    map f (dedup same xs) ≡ dedup bytes_eq (map f xs)
map-dedup f same is [] = refl
map-dedup {A} f same is (x ∷ xs) = go x xs
  where
    go : (k : A) (xs : List A) → map f (dedup_from same k xs) ≡ dedup_from bytes_eq (f k) (map f xs)
    go k [] = refl
    go k (x ∷ xs) =
        ap (λ b. map f (cond b (dedup_from same k xs) (k ∷ dedup_from same x xs))) (is x k)
        ∙ (elim (bytes_eq (f x) (f k)) as (λ b. map f (cond b (dedup_from same k xs) (k ∷ dedup_from same x xs)) ≡ cond b (dedup_from bytes_eq (f k) (map f xs)) (f k ∷ dedup_from bytes_eq (f x) (map f xs))) [
          | true ↦ go k xs
          | false ↦ ap (λ (l : List (List ℕ)). f k ∷ l) (go x xs)
        ])
