-- The entries of a finite map that is made of a list.
use Rattle.std.proofs.Common.{◌≡◌, ◌&&◌, T, List, [], ◌∷◌, map, length, Bool, true, false, cond, Some, None, refl, sym, ap, subst, ◌∙◌, arith, Ordering, Less, Equal, Greater, is_lt}
use Rattle.std.specs.Ordering.{ordering_reverse, eq_by_cmp, is_eq}
use Rattle.std.specs.Cmp.{IsTotalOrder, eq_by_cmp_equiv}
use Rattle.std.specs.List.{AllByRecursion, IsDistinct}
use Rattle.std.specs.List.Sorted.{IsSorted, IsPermutation}
use Rattle.std.specs.FinMap.{FinMap, empty, keys, entries, from_entries, find, IsAntisymmetric, is_sorted, put, entries_sorted, same_entries_map, get-entries, len-entries, len-empty, len, get-from_entries, entries-insert}
use Rattle.std.specs.FinMap.Entries.{by_order, below_all}
use Rattle.std.proofs.lemmas.List.Sorted.{IsPermutation-refl, IsPermutation-cons, IsPermutation-trans, IsPermutation-sym, IsPermutation-map, IsPermutation-middle, length_permutation}
use Rattle.std.proofs.lemmas.Map.Keys.{IsDistinct-IsPermutation}
use Rattle.ordered_lists.proofs.Counts.{sorted-cons}
use Rattle.ordered_lists.proofs.Unique.{sorted_unique}
use Rattle.result_keeper.specs.Entries.{AreApart}
use Rattle.result_keeper.proofs.Orders.{pair_cmp, pair_total, pair_exact}

pub first_of : (a b : Bool) → T (a && b) → T a
first_of true b h = tt
first_of false b h = h

pub second_of : (a b : Bool) → T (a && b) → T b
second_of true b h = h
second_of false b h = absurd h

pub less_of : (r : Ordering) → T (is_lt r) → r ≡ Less
less_of Less h = refl
less_of Equal h = absurd h
less_of Greater h = absurd h

below_key : {K : Type 0} (R : K → K → Ordering) → IsTotalOrder R → (k y : K) → R k y ≡ Less → is_lt (R y k) ≡ false
below_key R o k y h = ap is_lt (o.antisymm y k ∙ ap ordering_reverse h)

module _ {K X : Type 0} (R : K → K → Ordering) where
  missing : (k : K) (es : List (K × X)) → AllByRecursion (λ y. eq_by_cmp R k y ≡ false) (map (λ e. e.0) es) → find R k es ≡ None
  missing k [] h = refl
  missing k (e ∷ es) h = ap (λ b. cond b (Some e.1) (find R k es)) h.0 ∙ missing k es h.1

  put_permutes : (k : K) (v : X) (es : List (K × X)) → find R k es ≡ None → IsPermutation ((k, v) ∷ es) (put R k v es)
  put_permutes k v [] h = IsPermutation-refl ((k, v) ∷ [])
  put_permutes k v (e ∷ es) h =
      (elim (R k e.0) as (λ (r : Ordering). cond (is_eq r) (Some e.1) (find R k es) ≡ None → IsPermutation ((k, v) ∷ e ∷ es) (by_order r ((k, v) ∷ e ∷ es) ((e.0, v) ∷ es) (e ∷ put R k v es))) [
        | Less ↦ λ n. IsPermutation-refl ((k, v) ∷ e ∷ es)
        | Equal ↦ λ n. absurd (let m : Some e.1 ≡ None = n in cc)
        | Greater ↦ λ n. IsPermutation-trans ((k, v) ∷ e ∷ es) (e ∷ (k, v) ∷ es) (e ∷ put R k v es) (IsPermutation-middle ((k, v) ∷ []) e es) (IsPermutation-cons e ((k, v) ∷ es) (put R k v es) (put_permutes k v es n))
      ]) h

  nil_of_length : (es : List (K × X)) → length es ≡ 0 → es ≡ []
  nil_of_length [] h = refl
  nil_of_length (e ∷ es) h = absurd (omega arith)

  entries-empty : entries (empty {X = X} {R = R}) ≡ []
  entries-empty = nil_of_length (entries (empty {X = X} {R = R})) (sym (len-entries (empty {X = X} {R = R})) ∙ len-empty R X)

  module _ (o : IsTotalOrder R) where
    -- the entries are those of the list, where no key comes twice
    pub entries_permute : (es : List (K × X)) → AreApart R es → IsPermutation es (entries (from_entries {R = R} es))
    unfolding IsDistinct
    entries_permute [] h = subst (λ (l : List (K × X)). IsPermutation [] l) (sym entries-empty) (IsPermutation-refl [])
    entries_permute (e ∷ es) h =
        let m : FinMap R X = from_entries es in
        let new : find R e.0 (entries m) ≡ None = sym (get-entries m e.0) ∙ get-from_entries o es e.0 ∙ missing e.0 es h.0 in
        let more = IsPermutation-cons e es (entries m) (entries_permute es h.1) in
        subst (λ (l : List (K × X)). IsPermutation (e ∷ es) l) (sym (entries-insert o m e.0 e.1)) (IsPermutation-trans (e ∷ es) (e ∷ entries m) (put R e.0 e.1 (entries m)) more (put_permutes e.0 e.1 (entries m) new))

    pub len-from_entries : (es : List (K × X)) → AreApart R es → len (from_entries {R = R} es) ≡ length es
    len-from_entries es h = len-entries (from_entries {R = R} es) ∙ length_permutation es (entries (from_entries {R = R} es)) (entries_permute es h)

    keys_below : (k : K) (es : List (K × X)) → T (below_all R k es) → AllByRecursion (λ y. is_lt (R y k) ≡ false) (map (λ e. e.0) es)
    keys_below k [] h = tt
    keys_below k (e ∷ es) h = (below_key R o k e.0 (less_of (R k e.0) (first_of (is_lt (R k e.0)) (below_all R k es) h)), keys_below k es (second_of (is_lt (R k e.0)) (below_all R k es) h))

    pub sorted_keys : (es : List (K × X)) → T (is_sorted R es) → IsSorted R (map (λ e. e.0) es)
    sorted_keys [] h = λ k d l m. absurd (omega arith)
    sorted_keys (e ∷ es) h = sorted-cons R o e.0 (map (λ f. f.0) es) (sorted_keys es (second_of (below_all R e.0 es) (is_sorted R es) h)) (keys_below e.0 es (first_of (below_all R e.0 es) (is_sorted R es) h))

    -- the keys in order are the keys of the map
    pub sorted_are_keys : IsAntisymmetric R → (es : List (K × X)) (ks : List K) → AreApart R es → IsPermutation (map (λ e. e.0) es) ks → IsSorted R ks → ks ≡ keys (from_entries {R = R} es)
    sorted_are_keys exact es ks apart p up =
        let m : FinMap R X = from_entries es in
        sorted_unique R o exact ks (keys m) up (sorted_keys (entries m) (entries_sorted m))
        (IsPermutation-trans ks (map (λ e. e.0) es) (keys m) (IsPermutation-sym (map (λ e. e.0) es) ks p) (IsPermutation-map (λ e. e.0) es (entries m) (entries_permute es apart)))

    module _ (S : X → X → Ordering) (s : IsTotalOrder S) where
      entries_below : (e : K × X) (es : List (K × X)) → T (below_all R e.0 es) → AllByRecursion (λ f. is_lt (pair_cmp R S f e) ≡ false) es
      entries_below e [] h = tt
      entries_below e (f ∷ es) h =
          let after : R f.0 e.0 ≡ Greater = o.antisymm f.0 e.0 ∙ ap ordering_reverse (less_of (R e.0 f.0) (first_of (is_lt (R e.0 f.0)) (below_all R e.0 es) h)) in
          (rw after refl, entries_below e es (second_of (is_lt (R e.0 f.0)) (below_all R e.0 es) h))

      pub sorted_entries : (es : List (K × X)) → T (is_sorted R es) → IsSorted (pair_cmp R S) es
      sorted_entries [] h = λ k d l m. absurd (omega arith)
      sorted_entries (e ∷ es) h = sorted-cons (pair_cmp R S) (pair_total o s) e es (sorted_entries es (second_of (below_all R e.0 es) (is_sorted R es) h)) (entries_below e es (first_of (below_all R e.0 es) (is_sorted R es) h))

      -- the order of the list does not matter
      pub same_in_any_order : IsAntisymmetric R → IsAntisymmetric S → (es fs : List (K × X)) → AreApart R es → IsPermutation es fs → from_entries {R = R} es ≡ from_entries fs
      same_in_any_order exact exact_values es fs apart p =
          let m : FinMap R X = from_entries es in
          let n : FinMap R X = from_entries fs in
          let also = IsDistinct-IsPermutation (eq_by_cmp R) (eq_by_cmp_equiv o).symm (map (λ e. e.0) es) (map (λ e. e.0) fs) (IsPermutation-map (λ e. e.0) es fs p) apart in
          let there = IsPermutation-trans (entries m) es fs (IsPermutation-sym es (entries m) (entries_permute es apart)) p in
          same_entries_map m n (sorted_unique (pair_cmp R S) (pair_total o s) (pair_exact exact exact_values) (entries m) (entries n) (sorted_entries (entries m) (entries_sorted m)) (sorted_entries (entries n) (entries_sorted n))
          (IsPermutation-trans (entries m) fs (entries n) there (entries_permute fs also)))
