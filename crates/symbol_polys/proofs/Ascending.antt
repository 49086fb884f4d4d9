-- Lists whose neighbours ascend are in order.
use Rattle.std.proofs.Common.{◌≡◌, ℕ, zero, suc, ◌+◌, ◌-◌, ◌<◌, ◌≤◌, Bool, true, false, List, [], ◌∷◌, length, map, drop, get_or, refl, ap, sym, ◌∙◌, arith, Ordering, Less, Equal, Greater}
use Rattle.std.proofs.lemmas.Bool.{and_parts, not-true}
use Rattle.std.proofs.lemmas.List.{drop_more}
use Rattle.std.specs.Prelude.{◌&&◌, not}
use Rattle.std.specs.Cmp.{IsTotalOrder}
use Rattle.std.specs.List.Sorted.{IsSorted, IsStrictlySortedBy}
use Rattle.std.specs.Ordering.{is_lt}
use Rattle.ordered_lists.proofs.Insertion.{below_all}
use Rattle.symbol_polys.specs.Neighbours.{neighbours}

less_is : (a : Ordering) → is_lt a ≡ true → a ≡ Less
less_is Less h = refl
less_is Equal h = absurd cc
less_is Greater h = absurd cc

-- the test of the neighbours that are left
pub next_pair : {A X : Type 0} (of : A → X) (p : X → X → Bool) (list : List A) (i : ℕ) (x y : A) (b : Bool) →
    0 < i → i < length list → x ≡ get_or list (i - 1) x → y ≡ get_or list i y →
    p (of x) (of y) ≡ b →
    neighbours p (map of (drop (i - 1) list)) ≡ (b && neighbours p (map of (drop i list)))
next_pair {A} of p list i x y b some l ex ey h =
    let back : i - 1 + 1 ≡ i = omega arith in
    let first : drop (i - 1) list ≡ x ∷ drop i list = drop_more list (i - 1) x (omega arith) ∙ ap (λ (z : A). z ∷ drop (i - 1 + 1) list) (sym ex) ∙ ap (λ (k : ℕ). x ∷ drop k list) back in
    let second : drop i list ≡ y ∷ drop (i + 1) list = drop_more list i y l ∙ ap (λ (z : A). z ∷ drop (i + 1) list) (sym ey) in
    ap (λ (xs : List A). neighbours p (map of xs)) (first ∙ ap (λ (xs : List A). x ∷ xs) second)
    ∙ ap (λ (c : Bool). c && neighbours p (of y ∷ map of (drop (i + 1) list))) h
    ∙ ap (λ (xs : List A). b && neighbours p (map of xs)) (sym second)

-- where a pair fails, all fail; where it passes, the rest decides
pub pair_fails : {A X : Type 0} (of : A → X) (p : X → X → Bool) (list : List A) (i : ℕ) (x y : A) (whole : Bool) →
    0 < i → i < length list → x ≡ get_or list (i - 1) x → y ≡ get_or list i y →
    p (of x) (of y) ≡ false →
    neighbours p (map of (drop (i - 1) list)) ≡ whole → false ≡ whole
pair_fails of p list i x y whole some l ex ey h w = sym (next_pair of p list i x y false some l ex ey h) ∙ w

pub pair_passes : {A X : Type 0} (of : A → X) (p : X → X → Bool) (list : List A) (i : ℕ) (x y : A) (whole : Bool) →
    0 < i → i < length list → x ≡ get_or list (i - 1) x → y ≡ get_or list i y →
    p (of x) (of y) ≡ true →
    neighbours p (map of (drop (i - 1) list)) ≡ whole → neighbours p (map of (drop (i + 1 - 1) list)) ≡ whole
pair_passes of p list i x y whole some l ex ey h w =
    let same : i + 1 - 1 ≡ i = omega arith in
    rw same (sym (next_pair of p list i x y true some l ex ey h) ∙ w)

one_left : {A X : Type 0} (of : A → X) (p : X → X → Bool) (list : List A) (j : ℕ) → length list ≤ j + 1 → neighbours p (map of (drop j list)) ≡ true
one_left of p [] zero l = refl
one_left of p [] (suc j) l = refl
one_left of p (x ∷ []) zero l = refl
one_left of p (x ∷ y ∷ list) zero l = absurd (omega arith)
one_left of p (x ∷ list) (suc j) l = one_left of p list j (omega arith)

-- where one member is left or none, nothing fails
pub at_end : {A X : Type 0} (of : A → X) (p : X → X → Bool) (list : List A) (i : ℕ) → 0 < i → length list ≤ i → neighbours p (map of (drop (i - 1) list)) ≡ true
at_end of p list i some l = one_left of p list (i - 1) (omega arith)

module _ {X : Type 0} (R : X → X → Ordering) where
  -- no member is less than the one before it
  abbrev pub ascends : X → X → Bool
  ascends x y = not (is_lt (R y x))

  sorted_cons : (x y : X) (xs : List X) → is_lt (R y x) ≡ false → IsSorted R (y ∷ xs) → IsSorted R (x ∷ y ∷ xs)
  sorted_cons x y xs h s zero d low high = h
  sorted_cons x y xs h s (suc k) d low high = let one : suc k + 1 ≡ suc (k + 1) = omega arith in rw one (s k d (omega arith) (omega arith))

  pub sorted_by : (xs : List X) → neighbours ascends xs ≡ true → IsSorted R xs
  sorted_by [] h = λ k d low high. absurd (omega arith)
  sorted_by (x ∷ []) h = λ k d low high. absurd (omega arith)
  sorted_by (x ∷ y ∷ xs) h =
      let t = and_parts (ascends x y) (neighbours ascends (y ∷ xs)) h in
      sorted_cons x y xs (not-true (is_lt (R y x)) t.0) (sorted_by (y ∷ xs) t.1)

  tail_sorted : (x : X) (xs : List X) → IsSorted R (x ∷ xs) → IsSorted R xs
  tail_sorted x xs s = λ k d low high. let one : suc k + 1 ≡ suc (k + 1) = omega arith in rw one at (s (suc k) d (omega arith) (omega arith))

  pub by_sorted : (xs : List X) → IsSorted R xs → neighbours ascends xs ≡ true
  by_sorted [] s = refl
  by_sorted (x ∷ []) s = refl
  by_sorted (x ∷ y ∷ xs) s =
      let first : is_lt (R y x) ≡ false = s 0 x (omega arith) (omega arith) in
      rw first (by_sorted (y ∷ xs) (tail_sorted x (y ∷ xs) s))

  -- each member is less than the next one
  abbrev pub precedes : X → X → Bool
  precedes x y = is_lt (R x y)

  pub strict_by : IsTotalOrder R → (xs : List X) → neighbours precedes xs ≡ true → IsStrictlySortedBy R xs
  unfolding IsStrictlySortedBy
  strict_by total [] h = tt
  strict_by total (x ∷ []) h = (tt, tt)
  strict_by total (x ∷ y ∷ xs) h =
      let t = and_parts (precedes x y) (neighbours precedes (y ∷ xs)) h in
      let rest = strict_by total (y ∷ xs) t.1 in
      let less = less_is (R x y) t.0 in
      ((less, below_all R total x y xs less rest.0), rest)

  pub by_strict : (xs : List X) → IsStrictlySortedBy R xs → neighbours precedes xs ≡ true
  unfolding IsStrictlySortedBy
  by_strict [] s = refl
  by_strict (x ∷ []) s = refl
  by_strict (x ∷ y ∷ xs) s = let w : R x y ≡ Less = s.0.0 in rw w (by_strict (y ∷ xs) s.1)
