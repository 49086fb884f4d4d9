-- Laws of sums by key.
use Rattle.std.proofs.Common.{take, drop, length, ◌≤◌, ◌≡◌, ℕ, zero, suc, ◌+◌, ◌*◌, Bool, true, false, cond, List, [], ◌∷◌, ◌++◌, refl, sym, ap, subst, ◌∙◌, arith}
use Rattle.std.specs.List.{sum_by}
use Rattle.std.proofs.lemmas.List.{drop_all, get_or-map, length-map}
use Rattle.std.proofs.lemmas.List.Elements.{All-from_recursion, recursion_from_All}
use Rattle.std.proofs.lemmas.List.Sums.{sum_by-cons}
use Rattle.std.proofs.lemmas.List.Sorted.{sum_by-IsPermutation, All-permutation}
use Rattle.std.specs.List.Sorted.{IsPermutation}
use Rattle.exact_sums.specs.Saturating.{overflow, saturated, saturating_plus}
use Rattle.exact_sums.specs.Keyed.{IsExactTest, sum_at, HaveSameSums, HaveSameSaturatedSums, sum_with, rekeyed, scaled, saturated_terms, expanded, products, join_onto, joined_neighbours, keys, products_with}
use Rattle.std.proofs.Common.{◌<◌}
use Rattle.std.specs.List.{All, AllByRecursion, dedup, dedup_from}
use Rattle.std.specs.List.Sorted.{IsStrictlySortedBy, IsSorted, IsSortedByKey}
use Rattle.std.specs.declared.cmp.Ordering.{Ordering}
use Rattle.std.specs.declared.cmp.Ordering.TheVariants.{Less, Equal, Greater}
use Rattle.std.specs.Cmp.{IsTotalOrder}
use Rattle.std.specs.Ordering.{ordering_reverse, is_eq}
use Rattle.exact_sums.proofs.SaturatingLaws.{saturated_mul_left, saturated_mul_right}

-- one part behind another
pub sum_with-append : {K : Type 0} (f : K → ℕ) (xs ys : List (K × ℕ)) → sum_with f (xs ++ ys) ≡ sum_with f xs + sum_with f ys
sum_with-append f [] ys = omega arith
sum_with-append f (x ∷ xs) ys = omega (arith, sum_with-append f xs ys)

pub sum_at-append : {K : Type 0} (same : K → K → Bool) (k : K) (xs ys : List (K × ℕ)) → sum_at same k (xs ++ ys) ≡ sum_at same k xs + sum_at same k ys
sum_at-append same k [] ys = omega arith
sum_at-append same k (x ∷ xs) ys = omega (arith, sum_at-append same k xs ys)

-- another order
sum_at_sum_by : {K : Type 0} (same : K → K → Bool) (k : K) (xs : List (K × ℕ)) → sum_by (λ (t : K × ℕ). cond (same t.0 k) t.1 0) xs ≡ sum_at same k xs
sum_at_sum_by same k [] = refl
sum_at_sum_by {K} same k (x ∷ xs) =
    sum_by-cons (λ (t : K × ℕ). cond (same t.0 k) t.1 0) x xs ∙ ap (λ (n : ℕ). cond (same x.0 k) x.1 0 + n) (sum_at_sum_by same k xs)

pub sum_at-permutation : {K : Type 0} (same : K → K → Bool) (k : K) (xs ys : List (K × ℕ)) → IsPermutation xs ys → sum_at same k ys ≡ sum_at same k xs
sum_at-permutation {K} same k xs ys h =
    sym (sum_at_sum_by same k ys) ∙ sum_by-IsPermutation (λ (t : K × ℕ). cond (same t.0 k) t.1 0) xs ys h ∙ sum_at_sum_by same k xs

-- a sum by key is a sum_with sum
indicator : (b : Bool) (c : ℕ) → cond b 1 0 * c ≡ cond b c 0
indicator true c = omega arith
indicator false c = omega arith

pub sum_with_at : {K : Type 0} (same : K → K → Bool) (k : K) (xs : List (K × ℕ)) → sum_with (λ x. cond (same x k) 1 0) xs ≡ sum_at same k xs
sum_with_at same k [] = refl
sum_with_at same k (x ∷ xs) = let e = indicator (same x.0 k) x.1 in omega (arith, e, sum_with_at same k xs)

pub sum_with_ext : {K : Type 0} (f g : K → ℕ) → ((k : K) → f k ≡ g k) → (xs : List (K × ℕ)) → sum_with f xs ≡ sum_with g xs
sum_with_ext f g h [] = refl
sum_with_ext f g h (x ∷ xs) =
    let e : f x.0 * x.1 ≡ g x.0 * x.1 = ap (λ (n : ℕ). n * x.1) (h x.0) in omega (arith, e, sum_with_ext f g h xs)

-- other keys, a factor, and terms put in the place of terms
pub sum_with-rekeyed : {K J : Type 0} (f : J → ℕ) (h : K → J) (xs : List (K × ℕ)) → sum_with f (rekeyed h xs) ≡ sum_with (λ k. f (h k)) xs
sum_with-rekeyed f h [] = refl
sum_with-rekeyed f h (x ∷ xs) = ap (λ (n : ℕ). f (h x.0) * x.1 + n) (sum_with-rekeyed f h xs)

pub sum_with-scaled : {K : Type 0} (f : K → ℕ) (c : ℕ) (xs : List (K × ℕ)) → sum_with f (scaled c xs) ≡ sum_with f xs * c
sum_with-scaled f c [] = omega arith
sum_with-scaled f c (x ∷ xs) = omega (arith, sum_with-scaled f c xs)

pub sum_with-expanded : {K J : Type 0} (f : J → ℕ) (step : K → List (J × ℕ)) (xs : List (K × ℕ)) →
    sum_with f (expanded step xs) ≡ sum_with (λ k. sum_with f (step k)) xs
sum_with-expanded f step [] = refl
sum_with-expanded f step (x ∷ xs) =
    let a = sum_with-append f (scaled x.1 (step x.0)) (expanded step xs) in
    let s = sum_with-scaled f x.1 (step x.0) in
    omega (arith, a, s, sum_with-expanded f step xs)

-- keys in a list, each once
abbrev has : {K : Type 0} → (K → K → Bool) → K → List K → Bool
has same k [] = false
has same k (j ∷ js) = cond (same k j) true (has same k js)

abbrev Apart : {K : Type 0} → (K → K → Bool) → List K → Type 0
Apart same [] = Unit {0}
Apart same (k ∷ ks) = (has same k ks ≡ false) × Apart same ks

abbrev Covers : {K : Type 0} → (K → K → Bool) → List K → List (K × ℕ) → Type 0
Covers same ks [] = Unit {0}
Covers same ks (t ∷ ts) = (has same t.0 ks ≡ true) × Covers same ks ts

abbrev with_key : {K : Type 0} → (K → K → Bool) → K → List K → List K
with_key same k ks = cond (has same k ks) ks (k ∷ ks)

abbrev keys_of : {K : Type 0} → (K → K → Bool) → List (K × ℕ) → List K
keys_of same [] = []
keys_of same (t ∷ ts) = with_key same t.0 (keys_of same ts)

-- the sum over keys of a weight times a number of the key
abbrev over : {K : Type 0} → (K → ℕ) → (K → ℕ) → List K → ℕ
over f s [] = 0
over f s (k ∷ ks) = f k * s k + over f s ks

over-ext : {K : Type 0} (f s r : K → ℕ) → ((k : K) → s k ≡ r k) → (ks : List K) → over f s ks ≡ over f r ks
over-ext f s r h [] = refl
over-ext f s r h (k ∷ ks) = let e : f k * s k ≡ f k * r k = ap (λ (n : ℕ). f k * n) (h k) in omega (arith, e, over-ext f s r h ks)

over-zero : {K : Type 0} (f : K → ℕ) (ks : List K) → over f (λ k. 0) ks ≡ 0
over-zero f [] = refl
over-zero f (k ∷ ks) = omega (arith, over-zero f ks)

over-add : {K : Type 0} (f s r : K → ℕ) (ks : List K) → over f (λ k. s k + r k) ks ≡ over f s ks + over f r ks
over-add f s r [] = refl
over-add f s r (k ∷ ks) = omega (arith, over-add f s r ks)

over-saturated : {K : Type 0} (f s : K → ℕ) (ks : List K) → saturated (over f (λ k. saturated (s k)) ks) ≡ saturated (over f s ks)
over-saturated f s [] = refl
over-saturated f s (k ∷ ks) = let m = saturated_mul_right (f k) (s k) in omega (arith, m, over-saturated f s ks)

absent : {K : Type 0} (same : K → K → Bool) (f : K → ℕ) (x : K) (c : ℕ) (ks : List K) → has same x ks ≡ false → over f (λ k. cond (same x k) c 0) ks ≡ 0
absent same f x c [] h = refl
absent same f x c (k ∷ ks) h =
    elim (same x k) as (λ b. cond b true (has same x ks) ≡ false → f k * cond b c 0 + over f (λ j. cond (same x j) c 0) ks ≡ 0) [
      | true ↦ λ e. cc
      | false ↦ λ e. omega (arith, absent same f x c ks e)
    ] h

present : {K : Type 0} (same : K → K → Bool) → IsExactTest same →
    (f : K → ℕ) (x : K) (c : ℕ) (ks : List K) → Apart same ks → has same x ks ≡ true →
    over f (λ k. cond (same x k) c 0) ks ≡ f x * c
present same o f x c [] a h = cc
present {K} same o f x c (k ∷ ks) a h =
    (elim (same x k) as (λ b. same x k ≡ b → cond b true (has same x ks) ≡ true → f k * cond b c 0 + over f (λ j. cond (same x j) c 0) ks ≡ f x * c) [
      | true ↦ λ e g.
          let q : x ≡ k = o.only x k e in
          let n : has same x ks ≡ false = ap (λ (y : K). has same y ks) q ∙ a.0 in
          let w : f x * c ≡ f k * c = ap (λ (y : K). f y * c) q in
          omega (arith, w, absent same f x c ks n)
      | false ↦ λ e g. omega (arith, present same o f x c ks a.1 g)
    ]) refl h

expand : {K : Type 0} (same : K → K → Bool) → IsExactTest same → (f : K → ℕ) (ks : List K) →
    Apart same ks → (ts : List (K × ℕ)) → Covers same ks ts →
    over f (λ k. sum_at same k ts) ks ≡ sum_with f ts
expand same o f ks a [] c = over-zero f ks
expand same o f ks a (t ∷ ts) c =
    let s = over-add f (λ k. cond (same t.0 k) t.1 0) (λ k. sum_at same k ts) ks in
    let p = present same o f t.0 t.1 ks a c.0 in
    omega (arith, s, p, expand same o f ks a ts c.1)

or_true : (b c : Bool) → c ≡ true → cond b true c ≡ true
or_true true c h = refl
or_true false c h = h

has_with : {K : Type 0} (same : K → K → Bool) (x k : K) (ks : List K) → has same x ks ≡ true → has same x (with_key same k ks) ≡ true
has_with same x k ks h =
    elim (has same k ks) as (λ b. has same x (cond b ks (k ∷ ks)) ≡ true) [ true ↦ h | false ↦ or_true (same x k) (has same x ks) h ]

has_self : {K : Type 0} (same : K → K → Bool) → IsExactTest same → (k : K) (ks : List K) → has same k (with_key same k ks) ≡ true
has_self same o k ks =
    (elim (has same k ks) as (λ b. has same k ks ≡ b → has same k (cond b ks (k ∷ ks)) ≡ true) [
      | true ↦ λ e. e
      | false ↦ λ e. ap (λ (b : Bool). cond b true (has same k ks)) (o.always k)
    ]) refl

covers_with : {K : Type 0} (same : K → K → Bool) (k : K) (ks : List K) (ts : List (K × ℕ)) → Covers same ks ts → Covers same (with_key same k ks) ts
covers_with same k ks [] c = tt
covers_with same k ks (t ∷ ts) c = (has_with same t.0 k ks c.0, covers_with same k ks ts c.1)

covers_keys : {K : Type 0} (same : K → K → Bool) → IsExactTest same → (ts : List (K × ℕ)) → Covers same (keys_of same ts) ts
covers_keys same o [] = tt
covers_keys same o (t ∷ ts) = (has_self same o t.0 (keys_of same ts), covers_with same t.0 (keys_of same ts) ts (covers_keys same o ts))

apart_keys : {K : Type 0} (same : K → K → Bool) (ts : List (K × ℕ)) → Apart same (keys_of same ts)
apart_keys same [] = tt
apart_keys same (t ∷ ts) =
    (elim (has same t.0 (keys_of same ts)) as (λ b. has same t.0 (keys_of same ts) ≡ b → Apart same (cond b (keys_of same ts) (t.0 ∷ keys_of same ts))) [
      | true ↦ λ e. apart_keys same ts
      | false ↦ λ e. (e, apart_keys same ts)
    ]) refl

covers_left : {K : Type 0} (same : K → K → Bool) (ks : List K) (xs ys : List (K × ℕ)) → Covers same ks (xs ++ ys) → Covers same ks xs
covers_left same ks [] ys c = tt
covers_left same ks (x ∷ xs) ys c = (c.0, covers_left same ks xs ys c.1)

covers_right : {K : Type 0} (same : K → K → Bool) (ks : List K) (xs ys : List (K × ℕ)) → Covers same ks (xs ++ ys) → Covers same ks ys
covers_right same ks [] ys c = c
covers_right same ks (x ∷ xs) ys c = covers_right same ks xs ys c.1

-- a sum_with sum depends on the sums by key alone
pub same_sum_with : {K : Type 0} (same : K → K → Bool) → IsExactTest same →
    (f : K → ℕ) (xs ys : List (K × ℕ)) → HaveSameSums same xs ys → sum_with f xs ≡ sum_with f ys
same_sum_with same o f xs ys h =
    let all = xs ++ ys in
    let ks = keys_of same all in
    let a = apart_keys same all in
    let c = covers_keys same o all in
    sym (expand same o f ks a xs (covers_left same ks xs ys c))
    ∙ over-ext f (λ k. sum_at same k xs) (λ k. sum_at same k ys) h ks
    ∙ expand same o f ks a ys (covers_right same ks xs ys c)

pub same_saturated_sum_with : {K : Type 0} (same : K → K → Bool) → IsExactTest same →
    (f : K → ℕ) (xs ys : List (K × ℕ)) → HaveSameSaturatedSums same xs ys →
    saturated (sum_with f xs) ≡ saturated (sum_with f ys)
same_saturated_sum_with same o f xs ys h =
    let all = xs ++ ys in
    let ks = keys_of same all in
    let a = apart_keys same all in
    let c = covers_keys same o all in
    ap saturated (sym (expand same o f ks a xs (covers_left same ks xs ys c)))
    ∙ sym (over-saturated f (λ k. sum_at same k xs) ks)
    ∙ ap saturated (over-ext f (λ k. saturated (sum_at same k xs)) (λ k. saturated (sum_at same k ys)) h ks)
    ∙ over-saturated f (λ k. sum_at same k ys) ks
    ∙ ap saturated (expand same o f ks a ys (covers_right same ks xs ys c))

-- sums by key of the lists that are made from lists with the same sums
expanded_at : {K J : Type 0} (sameJ : J → J → Bool) (step : K → List (J × ℕ)) (j : J) (xs : List (K × ℕ)) →
    sum_at sameJ j (expanded step xs) ≡ sum_with (λ k. sum_at sameJ j (step k)) xs
expanded_at {K} {J} sameJ step j xs =
    sym (sum_with_at sameJ j (expanded step xs))
    ∙ sum_with-expanded (λ x. cond (sameJ x j) 1 0) step xs
    ∙ sum_with_ext (λ k. sum_with (λ x. cond (sameJ x j) 1 0) (step k)) (λ k. sum_at sameJ j (step k)) (λ k. sum_with_at sameJ j (step k)) xs

pub expanded_same : {K J : Type 0} (same : K → K → Bool) → IsExactTest same →
    (sameJ : J → J → Bool) (step : K → List (J × ℕ)) (xs ys : List (K × ℕ)) →
    HaveSameSums same xs ys → HaveSameSums sameJ (expanded step xs) (expanded step ys)
expanded_same same o sameJ step xs ys h = λ j.
    expanded_at sameJ step j xs ∙ same_sum_with same o (λ k. sum_at sameJ j (step k)) xs ys h ∙ sym (expanded_at sameJ step j ys)

pub expanded_same_saturated : {K J : Type 0} (same : K → K → Bool) → IsExactTest same →
    (sameJ : J → J → Bool) (step : K → List (J × ℕ)) (xs ys : List (K × ℕ)) →
    HaveSameSaturatedSums same xs ys →
    HaveSameSaturatedSums sameJ (expanded step xs) (expanded step ys)
expanded_same_saturated same o sameJ step xs ys h = λ j.
    ap saturated (expanded_at sameJ step j xs) ∙ same_saturated_sum_with same o (λ k. sum_at sameJ j (step k)) xs ys h ∙ ap saturated (sym (expanded_at sameJ step j ys))

pub expanded_same_step : {K J : Type 0} (sameJ : J → J → Bool) (step other : K → List (J × ℕ)) →
    ((k : K) → HaveSameSums sameJ (step k) (other k)) → (xs : List (K × ℕ)) →
    HaveSameSums sameJ (expanded step xs) (expanded other xs)
expanded_same_step sameJ step other h xs = λ j.
    expanded_at sameJ step j xs
    ∙ sum_with_ext (λ k. sum_at sameJ j (step k)) (λ k. sum_at sameJ j (other k)) (λ k. h k j) xs
    ∙ sym (expanded_at sameJ other j xs)

rekeyed_at : {K J : Type 0} (sameJ : J → J → Bool) (h : K → J) (j : J) (xs : List (K × ℕ)) →
    sum_at sameJ j (rekeyed h xs) ≡ sum_with (λ k. cond (sameJ (h k) j) 1 0) xs
rekeyed_at sameJ h j xs = sym (sum_with_at sameJ j (rekeyed h xs)) ∙ sum_with-rekeyed (λ x. cond (sameJ x j) 1 0) h xs

pub rekeyed_same : {K J : Type 0} (same : K → K → Bool) → IsExactTest same →
    (sameJ : J → J → Bool) (h : K → J) (xs ys : List (K × ℕ)) → HaveSameSums same xs ys →
    HaveSameSums sameJ (rekeyed h xs) (rekeyed h ys)
rekeyed_same same o sameJ h xs ys e = λ j.
    rekeyed_at sameJ h j xs ∙ same_sum_with same o (λ k. cond (sameJ (h k) j) 1 0) xs ys e ∙ sym (rekeyed_at sameJ h j ys)

pub sum_with-products_with : {K J L : Type 0} (f : L → ℕ) (factor : K → J → ℕ) (op : K → J → L) (k : K) (ys : List (J × ℕ)) →
    sum_with f (products_with factor op k ys) ≡ sum_with (λ j. factor k j * f (op k j)) ys
sum_with-products_with f factor op k [] = refl
sum_with-products_with f factor op k (y ∷ ys) = omega (arith, sum_with-products_with f factor op k ys)

pub sum_with-products : {K J L : Type 0} (f : L → ℕ) (factor : K → J → ℕ) (op : K → J → L) (xs : List (K × ℕ)) (ys : List (J × ℕ)) →
    sum_with f (products factor op xs ys) ≡ sum_with (λ k. sum_with (λ j. factor k j * f (op k j)) ys) xs
sum_with-products f factor op xs ys =
    sum_with-expanded f (λ k. products_with factor op k ys) xs
    ∙ sum_with_ext (λ k. sum_with f (products_with factor op k ys)) (λ k. sum_with (λ j. factor k j * f (op k j)) ys) (λ k. sum_with-products_with f factor op k ys) xs

products_with_at : {K J L : Type 0} (sameL : L → L → Bool) (factor : K → J → ℕ) (op : K → J → L) (k : K) (l : L) (ys : List (J × ℕ)) →
    sum_at sameL l (products_with factor op k ys) ≡ sum_with (λ j. factor k j * cond (sameL (op k j) l) 1 0) ys
products_with_at sameL factor op k l ys =
    sym (sum_with_at sameL l (products_with factor op k ys)) ∙ sum_with-products_with (λ x. cond (sameL x l) 1 0) factor op k ys

products_with_same : {K J L : Type 0} (sameJ : J → J → Bool) → IsExactTest sameJ →
    (sameL : L → L → Bool) (factor : K → J → ℕ) (op : K → J → L) (k : K) (ys vs : List (J × ℕ)) →
    HaveSameSums sameJ ys vs → HaveSameSums sameL (products_with factor op k ys) (products_with factor op k vs)
products_with_same sameJ o sameL factor op k ys vs e = λ l.
    products_with_at sameL factor op k l ys
    ∙ same_sum_with sameJ o (λ j. factor k j * cond (sameL (op k j) l) 1 0) ys vs e
    ∙ sym (products_with_at sameL factor op k l vs)

pub products_same : {K J L : Type 0} (same : K → K → Bool) → IsExactTest same →
    (sameJ : J → J → Bool) → IsExactTest sameJ →
    (sameL : L → L → Bool) (factor : K → J → ℕ) (op : K → J → L)
    (xs us : List (K × ℕ)) (ys vs : List (J × ℕ)) → HaveSameSums same xs us → HaveSameSums sameJ ys vs → HaveSameSums sameL (products factor op xs ys) (products factor op us vs)
products_same same o sameJ oJ sameL factor op xs us ys vs h g = λ l.
    expanded_same same o sameL (λ k. products_with factor op k ys) xs us h l
    ∙ expanded_same_step sameL (λ k. products_with factor op k ys) (λ k. products_with factor op k vs) (λ k. products_with_same sameJ oJ sameL factor op k ys vs g) us l

-- the same where sums may be out of range
saturated_sum_with_ext : {K : Type 0} (f g : K → ℕ) →
    ((k : K) → saturated (f k) ≡ saturated (g k)) → (xs : List (K × ℕ)) →
    saturated (sum_with f xs) ≡ saturated (sum_with g xs)
saturated_sum_with_ext f g h [] = refl
saturated_sum_with_ext f g h (x ∷ xs) =
    let e : saturated (f x.0 * x.1) ≡ saturated (g x.0 * x.1) = sym (saturated_mul_left (f x.0) x.1) ∙ ap (λ (n : ℕ). saturated (n * x.1)) (h x.0) ∙ saturated_mul_left (g x.0) x.1 in
    omega (arith, e, saturated_sum_with_ext f g h xs)

pub expanded_same_saturated_step : {K J : Type 0} (sameJ : J → J → Bool) (step other : K → List (J × ℕ)) →
    ((k : K) → HaveSameSaturatedSums sameJ (step k) (other k)) →
    (xs : List (K × ℕ)) → HaveSameSaturatedSums sameJ (expanded step xs) (expanded other xs)
expanded_same_saturated_step sameJ step other h xs = λ j.
    ap saturated (expanded_at sameJ step j xs)
    ∙ saturated_sum_with_ext (λ k. sum_at sameJ j (step k)) (λ k. sum_at sameJ j (other k)) (λ k. h k j) xs
    ∙ ap saturated (sym (expanded_at sameJ other j xs))

pub products_same_saturated : {K J L : Type 0} (same : K → K → Bool) → IsExactTest same →
    (sameJ : J → J → Bool) → IsExactTest sameJ →
    (sameL : L → L → Bool) (factor : K → J → ℕ) (op : K → J → L)
    (xs us : List (K × ℕ)) (ys vs : List (J × ℕ)) → HaveSameSaturatedSums same xs us → HaveSameSaturatedSums sameJ ys vs → HaveSameSaturatedSums sameL (products factor op xs ys) (products factor op us vs)
products_same_saturated same o sameJ oJ sameL factor op xs us ys vs h g = λ l.
    expanded_same_saturated same o sameL (λ k. products_with factor op k ys) xs us h l
    ∙ expanded_same_saturated_step sameL (λ k. products_with factor op k ys) (λ k. products_with factor op k vs)
    (λ k i. ap saturated (products_with_at sameL factor op k i ys)
    ∙ same_saturated_sum_with sameJ oJ (λ j. factor k j * cond (sameL (op k j) i) 1 0) ys vs g
    ∙ ap saturated (sym (products_with_at sameL factor op k i vs)))
    us l

-- coefficients kept as values have the sums of the exact ones
saturated_term : (b : Bool) (c s r : ℕ) → saturated s ≡ saturated r → saturated (cond b (saturated c) 0 + s) ≡ saturated (cond b c 0 + r)
saturated_term true c s r h = omega (arith, h)
saturated_term false c s r h = omega (arith, h)

pub saturated_sums : {K : Type 0} (same : K → K → Bool) (ts : List (K × ℕ)) → HaveSameSaturatedSums same (saturated_terms ts) ts
saturated_sums same [] = λ k. refl
saturated_sums same (t ∷ ts) = λ k. saturated_term (same t.0 k) t.1 (sum_at same k (saturated_terms ts)) (sum_at same k ts) (saturated_sums same ts k)

-- terms made one
merged : (b : Bool) (c d s : ℕ) → saturated (cond b (saturating_plus c d) 0 + s) ≡ saturated (cond b c 0 + (cond b d 0 + s))
merged true c d s = omega arith
merged false c d s = omega arith

join_sums : {K : Type 0} (same : K → K → Bool) → IsExactTest same →
    (k : K) (t : K × ℕ) (us : List (K × ℕ)) →
    saturated (sum_at same k (join_onto same t us)) ≡ saturated (cond (same t.0 k) t.1 0 + sum_at same k us)
join_sums same o k t [] = refl
join_sums {K} same o k t (u ∷ us) =
    (elim (same u.0 t.0) as (λ b. same u.0 t.0 ≡ b → saturated (sum_at same k (cond b (join_onto same (t.0, saturating_plus t.1 u.1) us) (t ∷ join_onto same u us))) ≡ saturated (cond (same t.0 k) t.1 0 + (cond (same u.0 k) u.1 0 + sum_at same k us))) [
      | true ↦ λ e.
          let q : same t.0 k ≡ same u.0 k = sym (ap (λ (y : K). same y k) (o.only u.0 t.0 e)) in
          join_sums same o k (t.0, saturating_plus t.1 u.1) us
          ∙ merged (same t.0 k) t.1 u.1 (sum_at same k us)
          ∙ ap (λ (b : Bool). saturated (cond (same t.0 k) t.1 0 + (cond b u.1 0 + sum_at same k us))) q
      | false ↦ λ e. omega (arith, join_sums same o k u us)
    ]) refl

pub joined_neighbours_sums : {K : Type 0} (same : K → K → Bool) → IsExactTest same →
    (ts : List (K × ℕ)) → HaveSameSaturatedSums same (joined_neighbours same ts) ts
joined_neighbours_sums same o [] = λ k. refl
joined_neighbours_sums same o (t ∷ ts) = λ k. join_sums same o k t ts

-- the end of a loop that joins in place: terms 0 to l are done
take_next : {X : Type 0} (l : ℕ) (xs : List X) → take (l + 1) xs ≡ take l xs ++ take 1 (drop l xs)
take_next zero xs = refl
take_next (suc l) [] = let e : suc l + 1 ≡ suc (l + 1) = omega arith in rw e refl
take_next (suc l) (x ∷ xs) = let e : suc l + 1 ≡ suc (l + 1) = omega arith in rw e (ap (λ ys. x ∷ ys) (take_next l xs))

one_joined : {K : Type 0} (same : K → K → Bool) (zs : List (K × ℕ)) → joined_neighbours same (take 1 zs ++ []) ≡ take 1 zs
one_joined same [] = refl
one_joined same (z ∷ zs) = refl

pub joined_neighbours_end : {K : Type 0} (same : K → K → Bool) (xs ys : List (K × ℕ)) (l i : ℕ) →
    length xs ≤ i → take l xs ++ joined_neighbours same (take 1 (drop l xs) ++ drop i xs) ≡ ys →
    take (l + 1) xs ≡ ys
joined_neighbours_end {K} same xs ys l i h e =
    take_next l xs
    ∙ ap (λ (zs : List (K × ℕ)). take l xs ++ zs) (sym (one_joined same (drop l xs)))
    ∙ ap (λ (zs : List (K × ℕ)). take l xs ++ joined_neighbours same (take 1 (drop l xs) ++ zs)) (sym (drop_all i xs h))
    ∙ e

-- the keys that are left, and the coefficients
join_keys : {K : Type 0} (same : K → K → Bool) (t : K × ℕ) (us : List (K × ℕ)) → keys (join_onto same t us) ≡ dedup_from same t.0 (keys us)
join_keys same t [] = refl
join_keys {K} same t (u ∷ us) =
    elim (same u.0 t.0) as (λ b. keys (cond b (join_onto same (t.0, saturating_plus t.1 u.1) us) (t ∷ join_onto same u us)) ≡ cond b (dedup_from same t.0 (keys us)) (t.0 ∷ dedup_from same u.0 (keys us))) [
      | true ↦ join_keys same (t.0, saturating_plus t.1 u.1) us
      | false ↦ ap (λ (ks : List K). t.0 ∷ ks) (join_keys same u us)
    ]

pub joined_neighbours_keys : {K : Type 0} (same : K → K → Bool) (ts : List (K × ℕ)) → keys (joined_neighbours same ts) ≡ dedup same (keys ts)
joined_neighbours_keys same [] = refl
joined_neighbours_keys same (t ∷ ts) = join_keys same t ts

abbrev IsCounted : {K : Type 0} → K × ℕ → Type 0
IsCounted t = (0 < t.1) × (t.1 ≤ overflow)

join_above : {K : Type 0} (same : K → K → Bool) (t : K × ℕ) (us : List (K × ℕ)) → IsCounted t →
    AllByRecursion IsCounted us → AllByRecursion IsCounted (join_onto same t us)
join_above same t [] h a = (h, tt)
join_above same t (u ∷ us) h a =
    elim (same u.0 t.0) as (λ b. AllByRecursion IsCounted (cond b (join_onto same (t.0, saturating_plus t.1 u.1) us) (t ∷ join_onto same u us))) [
      | true ↦ let p : 0 < t.1 = h.0 in join_above same (t.0, saturating_plus t.1 u.1) us (omega arith, omega arith) a.1
      | false ↦ (h, join_above same u us a.0 a.1)
    ]

pub joined_neighbours_above : {K : Type 0} (same : K → K → Bool) (ts : List (K × ℕ)) →
    AllByRecursion (λ t. (0 < t.1) × (t.1 ≤ overflow)) ts →
    AllByRecursion (λ t. (0 < t.1) × (t.1 ≤ overflow)) (joined_neighbours same ts)
joined_neighbours_above same [] a = tt
joined_neighbours_above same (t ∷ ts) a = join_above same t ts a.0 a.1

abbrev pub pair_of : {K : Type 0} → K → ℕ → K × ℕ
pair_of k n = (k, n)

pub pair_same : {K : Type 0} (x y : K × ℕ) → x.0 ≡ y.0 → x.1 ≡ y.1 → x ≡ y
pair_same {K} x y a b = ap (λ (j : K). pair_of j x.1) a ∙ ap (λ (n : ℕ). pair_of y.0 n) b

-- a collected list is settled by its sums
module _ {K : Type 0} (c : K → K → Ordering) (total : IsTotalOrder c) (same : K → K → Bool) (o : IsExactTest same) (ties : (x y : K) → same x y ≡ is_eq (c x y)) where
  pub other_key : (x y : K) → c x y ≡ Less → same y x ≡ false
  other_key x y e = ties y x ∙ ap is_eq (total.antisymm y x ∙ ap ordering_reverse e)

  pub no_sum : (j : K) (ts : List (K × ℕ)) → AllByRecursion (λ y. c j y ≡ Less) (keys ts) → sum_at same j ts ≡ 0
  no_sum j [] a = refl
  no_sum j (t ∷ ts) a =
      let e : cond (same t.0 j) t.1 0 ≡ 0 = ap (λ (b : Bool). cond b t.1 0) (other_key j t.0 a.0) in
      omega (arith, e, no_sum j ts a.1)

  pub own_sum : (t : K × ℕ) (ts : List (K × ℕ)) → AllByRecursion (λ y. c t.0 y ≡ Less) (keys ts) → sum_at same t.0 (t ∷ ts) ≡ t.1
  own_sum t ts a =
      let e : cond (same t.0 t.0) t.1 0 ≡ t.1 = ap (λ (b : Bool). cond b t.1 0) (o.always t.0) in
      omega (arith, e, no_sum t.0 ts a)

  pub below_keys : (k x : K) (xs : List K) → c k x ≡ Less → AllByRecursion (λ y. c x y ≡ Less) xs → AllByRecursion (λ y. c k y ≡ Less) xs
  below_keys k x [] e h = tt
  below_keys k x (y ∷ ys) e h = (total.trans k x y e h.0, below_keys k x ys e h.1)

  -- the first key of one list does not stand in the other
  first_missing : (x : K × ℕ) (xs : List (K × ℕ)) (ys : List (K × ℕ)) →
      AllByRecursion (λ y. c x.0 y ≡ Less) (keys xs) →
      AllByRecursion (λ y. c x.0 y ≡ Less) (keys ys) → 0 < x.1
      → saturated (sum_at same x.0 (x ∷ xs)) ≡ saturated (sum_at same x.0 ys) → ⊥
  first_missing x xs ys a b p e = let s = own_sum x xs a in let n = no_sum x.0 ys b in omega (arith, s, n, e)

  rest_same : (x y : K × ℕ) (xs ys : List (K × ℕ)) → x.0 ≡ y.0 → x.1 ≡ y.1 →
      AllByRecursion (λ z. c x.0 z ≡ Less) (keys xs) →
      AllByRecursion (λ z. c x.0 z ≡ Less) (keys ys)
      → HaveSameSaturatedSums same (x ∷ xs) (y ∷ ys) → HaveSameSaturatedSums same xs ys
  rest_same x y xs ys q r a b h = λ k.
      (elim (same x.0 k) as (λ d. same x.0 k ≡ d → saturated (sum_at same k xs) ≡ saturated (sum_at same k ys)) [
        | true ↦ λ e.
            let w : x.0 ≡ k = o.only x.0 k e in
            let m : sum_at same k xs ≡ 0 = subst (λ (j : K). sum_at same j xs ≡ 0) w (no_sum x.0 xs a) in
            let n : sum_at same k ys ≡ 0 = subst (λ (j : K). sum_at same j ys ≡ 0) w (no_sum x.0 ys b) in
            omega (arith, m, n)
        | false ↦ λ e.
            let m : cond (same x.0 k) x.1 0 ≡ 0 = ap (λ (d : Bool). cond d x.1 0) e in
            let n : cond (same y.0 k) y.1 0 ≡ 0 = ap (λ (d : Bool). cond d y.1 0) (ap (λ (j : K). same j k) (sym q) ∙ e) in
            omega (arith, m, n, h k)
      ]) refl

  pub collected_unique : (xs ys : List (K × ℕ)) → IsStrictlySortedBy c (keys xs) →
      IsStrictlySortedBy c (keys ys) → AllByRecursion IsCounted xs → AllByRecursion IsCounted ys →
      HaveSameSaturatedSums same xs ys → xs ≡ ys
  unfolding IsStrictlySortedBy
  collected_unique [] [] s r p q h = refl
  collected_unique [] (y ∷ ys) s r p q h = let n = own_sum y ys r.0 in let e = h y.0 in let z : 0 < y.1 = q.0.0 in absurd (omega (arith, n, e))
  collected_unique (x ∷ xs) [] s r p q h = let n = own_sum x xs s.0 in let e = h x.0 in let z : 0 < x.1 = p.0.0 in absurd (omega (arith, n, e))
  collected_unique (x ∷ xs) (y ∷ ys) s r p q h =
      (elim (c x.0 y.0) as (λ d. c x.0 y.0 ≡ d → x ∷ xs ≡ y ∷ ys) [
        | Less ↦ λ e. absurd (first_missing x xs (y ∷ ys) s.0 (e, below_keys x.0 y.0 (keys ys) e r.0) p.0.0 (h x.0))
        | Equal ↦ λ e.
            let k : x.0 ≡ y.0 = o.only x.0 y.0 (ties x.0 y.0 ∙ ap is_eq e) in
            let b : AllByRecursion (λ z. c x.0 z ≡ Less) (keys ys) = subst (λ (j : K). AllByRecursion (λ z. c j z ≡ Less) (keys ys)) (sym k) r.0 in
            let u = own_sum x xs s.0 in
            let v : sum_at same x.0 (y ∷ ys) ≡ y.1 = subst (λ (j : K). sum_at same j (y ∷ ys) ≡ y.1) (sym k) (own_sum y ys r.0) in
            let g = h x.0 in
            let l : x.1 ≤ overflow = p.0.1 in
            let m : y.1 ≤ overflow = q.0.1 in
            let n : x.1 ≡ y.1 = omega (arith, u, v, g) in
            let rest = collected_unique xs ys s.1 r.1 p.1 q.1 (rest_same x y xs ys k n s.0 b h) in
            ap (λ (t : K × ℕ). t ∷ xs) (pair_same x y k n) ∙ ap (λ (ts : List (K × ℕ)). y ∷ ts) rest
        | Greater ↦ λ e.
            let f : c y.0 x.0 ≡ Less = total.antisymm y.0 x.0 ∙ ap ordering_reverse e in
            absurd (first_missing y ys (x ∷ xs) r.0 (f, below_keys y.0 x.0 (keys xs) f s.0) q.0.0 (sym (h y.0)))
      ]) refl

-- from a sort by key
pub keys_sorted : {K : Type 0} (c : K → K → Ordering) (ts : List (K × ℕ)) → IsSortedByKey (λ (t : K × ℕ). t.0) c ts → IsSorted c (keys ts)
keys_sorted {K} c ts h = λ k d low high.
    let n = length-map ts (λ (t : K × ℕ). t.0) in
    let p : k + 1 < length ts = omega (arith, n) in
    let q : k < length ts = omega (arith, n) in
    rw (get_or-map (λ (t : K × ℕ). t.0) ts (k + 1) (pair_of d 0) d p, get_or-map (λ (t : K × ℕ). t.0) ts k (pair_of d 0) d q) (h k (pair_of d 0) low p)

abbrev IsAbove : {K : Type 0} → K × ℕ → Type 0
IsAbove t = 0 < t.1

abbrev IsWithin : {K : Type 0} → K × ℕ → Type 0
IsWithin t = t.1 ≤ overflow

pub above-permutation : {K : Type 0} (xs ys : List (K × ℕ)) → IsPermutation xs ys → AllByRecursion (λ t. 0 < t.1) xs → AllByRecursion (λ t. 0 < t.1) ys
above-permutation {K} xs ys h a = recursion_from_All IsAbove ys (All-permutation IsAbove xs ys h (All-from_recursion IsAbove xs a))

both : {K : Type 0} (xs : List (K × ℕ)) → AllByRecursion IsAbove xs → AllByRecursion IsWithin xs → AllByRecursion IsCounted xs
both [] a b = tt
both (x ∷ xs) a b = ((a.0, b.0), both xs a.1 b.1)

pub counted : {K : Type 0} (xs : List (K × ℕ)) → AllByRecursion (λ t. 0 < t.1) xs →
    All (λ t. t.1 ≤ overflow) xs → AllByRecursion (λ t. (0 < t.1) × (t.1 ≤ overflow)) xs
counted xs a b = both xs a (recursion_from_All IsWithin xs b)
