-- Sums, binomials and multinomials of multiindices.
use Rattle.std.proofs.Common.{◌≡◌, ℕ, zero, suc, ◌+◌, ◌*◌, List, [], ◌∷◌, ◌++◌, length, map, drop, sum, refl, sym, ap, subst, ◌∙◌, arith}
use Rattle.std.proofs.lemmas.List.{drop_more, drop_all, map-id}
use Rattle.std.proofs.lemmas.List.Sums.{sum_by-cons}
use Rattle.std.specs.Prelude.{slice_index}
use Rattle.std.specs.List.{AllByRecursion, range_with_len}
use Rattle.degree_numbers.specs.Multi.{plus_of}
use Rattle.plain_trees.specs.Multinomials.{plus_all, choose, multinomial_of}
use Rattle.exact_sums.specs.Binomials.{binomial, multinomial}
use Rattle.exact_sums.specs.Saturating.{product}
use Rattle.exact_sums.proofs.SaturatingLaws.{product_cons}
use Rattle.exact_sums.proofs.MultinomialLaws.{binomial-self, binomial_either, trinomial}

pub plus_nil : (xs : List ℕ) → plus_of xs [] ≡ xs
plus_nil [] = refl
plus_nil (x ∷ xs) = refl

pub plus_assoc : (xs ys zs : List ℕ) → plus_of (plus_of xs ys) zs ≡ plus_of xs (plus_of ys zs)
plus_assoc [] ys zs = refl
plus_assoc (x ∷ xs) [] zs = refl
plus_assoc (x ∷ xs) (y ∷ ys) [] = refl
plus_assoc (x ∷ xs) (y ∷ ys) (z ∷ zs) = let e : x + y + z ≡ x + (y + z) = omega arith in rw (e, plus_assoc xs ys zs) refl

pub plus_comm : (xs ys : List ℕ) → plus_of xs ys ≡ plus_of ys xs
plus_comm [] ys = sym (plus_nil ys)
plus_comm (x ∷ xs) [] = refl
plus_comm (x ∷ xs) (y ∷ ys) = let e : x + y ≡ y + x = omega arith in rw (e, plus_comm xs ys) refl

pub plus_all-append : (xs ys : List (List ℕ)) → plus_all (xs ++ ys) ≡ plus_of (plus_all xs) (plus_all ys)
plus_all-append [] ys = refl
plus_all-append (x ∷ xs) ys = rw (plus_all-append xs ys) (sym (plus_assoc x (plus_all xs) (plus_all ys)))

pub choose-self : (m : List ℕ) → choose m m ≡ 1
choose-self [] = refl
choose-self (x ∷ m) = rw (binomial-self x, choose-self m) refl

pub choose_three : (m x y : List ℕ) →
    choose (plus_of m (plus_of x y)) m * choose (plus_of x y) x ≡ choose (plus_of m x) m * choose (plus_of (plus_of m x) y) (plus_of m x)
choose_three [] x y = refl
choose_three (a ∷ m) [] y = rw (choose-self m, binomial-self a) (omega arith)
choose_three (a ∷ m) (b ∷ x) [] = rw (choose-self x, choose-self (plus_of m x), binomial-self b, binomial-self (a + b)) (omega arith)
choose_three (a ∷ m) (b ∷ x) (c ∷ y) =
    let here = trinomial a b c in
    let there = choose_three m x y in
    omega (
      arith,
      ap (λ n. n * (choose (plus_of m (plus_of x y)) m * choose (plus_of x y) x)) here,
      ap (λ n. binomial (a + b) a * binomial (a + b + c) (a + b) * n) there,
    )

-- the multinomial_of of two lists of parts
pub multinomial_of-append : (xs ys : List (List ℕ)) →
    multinomial_of (xs ++ ys) ≡ multinomial_of xs * multinomial_of ys * choose (plus_of (plus_all xs) (plus_all ys)) (plus_all xs)
multinomial_of-append [] ys = omega arith
multinomial_of-append (m ∷ xs) ys =
    let x = plus_all xs in
    let y = plus_all ys in
    let split = ap (λ n. multinomial_of xs * multinomial_of ys * n) (choose_three m x y) in
    let rest = ap (λ n. choose (plus_of m (plus_of x y)) m * n) (multinomial_of-append xs ys) in
    rw (plus_all-append xs ys) (omega (arith, split, rest))

choose_symmetric : (m x : List ℕ) → choose (plus_of m x) m ≡ choose (plus_of x m) x
choose_symmetric [] x = rw (plus_nil x) (sym (choose-self x))
choose_symmetric (a ∷ m) [] = choose-self (a ∷ m)
choose_symmetric (a ∷ m) (b ∷ x) = let e : b + a ≡ a + b = omega arith in rw (e, binomial_either a b, choose_symmetric m x) refl

plus_move : (m x y : List ℕ) → plus_of m (plus_of x y) ≡ plus_of x (plus_of m y)
plus_move m x y = sym (plus_assoc m x y) ∙ ap (λ n. plus_of n y) (plus_comm m x) ∙ plus_assoc x m y

pub plus_all-move : (m : List ℕ) (xs ys : List (List ℕ)) → plus_all (m ∷ (xs ++ ys)) ≡ plus_of (plus_all xs) (plus_all (m ∷ ys))
plus_all-move m xs ys = ap (plus_of m) (plus_all-append xs ys) ∙ plus_move m (plus_all xs) (plus_all ys)

-- the multinomial_of of two lists, where the first part of the second stands in front
pub multinomial_of-move : (m : List ℕ) (xs ys : List (List ℕ)) →
    multinomial_of (m ∷ (xs ++ ys)) ≡ multinomial_of xs * multinomial_of (m ∷ ys) * choose (plus_of (plus_all xs) (plus_all (m ∷ ys))) (plus_all xs)
multinomial_of-move m xs ys =
    let x = plus_all xs in
    let y = plus_all ys in
    let one : choose (plus_of m (plus_of x y)) m * choose (plus_of x y) x ≡ choose (plus_of m x) m * choose (plus_of (plus_of m x) y) (plus_of m x) = choose_three m x y in
    let two : choose (plus_of x (plus_of m y)) x * choose (plus_of m y) m ≡ choose (plus_of m x) m * choose (plus_of (plus_of m x) y) (plus_of m x) =
    choose_three x m y ∙ ap (λ n. n * choose (plus_of (plus_of x m) y) (plus_of x m)) (sym (choose_symmetric m x)) ∙ ap (λ n. choose (plus_of m x) m * choose (plus_of n y) n) (plus_comm x m) in
    let three = ap (λ n. multinomial_of xs * multinomial_of ys * n) (one ∙ sym two) in
    let four = ap (λ n. choose (plus_of m (plus_of x y)) m * n) (multinomial_of-append xs ys) in
    rw (plus_all-append xs ys) (omega (arith, three, four))

-- the multinomial of multiindices, entry by entry
module _ {X : Type 0} (first : X → ℕ) (rest : X → List ℕ) where
  plus_all-front : (x : X) (xs : List X) → plus_all (map (λ y. first y ∷ rest y) (x ∷ xs)) ≡ sum (map first (x ∷ xs)) ∷ plus_all (map rest (x ∷ xs))
  plus_all-front x [] = let e : first x ≡ sum (first x ∷ []) = omega (arith, sum_by-cons (λ (n : ℕ). n) (first x) []) in rw (← e, plus_nil (rest x)) refl
  plus_all-front x (y ∷ ys) =
      let e : first x + sum (map first (y ∷ ys)) ≡ sum (map first (x ∷ y ∷ ys)) = sym (sum_by-cons (λ (n : ℕ). n) (first x) (map first (y ∷ ys))) in
      rw (plus_all-front y ys, ← e) refl

  multinomial_of-front : (xs : List X) → multinomial_of (map (λ y. first y ∷ rest y) xs) ≡ multinomial (map first xs) * multinomial_of (map rest xs)
  unfolding multinomial
  multinomial_of-front [] = refl
  multinomial_of-front (x ∷ xs) =
      let here : choose (plus_all (map (λ y. first y ∷ rest y) (x ∷ xs))) (first x ∷ rest x) ≡ binomial (sum (map first (x ∷ xs))) (first x) * choose (plus_all (map rest (x ∷ xs))) (rest x) =
      ap (λ (n : List ℕ). choose n (first x ∷ rest x)) (plus_all-front x xs) in
      let both = ap (λ (n : ℕ). n * multinomial_of (map (λ y. first y ∷ rest y) xs)) here in
      let there = ap (λ (n : ℕ). binomial (sum (map first (x ∷ xs))) (first x) * choose (plus_all (map rest (x ∷ xs))) (rest x) * n) (multinomial_of-front xs) in
      omega (arith, both, there)

front_split : (k n : ℕ) (ms : List (List ℕ)) → AllByRecursion (λ m. length m ≡ k + suc n) ms → map (drop k) ms ≡ map (λ m. slice_index m k ∷ drop (suc k) m) ms
front_split k n [] h = refl
front_split k n (m ∷ ms) h =
    let e : k + 1 ≡ suc k = omega arith in
    let here : drop k m ≡ slice_index m k ∷ drop (suc k) m = drop_more m k 0 (omega (arith, h.0)) ∙ ap (λ (i : ℕ). slice_index m k ∷ drop i m) e in
    rw (here, front_split k n ms h.1) refl

choose-nil : (m : List ℕ) → choose m [] ≡ 1
choose-nil [] = refl
choose-nil (x ∷ m) = refl

multinomial_of-empty : (k : ℕ) (ms : List (List ℕ)) → AllByRecursion (λ m. length m ≡ k + 0) ms → multinomial_of (map (drop k) ms) ≡ 1
multinomial_of-empty k [] h = refl
multinomial_of-empty k (m ∷ ms) h = rw (drop_all k m (omega (arith, h.0)), choose-nil (plus_all (map (drop k) (m ∷ ms))), multinomial_of-empty k ms h.1) refl

multinomial_of-from : (k n : ℕ) (ms : List (List ℕ)) → AllByRecursion (λ m. length m ≡ k + n) ms →
    multinomial_of (map (drop k) ms) ≡ product (map (λ i. multinomial (map (λ m. slice_index m i) ms)) (range_with_len k n))
multinomial_of-from k zero ms h = multinomial_of-empty k ms h
multinomial_of-from k (suc n) ms h =
    let e : k + 1 ≡ suc k = omega arith in
    let f = λ (i : ℕ). multinomial (map (λ (m : List ℕ). slice_index m i) ms) in
    let d : k + suc n ≡ suc k + n = omega arith in
    let one = ap multinomial_of (front_split k n ms h) ∙ multinomial_of-front (λ (m : List ℕ). slice_index m k) (drop (suc k)) ms in
    let two = ap (λ (i : ℕ). f k * i) (multinomial_of-from (suc k) n ms (subst (λ (l : ℕ). AllByRecursion (λ m. length m ≡ l) ms) d h)) in
    let three = ap (λ (i : ℕ). f k * product (map f (range_with_len i n))) (sym e) in
    one ∙ two ∙ three ∙ sym (product_cons (f k) (map f (range_with_len (k + 1) n)))

pub multinomial_of-entries : (n : ℕ) (ms : List (List ℕ)) → AllByRecursion (λ m. length m ≡ n) ms →
    multinomial_of ms ≡ product (map (λ i. multinomial (map (λ m. slice_index m i) ms)) (range_with_len 0 n))
multinomial_of-entries n ms h =
    let e : n ≡ 0 + n = omega arith in
    ap multinomial_of (sym (map-id ms)) ∙ multinomial_of-from 0 n ms (subst (λ (l : ℕ). AllByRecursion (λ m. length m ≡ l) ms) e h)
