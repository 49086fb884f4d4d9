-- Laws of saturated numbers.
use Rattle.std.proofs.Common.{◌≡◌, ℕ, zero, suc, ◌+◌, ◌*◌, ◌<◌, ◌≤◌, List, [], ◌∷◌, map, sum, refl, sym, ap, ◌∙◌, inl, inr, arith}
use Rattle.std.specs.Prelude.{min, fold}
use Rattle.std.proofs.Math.Nat.{mul_comm, mul_assoc}
use Rattle.std.proofs.lemmas.Nat.{mul-le}
use Rattle.std.proofs.lemmas.Bool.{cases_lt}
use Rattle.std.proofs.lemmas.List.Sums.{sum_by_from}
use Rattle.std.proofs.lemmas.List.Sorted.{sum_by-IsPermutation}
use Rattle.std.specs.List.Sorted.{IsPermutation}
use Rattle.exact_sums.specs.Saturating.{overflow, saturated, saturating_plus, saturating_times, product, saturating_sum, saturating_product}

pub saturated_saturated : (n : ℕ) → saturated (saturated n) ≡ saturated n
saturated_saturated n = omega arith

pub saturated_in_range : (n : ℕ) → n < overflow → saturated n ≡ n
saturated_in_range n h = omega arith

-- sums
pub saturated_add_left : (a b : ℕ) → saturated (saturated a + b) ≡ saturated (a + b)
saturated_add_left a b = omega arith

pub saturated_add_right : (a b : ℕ) → saturated (a + saturated b) ≡ saturated (a + b)
saturated_add_right a b = omega arith

pub saturating_plus_saturated : (a b : ℕ) → saturating_plus (saturated a) (saturated b) ≡ saturated (a + b)
saturating_plus_saturated a b = omega arith

-- products
large_times : (a b t : ℕ) → t ≤ a → t ≤ a * suc b
large_times a b t h =
    let one : 1 ≤ suc b = omega arith in
    let m : t * 1 ≤ a * suc b = mul-le t 1 a (suc b) h one in omega arith

-- a factor that is overflow makes the product overflow, unless the other is 0
capped_times : (t a b : ℕ) → min (min a t * b) t ≡ min (a * b) t
capped_times t a zero = omega arith
capped_times t a (suc b) = elim (cases_lt a t) [
  | inl below ↦ let e : min a t ≡ a = omega arith in rw e refl
  | inr above ↦ let e : min a t ≡ t = omega arith in
      let same : t ≤ t = omega arith in
      let l = large_times a b t above in
      let m = large_times t b t same in
      rw e (omega (arith, l, m))
]

pub saturated_mul_left : (a b : ℕ) → saturated (saturated a * b) ≡ saturated (a * b)
saturated_mul_left a b = capped_times overflow a b

pub saturated_mul_right : (a b : ℕ) → saturated (a * saturated b) ≡ saturated (a * b)
saturated_mul_right a b = ap saturated (mul_comm a (saturated b)) ∙ saturated_mul_left b a ∙ ap saturated (mul_comm b a)

pub saturating_times_saturated : (a b : ℕ) → saturating_times (saturated a) (saturated b) ≡ saturated (a * b)
saturating_times_saturated a b = saturated_mul_left a (saturated b) ∙ saturated_mul_right a b

-- the laws of a semiring, for all values
pub saturating_plus_comm : (a b : ℕ) → saturating_plus a b ≡ saturating_plus b a
saturating_plus_comm a b = omega arith

pub saturating_plus_assoc : (a b c : ℕ) → saturating_plus (saturating_plus a b) c ≡ saturating_plus a (saturating_plus b c)
saturating_plus_assoc a b c = omega arith

pub saturating_times_comm : (a b : ℕ) → saturating_times a b ≡ saturating_times b a
saturating_times_comm a b = ap saturated (mul_comm a b)

pub saturating_times_assoc : (a b c : ℕ) → saturating_times (saturating_times a b) c ≡ saturating_times a (saturating_times b c)
saturating_times_assoc a b c = saturated_mul_left (a * b) c ∙ ap saturated (mul_assoc a b c) ∙ sym (saturated_mul_right a (b * c))

pub saturating_times_plus : (a b c : ℕ) → saturating_times a (saturating_plus b c) ≡ saturating_plus (saturating_times a b) (saturating_times a c)
saturating_times_plus a b c =
    let e : a * (b + c) ≡ a * b + a * c = omega arith in
    saturated_mul_right a (b + c) ∙ ap saturated e ∙ sym (saturating_plus_saturated (a * b) (a * c))

-- lists
pub fold_saturating_plus : (a : ℕ) (xs : List ℕ) → fold saturating_plus (saturated a) (map saturated xs) ≡ saturated (a + sum xs)
fold_saturating_plus a [] = let e : a + 0 ≡ a = omega arith in ap saturated (sym e)
fold_saturating_plus a (x ∷ xs) =
    let s : sum (x ∷ xs) ≡ 0 + x + sum xs = sum_by_from (λ y. y) (0 + x) xs in
    let e : a + x + sum xs ≡ a + sum (x ∷ xs) = omega (arith, s) in
    ap (λ (s : ℕ). fold saturating_plus s (map saturated xs)) (saturating_plus_saturated a x) ∙ fold_saturating_plus (a + x) xs ∙ ap saturated e

saturating_sum_from : (a : ℕ) (xs : List ℕ) → fold saturating_plus (saturated a) xs ≡ saturated (a + sum xs)
saturating_sum_from a [] = let e : a + 0 ≡ a = omega arith in ap saturated (sym e)
saturating_sum_from a (x ∷ xs) =
    let s : sum (x ∷ xs) ≡ 0 + x + sum xs = sum_by_from (λ y. y) (0 + x) xs in
    let e : a + x + sum xs ≡ a + sum (x ∷ xs) = omega (arith, s) in
    ap (λ (n : ℕ). fold saturating_plus n xs) (saturated_add_left a x) ∙ saturating_sum_from (a + x) xs ∙ ap saturated e

pub saturating_sum_of_saturated : (xs : List ℕ) → saturating_sum (map saturated xs) ≡ saturated (sum xs)
saturating_sum_of_saturated xs = let e : 0 + sum xs ≡ sum xs = omega arith in fold_saturating_plus 0 xs ∙ ap saturated e

product_from : (a : ℕ) (xs : List ℕ) → fold ◌*◌ a xs ≡ a * product xs
product_from a [] = omega arith
product_from a (x ∷ xs) =
    let e : 1 * x ≡ x = omega arith in
    rw (product_from (a * x) xs, e, product_from x xs) (mul_assoc a x (product xs))

pub product_cons : (x : ℕ) (xs : List ℕ) → product (x ∷ xs) ≡ x * product xs
product_cons x xs = let e : 1 * x ≡ x = omega arith in rw e (product_from x xs)

pub fold_saturating_times : (a : ℕ) (xs : List ℕ) → fold saturating_times (saturated a) (map saturated xs) ≡ saturated (a * product xs)
fold_saturating_times a [] = let e : a * 1 ≡ a = omega arith in ap saturated (sym e)
fold_saturating_times a (x ∷ xs) =
    ap (λ (s : ℕ). fold saturating_times s (map saturated xs)) (saturating_times_saturated a x)
    ∙ fold_saturating_times (a * x) xs
    ∙ ap saturated (mul_assoc a x (product xs) ∙ ap (λ (n : ℕ). a * n) (sym (product_cons x xs)))

pub saturating_product_of_saturated : (xs : List ℕ) → saturating_product (map saturated xs) ≡ saturated (product xs)
saturating_product_of_saturated xs = fold_saturating_times 1 xs ∙ (let e : 1 * product xs ≡ product xs = omega arith in ap saturated e)

-- the order of a list does not matter
pub saturated_sum_permutation : (xs ys : List ℕ) → IsPermutation xs ys → saturated (sum ys) ≡ saturated (sum xs)
saturated_sum_permutation xs ys h = ap saturated (sum_by-IsPermutation (λ x. x) xs ys h)

-- a sum of values is the value of their sum
pub saturating_sum_is : (xs : List ℕ) → saturating_sum xs ≡ saturated (sum xs)
saturating_sum_is xs = let e : 0 + sum xs ≡ sum xs = omega arith in saturating_sum_from 0 xs ∙ ap saturated e

-- what overflow is
pub overflow_times : (x : ℕ) → saturating_times overflow (suc x) ≡ overflow
overflow_times x = omega arith

pub overflow_times_zero : saturating_times overflow 0 ≡ 0
overflow_times_zero = omega arith

pub overflow_plus : (x : ℕ) → saturating_plus overflow x ≡ overflow
overflow_plus x = omega arith

pub overflow_exactly : (n : ℕ) → (saturated n ≡ overflow → overflow ≤ n) × (overflow ≤ n → saturated n ≡ overflow)
overflow_exactly n = (λ e. omega arith, λ e. omega arith)

pub exact_below : (n : ℕ) → saturated n < overflow → saturated n ≡ n
exact_below n h = omega arith
