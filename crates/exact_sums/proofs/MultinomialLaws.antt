-- Laws of binomials and multinomials.
use Rattle.std.proofs.Common.{length-set, ◌≡◌, ℕ, zero, suc, ◌+◌, ◌-◌, ◌*◌, ◌/◌, ◌%◌, ◌<◌, ◌≤◌, ◌≢◌, length, get_or, set, inl, inr, List, [], ◌∷◌, ◌++◌, map, sum, refl, sym, ap, ◌∙◌, arith}
use Rattle.std.proofs.Math.Nat.{mul_comm, mul_assoc, mul-pos, mul-div_cancel, mul-add-div_right, div-add-mod}
use Rattle.std.proofs.lemmas.List.Sums.{sum_by-cons, sum_by-append}
use Rattle.std.proofs.lemmas.List.{get_or-set_same, get_or-set_other}
use Rattle.std.proofs.lemmas.List.Edits.{swap_is}
use Rattle.std.proofs.lemmas.List.Sorted.{sum_by-IsPermutation, IsPermutation-keeps}
use Rattle.std.proofs.lemmas.Bool.{cases_lt}
use Rattle.std.specs.List.{swap}
use Rattle.std.specs.List.Sorted.{IsPermutation}
use Rattle.exact_sums.specs.Binomials.{factorial, binomial, multinomial}
use Rattle.exact_sums.specs.Saturating.{overflow, saturated, saturating_times, product}
use Rattle.exact_sums.proofs.SaturatingLaws.{saturated_mul_left, saturated_mul_right, product_cons}

pub binomial-zero : (n : ℕ) → binomial n 0 ≡ 1
unfolding binomial
binomial-zero n = refl

-- the step by which a binomial is computed
pub absorb : (n k : ℕ) → suc k * binomial (suc n) (suc k) ≡ suc n * binomial n k
unfolding binomial
absorb zero zero = omega arith
absorb zero (suc k) = omega arith
absorb (suc n) zero =
    let z = binomial-zero n in
    let h : 1 * binomial (suc n) 1 ≡ suc n * 1 = absorb n zero ∙ ap (λ (b : ℕ). suc n * b) z in
    omega (arith, z, h)
absorb (suc n) (suc k) = omega (arith, absorb n k, absorb n (suc k))

pub binomial_grows : (n k : ℕ) → binomial n k ≤ binomial (suc n) (suc k)
unfolding binomial
binomial_grows n k = omega arith

-- factorials
pub factorials : List ℕ → ℕ
factorials [] = 1
factorials (x ∷ xs) = factorial x * factorials xs

pub factorial_pos : (n : ℕ) → 0 < factorial n
unfolding factorial
factorial_pos zero = omega arith
factorial_pos (suc n) = let p : 0 < suc n = omega arith in mul-pos p (factorial_pos n)

factorials_pos : (xs : List ℕ) → 0 < factorials xs
unfolding factorials
factorials_pos [] = omega arith
factorials_pos (x ∷ xs) = mul-pos (factorial_pos x) (factorials_pos xs)

pub cancel : (a b c : ℕ) → 0 < c → a * c ≡ b * c → a ≡ b
cancel a b c p e = sym (mul-div_cancel a p) ∙ ap (λ (n : ℕ). n / c) e ∙ mul-div_cancel b p

factorial_step : (B C s m f g F : ℕ) → s * B ≡ m * C → C * (f * g) ≡ F → B * (s * f * g) ≡ m * F
factorial_step B C s m f g F e h =
    let e2 : s * B * (f * g) ≡ m * C * (f * g) = ap (λ (n : ℕ). n * (f * g)) e in
    let h2 : m * (C * (f * g)) ≡ m * F = ap (λ (n : ℕ). m * n) h in
    omega (arith, e2, h2)

pub binomial_factorials : (a b : ℕ) → binomial (b + a) a * (factorial a * factorial b) ≡ factorial (b + a)
unfolding factorial
binomial_factorials zero b =
    let e : b + 0 ≡ b = omega arith in
    rw (e, binomial-zero b) (omega arith)
binomial_factorials (suc a) b =
    let e : b + suc a ≡ suc (b + a) = omega arith in
    rw e (factorial_step (binomial (suc (b + a)) (suc a)) (binomial (b + a) a) (suc a) (suc (b + a)) (factorial a) (factorial b) (factorial (b + a)) (absorb (b + a) a) (binomial_factorials a b))

pub binomial_symmetric : (a b : ℕ) → binomial (b + a) a ≡ binomial (b + a) b
binomial_symmetric a b =
    let e : b + a ≡ a + b = omega arith in
    let h : binomial (b + a) b * (factorial b * factorial a) ≡ factorial (b + a) = rw e (binomial_factorials b a) in
    let g : binomial (b + a) b * (factorial a * factorial b) ≡ factorial (b + a) = ap (λ (n : ℕ). binomial (b + a) b * n) (mul_comm (factorial a) (factorial b)) ∙ h in
    cancel (binomial (b + a) a) (binomial (b + a) b) (factorial a * factorial b) (mul-pos (factorial_pos a) (factorial_pos b)) (binomial_factorials a b ∙ sym g)

-- the product of binomial (s + x1 + .. + xi) xi: the ways to part behind a part of size s
unfoldable pub multinomial_from : ℕ → List ℕ → ℕ
multinomial_from s [] = 1
multinomial_from s (x ∷ xs) = binomial (s + x) x * multinomial_from (s + x) xs

from_step : (B M f F s S T : ℕ) → B * (f * s) ≡ S → M * F * S ≡ T → B * M * (f * F) * s ≡ T
from_step B M f F s S T e h =
    let e2 : B * (f * s) * (M * F) ≡ S * (M * F) = ap (λ (n : ℕ). n * (M * F)) e in
    omega (arith, e2, h)

multinomial_from_factorials : (s : ℕ) (xs : List ℕ) → multinomial_from s xs * factorials xs * factorial s ≡ factorial (s + sum xs)
unfolding multinomial_from factorials
multinomial_from_factorials s [] = let e : s + 0 ≡ s = omega arith in rw e (omega arith)
multinomial_from_factorials s (x ∷ xs) =
    let a : s + sum (x ∷ xs) ≡ s + x + sum xs = omega (arith, sum_by-cons (λ (n : ℕ). n) x xs) in
    rw a (from_step (binomial (s + x) x) (multinomial_from (s + x) xs) (factorial x) (factorials xs) (factorial s) (factorial (s + x)) (factorial (s + x + sum xs)) (binomial_factorials x s) (multinomial_from_factorials (s + x) xs))

multinomial_step : (B M f F S T : ℕ) → B * (f * S) ≡ T → M * F ≡ S → B * M * (f * F) ≡ T
multinomial_step B M f F S T e h =
    let k : B * f * (M * F) ≡ B * f * S = ap (λ (n : ℕ). B * f * n) h in
    omega (arith, e, k)

-- what a multinomial is
pub multinomial_factorials : (xs : List ℕ) → multinomial xs * factorials xs ≡ factorial (sum xs)
unfolding multinomial factorial factorials
multinomial_factorials [] = refl
multinomial_factorials (x ∷ xs) =
    let a : sum (x ∷ xs) ≡ sum xs + x = omega (arith, sum_by-cons (λ (n : ℕ). n) x xs) in
    rw a (multinomial_step (binomial (sum xs + x) x) (multinomial xs) (factorial x) (factorials xs) (factorial (sum xs)) (factorial (sum xs + x)) (binomial_factorials x (sum xs)) (multinomial_factorials xs))

factorials_product : (xs : List ℕ) → factorials xs ≡ product (map factorial xs)
unfolding factorials
factorials_product [] = refl
factorials_product (x ∷ xs) = rw (product_cons (factorial x) (map factorial xs), factorials_product xs) refl

pub multinomial_quotient : (xs : List ℕ) → multinomial xs * product (map factorial xs) ≡ factorial (sum xs)
multinomial_quotient xs = ap (λ (n : ℕ). multinomial xs * n) (sym (factorials_product xs)) ∙ multinomial_factorials xs

pub multinomial_is_from : (xs : List ℕ) → multinomial_from 0 xs ≡ multinomial xs
unfolding factorial
multinomial_is_from xs =
    let e : 0 + sum xs ≡ sum xs = omega arith in
    let h : multinomial_from 0 xs * factorials xs * 1 ≡ factorial (0 + sum xs) = multinomial_from_factorials 0 xs in
    let g : multinomial_from 0 xs * factorials xs * 1 ≡ multinomial_from 0 xs * factorials xs = omega arith in
    cancel (multinomial_from 0 xs) (multinomial xs) (factorials xs) (factorials_pos xs) (sym g ∙ h ∙ ap factorial e ∙ sym (multinomial_factorials xs))

factorials-append : (xs ys : List ℕ) → factorials (xs ++ ys) ≡ factorials xs * factorials ys
unfolding factorials
factorials-append [] ys = omega arith
factorials-append (x ∷ xs) ys = ap (λ (n : ℕ). factorial x * n) (factorials-append xs ys) ∙ sym (mul_assoc (factorial x) (factorials xs) (factorials ys))

append_step : (M N B F G S T U : ℕ) → M * F ≡ S → N * G ≡ T → B * (T * S) ≡ U → M * N * B * (F * G) ≡ U
append_step M N B F G S T U e h g =
    let k : M * F * (N * G) ≡ S * T = ap (λ (n : ℕ). n * (N * G)) e ∙ ap (λ (n : ℕ). S * n) h in
    let l : M * F * (N * G) * B ≡ S * T * B = ap (λ (n : ℕ). n * B) k in
    omega (arith, l, g)

pub multinomial-append : (xs ys : List ℕ) → multinomial (xs ++ ys) ≡ multinomial xs * multinomial ys * binomial (sum xs + sum ys) (sum ys)
multinomial-append xs ys =
    let p : 0 < factorials xs * factorials ys = mul-pos (factorials_pos xs) (factorials_pos ys) in
    let l : multinomial (xs ++ ys) * (factorials xs * factorials ys) ≡ factorial (sum xs + sum ys) =
    ap (λ (n : ℕ). multinomial (xs ++ ys) * n) (sym (factorials-append xs ys)) ∙ multinomial_factorials (xs ++ ys) ∙ ap factorial (sum_by-append (λ (n : ℕ). n) xs ys) in
    let r : multinomial xs * multinomial ys * binomial (sum xs + sum ys) (sum ys) * (factorials xs * factorials ys) ≡ factorial (sum xs + sum ys) =
    append_step (multinomial xs) (multinomial ys) (binomial (sum xs + sum ys) (sum ys)) (factorials xs) (factorials ys) (factorial (sum xs)) (factorial (sum ys)) (factorial (sum xs + sum ys))
    (multinomial_factorials xs) (multinomial_factorials ys) (binomial_factorials (sum ys) (sum xs)) in
    cancel (multinomial (xs ++ ys)) (multinomial xs * multinomial ys * binomial (sum xs + sum ys) (sum ys)) (factorials xs * factorials ys) p (l ∙ sym r)

-- order
factorials-set : (xs : List ℕ) (i y : ℕ) → i < length xs → factorials (set xs i y) * factorial (get_or xs i 0) ≡ factorials xs * factorial y
unfolding factorials
factorials-set [] i y h = absurd (omega arith)
factorials-set (x ∷ xs) zero y h = omega arith
factorials-set (x ∷ xs) (suc i) y h =
    let k : i < length xs = omega arith in
    let e : factorial x * (factorials (set xs i y) * factorial (get_or xs i 0)) ≡ factorial x * (factorials xs * factorial y) = ap (λ (n : ℕ). factorial x * n) (factorials-set xs i y k) in
    omega (arith, e)

-- what is at j after the element at j was written to i too
set_twice : (xs : List ℕ) (i j : ℕ) → i < length xs → get_or (set xs i (get_or xs j 0)) j 0 ≡ get_or xs j 0
set_twice xs i j h = elim (cases_lt i j) [
  | inl below ↦ let ne : j ≢ i = omega arith in get_or-set_other xs i j (get_or xs j 0) 0 ne
  | inr above ↦ elim (cases_lt j i) [
    | inl under ↦ let ne : j ≢ i = omega arith in get_or-set_other xs i j (get_or xs j 0) 0 ne
    | inr over ↦ let e : i ≡ j = omega arith in rw e (get_or-set_same xs j (get_or xs j 0) 0 (let k : j < length xs = omega arith in k))
  ]
]

factorials-swap : (xs : List ℕ) (i j : ℕ) → i < length xs → j < length xs → factorials (swap xs i j) ≡ factorials xs
factorials-swap xs i j h k =
    let y = get_or xs j 0 in
    let ys = set xs i y in
    let l : j < length ys = simp length-set k in
    let a : factorials (set ys j (get_or xs i 0)) * factorial (get_or ys j 0) ≡ factorials ys * factorial (get_or xs i 0) = factorials-set ys j (get_or xs i 0) l in
    let b : factorials ys * factorial (get_or xs i 0) ≡ factorials xs * factorial y = factorials-set xs i y h in
    let c : factorials (set ys j (get_or xs i 0)) * factorial y ≡ factorials xs * factorial y = ap (λ (n : ℕ). factorials (set ys j (get_or xs i 0)) * factorial n) (sym (set_twice xs i j h)) ∙ a ∙ b in
    rw (← swap_is xs i j 0 h k) (cancel (factorials (set ys j (get_or xs i 0))) (factorials xs) (factorial y) (factorial_pos y) c)

factorials-permutation : (xs ys : List ℕ) → IsPermutation xs ys → factorials ys ≡ factorials xs
factorials-permutation xs ys h =
    IsPermutation-keeps xs (λ l. factorials l ≡ factorials xs) refl (λ l i j a b e. factorials-swap l i j a b ∙ e) ys h

pub multinomial-permutation : (xs ys : List ℕ) → IsPermutation xs ys → multinomial ys ≡ multinomial xs
multinomial-permutation xs ys h =
    let s : sum ys ≡ sum xs = sum_by-IsPermutation (λ (n : ℕ). n) xs ys h in
    let l : multinomial ys * factorials xs ≡ factorial (sum xs) = ap (λ (n : ℕ). multinomial ys * n) (sym (factorials-permutation xs ys h)) ∙ multinomial_factorials ys ∙ ap factorial s in
    cancel (multinomial ys) (multinomial xs) (factorials xs) (factorials_pos xs) (l ∙ sym (multinomial_factorials xs))

-- a number that times d is c * m, from the quotient and the rest of c by d: no product is larger
-- than it
pub exact_quotient : (c m d v : ℕ) → 0 < d → v * d ≡ c * m → v ≡ c / d * m + c % d * m / d
exact_quotient c m d v p e =
    let q = c / d in
    let r = c % d in
    let split : d * q + r ≡ c = div-add-mod c d in
    let s : (d * q + r) * m ≡ c * m = ap (λ (n : ℕ). n * m) split in
    let t : v * d ≡ q * m * d + r * m = omega (arith, e, s) in
    sym (mul-div_cancel v p) ∙ ap (λ (n : ℕ). n / d) t ∙ mul-add-div_right p (q * m) (r * m)

-- steps of a binomial from size b: from i to i + 1
pub binomial_next : (b i : ℕ) → binomial (b + (i + 1)) (i + 1) * (i + 1) ≡ binomial (b + i) i * (b + i + 1)
binomial_next b i =
    let e : b + (i + 1) ≡ suc (b + i) = omega arith in
    let f : i + 1 ≡ suc i = omega arith in
    let h : suc i * binomial (suc (b + i)) (suc i) ≡ suc (b + i) * binomial (b + i) i = absorb (b + i) i in
    rw (e, f) (omega (arith, h))

pub binomial_rises : (b i j : ℕ) → binomial (b + i) i ≤ binomial (b + (i + j)) (i + j)
binomial_rises b i zero = let e : i + 0 ≡ i = omega arith in rw e (omega arith)
binomial_rises b i (suc j) =
    let e : b + (i + suc j) ≡ suc (b + (i + j)) = omega arith in
    let f : i + suc j ≡ suc (i + j) = omega arith in
    let g = binomial_grows (b + (i + j)) (i + j) in
    rw (e, f) (omega (arith, g, binomial_rises b i j))

pub binomial_rises_to : (b i k : ℕ) → i ≤ k → binomial (b + i) i ≤ binomial (b + k) k
binomial_rises_to b i k h =
    let e : i + (k - i) ≡ k = omega arith in
    let g = binomial_rises b i (k - i) in
    rw e at g

-- steps of a multinomial
pub ways_start : (xs : List ℕ) → saturated (saturated 1 * multinomial_from 0 xs) ≡ saturated (multinomial xs)
ways_start xs =
    saturated_mul_left 1 (multinomial_from 0 xs)
    ∙ (let e : 1 * multinomial_from 0 xs ≡ multinomial_from 0 xs = omega arith in ap saturated (e ∙ multinomial_is_from xs))

pub ways_more : (s w x : ℕ) (rest : List ℕ) →
    saturated (saturating_times w (saturated (binomial (s + x) x)) * multinomial_from (s + x) rest) ≡ saturated (w * multinomial_from s (x ∷ rest))
unfolding multinomial_from
ways_more s w x rest =
    ap (λ (n : ℕ). saturated (n * multinomial_from (s + x) rest)) (saturated_mul_right w (binomial (s + x) x))
    ∙ saturated_mul_left (w * binomial (s + x) x) (multinomial_from (s + x) rest)
    ∙ ap saturated (mul_assoc w (binomial (s + x) x) (multinomial_from (s + x) rest))

pub ways_end : (s w : ℕ) → w ≤ overflow → saturated (w * multinomial_from s []) ≡ w
unfolding multinomial_from
ways_end s w h = omega arith

-- the ends of Pascal's triangle
pub binomial-above : (n j : ℕ) → binomial n (suc (n + j)) ≡ 0
unfolding binomial
binomial-above zero j = refl
binomial-above (suc n) j =
    let e : suc n + j ≡ suc (n + j) = omega arith in
    let d : suc n + j ≡ n + suc j = omega arith in
    omega (arith, ap (λ i. binomial n i) e ∙ binomial-above n j, ap (λ i. binomial n (suc i)) d ∙ binomial-above n (suc j))

pub binomial-self : (n : ℕ) → binomial n n ≡ 1
unfolding binomial
binomial-self zero = refl
binomial-self (suc n) = let e : n + 0 ≡ n = omega arith in omega (arith, binomial-self n, ap (λ i. binomial n (suc i)) (sym e) ∙ binomial-above n 0)

-- the same with the chosen part in front
pub binomial_factorials_front : (a b : ℕ) → binomial (a + b) a * (factorial a * factorial b) ≡ factorial (a + b)
binomial_factorials_front a b =
    let e : b + a ≡ a + b = omega arith in
    ap (λ (n : ℕ). binomial n a * (factorial a * factorial b)) (sym e) ∙ binomial_factorials a b ∙ ap factorial e

pub binomial_either : (a b : ℕ) → binomial (a + b) a ≡ binomial (a + b) b
binomial_either a b = let e : b + a ≡ a + b = omega arith in ap (λ (n : ℕ). binomial n a) (sym e) ∙ binomial_symmetric a b ∙ ap (λ (n : ℕ). binomial n b) e

pub binomial_pos : (a b : ℕ) → 0 < binomial (a + b) a
binomial_pos a b = let h = factorial_pos (a + b) in let e = binomial_factorials_front a b in elim (binomial (a + b) a) as (λ n. n * (factorial a * factorial b) ≡ factorial (a + b) → 0 < n) [
  | zero ↦ λ z. omega (arith, h, z)
  | suc n ↦ λ z. omega arith
] e

-- one of three parts after another, in two ways
pub trinomial : (a b c : ℕ) → binomial (a + (b + c)) a * binomial (b + c) b ≡ binomial (a + b) a * binomial (a + b + c) (a + b)
trinomial a b c =
    let fa = factorial a in
    let fb = factorial b in
    let fc = factorial c in
    let e : a + b + c ≡ a + (b + c) = omega arith in
    let one : binomial (a + (b + c)) a * (fa * factorial (b + c)) ≡ factorial (a + (b + c)) = binomial_factorials_front a (b + c) in
    let two : binomial (a + (b + c)) a * fa * (binomial (b + c) b * (fb * fc)) ≡ binomial (a + (b + c)) a * fa * factorial (b + c) =
    ap (λ (n : ℕ). binomial (a + (b + c)) a * fa * n) (binomial_factorials_front b c) in
    let three : binomial (a + b + c) (a + b) * (factorial (a + b) * fc) ≡ factorial (a + (b + c)) = binomial_factorials_front (a + b) c ∙ ap factorial e in
    let four : binomial (a + b + c) (a + b) * fc * (binomial (a + b) a * (fa * fb)) ≡ binomial (a + b + c) (a + b) * fc * factorial (a + b) =
    ap (λ (n : ℕ). binomial (a + b + c) (a + b) * fc * n) (binomial_factorials_front a b) in
    cancel (binomial (a + (b + c)) a * binomial (b + c) b) (binomial (a + b) a * binomial (a + b + c) (a + b)) (fa * (fb * fc))
    (mul-pos (factorial_pos a) (mul-pos (factorial_pos b) (factorial_pos c)))
    (omega (arith, one, two, three, four))
