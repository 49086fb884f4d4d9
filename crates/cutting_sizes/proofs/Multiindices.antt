-- Multiindices: sums, parts and shifts.
use Rattle.std.proofs.Common.{◌≡◌, ℕ, zero, suc, List, [], ◌∷◌, length, drop, refl, sym, ap, ◌∙◌, arith}
use Rattle.std.specs.List.{AllByRecursion}
use Rattle.degree_numbers.specs.Multi.{plus_of, minus_of}
use Rattle.plain_trees.specs.Degree.{IsMultiIndex}
use Rattle.plain_trees.specs.Multinomials.{zeros}
use Rattle.plain_trees.specs.Cutting.{limits}
use Rattle.plain_trees.specs.Coproducts.{each_direction}
use Rattle.cutting_sizes.proofs.Made.{IsBelow}

abbrev pub AreZero : List ℕ → Type 0
AreZero = AllByRecursion (λ x. x ≡ 0)

zero-plus : (d : ℕ) (m n : List ℕ) → AreZero (drop d m) → AreZero (drop d n) → AreZero (drop d (plus_of m n))
zero-plus d [] n h k = k
zero-plus d (x ∷ m) [] h k = h
zero-plus zero (x ∷ m) (y ∷ n) h k = let a = h.0 in let b = k.0 in (omega (arith, a, b), zero-plus zero m n h.1 k.1)
zero-plus (suc d) (x ∷ m) (y ∷ n) h k = zero-plus d m n h k

length-plus : (m n : List ℕ) → length m ≡ length n → length (plus_of m n) ≡ length n
length-plus [] n h = refl
length-plus (x ∷ m) [] h = absurd (omega (arith, h))
length-plus (x ∷ m) (y ∷ n) h = omega (arith, length-plus m n (omega (arith, h)))

pub plus-multi : (dims : ℕ) (m n : List ℕ) → IsMultiIndex dims m → IsMultiIndex dims n → IsMultiIndex dims (plus_of m n)
plus-multi dims m n h k = record { entries = length-plus m n (h.entries ∙ sym k.entries) ∙ k.entries; rest = zero-plus dims m n h.rest k.rest }

length-below : (m n : List ℕ) → IsBelow m n → length m ≡ length n
length-below [] [] h = refl
length-below [] (y ∷ n) h = absurd h
length-below (x ∷ m) [] h = absurd h
length-below (x ∷ m) (y ∷ n) h = omega (arith, length-below m n h.1)

zero-below : (d : ℕ) (m n : List ℕ) → IsBelow m n → AreZero (drop d n) → AreZero (drop d m)
zero-below d [] [] h k = k
zero-below d [] (y ∷ n) h k = absurd h
zero-below d (x ∷ m) [] h k = absurd h
zero-below zero (x ∷ m) (y ∷ n) h k = let a = h.0 in let b = k.0 in (omega (arith, a, b), zero-below zero m n h.1 k.1)
zero-below (suc d) (x ∷ m) (y ∷ n) h k = zero-below d m n h.1 k

pub below-multi : (dims : ℕ) (m n : List ℕ) → IsBelow m n → IsMultiIndex dims n → IsMultiIndex dims m
below-multi dims m n h k = record { entries = length-below m n h ∙ k.entries; rest = zero-below dims m n h k.rest }

minus-below : (n a : List ℕ) → IsBelow a n → IsBelow (minus_of n a) n
minus-below [] [] h = tt
minus-below [] (x ∷ a) h = absurd h
minus-below (y ∷ n) [] h = absurd h
minus-below (y ∷ n) (x ∷ a) h = (omega arith, minus-below n a h.1)

pub minus-multi : (dims : ℕ) (n a : List ℕ) → IsBelow a n → IsMultiIndex dims n → IsMultiIndex dims (minus_of n a)
minus-multi dims n a h k = below-multi dims (minus_of n a) n (minus-below n a h) k

zeros-below : (n : List ℕ) → IsBelow (zeros n) n
zeros-below [] = tt
zeros-below (x ∷ n) = (omega arith, zeros-below n)

pub zeros-multi : (dims : ℕ) (n : List ℕ) → IsMultiIndex dims n → IsMultiIndex dims (zeros n)
zeros-multi dims n k = below-multi dims (zeros n) n (zeros-below n) k

-- shifts in each of the first directions
length-limits : (w p : List ℕ) → length (limits w p) ≡ length p
length-limits w [] = refl
length-limits [] (x ∷ p) = omega (arith, length-limits [] p)
length-limits (k ∷ w) (x ∷ p) = omega (arith, length-limits w p)

none-limits : (p : List ℕ) → AreZero (limits [] p)
none-limits [] = tt
none-limits (x ∷ p) = (refl, none-limits p)

zero-limits : (dims j : ℕ) (p : List ℕ) → AreZero (drop dims (limits (each_direction dims j) p))
zero-limits zero j p = none-limits p
zero-limits (suc d) j [] = tt
zero-limits (suc d) j (x ∷ p) = zero-limits d j p

pub shift-multi : (dims j : ℕ) (p s : List ℕ) → IsBelow s (limits (each_direction dims j) p) → IsMultiIndex dims p → IsMultiIndex dims s
shift-multi dims j p s h k =
    below-multi dims s (limits (each_direction dims j) p) h record { entries = length-limits (each_direction dims j) p ∙ k.entries; rest = zero-limits dims j p }

-- below 0 there is 0 alone
pub below-zero : (m n : List ℕ) → IsBelow m n → AreZero n → m ≡ n
below-zero [] [] h k = refl
below-zero [] (y ∷ n) h k = absurd h
below-zero (x ∷ m) [] h k = absurd h
below-zero (x ∷ m) (y ∷ n) h k = let a = h.0 in let b = k.0 in let e : x ≡ y = omega (arith, a, b) in rw (e, below-zero m n h.1 k.1) refl

pub minus-zero : (n a : List ℕ) → IsBelow a n → AreZero n → minus_of n a ≡ n
minus-zero n a h k = below-zero (minus_of n a) n (minus-below n a h) k

same-zeros : (m n : List ℕ) → length m ≡ length n → zeros m ≡ zeros n
same-zeros [] [] h = refl
same-zeros [] (y ∷ n) h = absurd (omega (arith, h))
same-zeros (x ∷ m) [] h = absurd (omega (arith, h))
same-zeros (x ∷ m) (y ∷ n) h = ap (λ (xs : List ℕ). 0 ∷ xs) (same-zeros m n (omega (arith, h)))

pub zeros-five : (m : List ℕ) → length m ≡ 5 → zeros m ≡ 0 ∷ 0 ∷ 0 ∷ 0 ∷ 0 ∷ []
zeros-five m h = same-zeros m (0 ∷ 0 ∷ 0 ∷ 0 ∷ 0 ∷ []) h
