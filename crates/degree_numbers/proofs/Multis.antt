-- Sums and differences of multiindices.
use Rattle.std.proofs.Common.{◌≡◌, ℕ, suc, ◌+◌, ◌-◌, ◌<◌, ◌≤◌, List, [], ◌∷◌, length, slice_index, arith, refl}
use Rattle.degree_numbers.specs.Multi.{plus_of, minus_of, IsAtMost, scaled_size}

-- what was added is taken away again
pub minus_of-plus_of : (ms ls : List ℕ) → length ms ≡ length ls → minus_of (plus_of ms ls) ls ≡ ms
minus_of-plus_of [] [] e = refl
minus_of-plus_of [] (l ∷ ls) e = absurd (omega arith)
minus_of-plus_of (m ∷ ms) [] e = refl
minus_of-plus_of (m ∷ ms) (l ∷ ls) e =
    let rest = minus_of-plus_of ms ls (omega arith) in
    let entry : m + l - l ≡ m = omega arith in
    rw (rest, entry) refl

plus_of-minus : (ms ls : List ℕ) → length ms ≡ length ls → ((k : ℕ) → k < length ms → slice_index ls k ≤ slice_index ms k) → plus_of (minus_of ms ls) ls ≡ ms
plus_of-minus [] [] e h = refl
plus_of-minus [] (l ∷ ls) e h = absurd (omega arith)
plus_of-minus (m ∷ ms) [] e h = refl
plus_of-minus (m ∷ ms) (l ∷ ls) e h =
    let rest = plus_of-minus ms ls (omega arith) (λ k p. h (suc k) (omega arith)) in
    let first : l ≤ m = h 0 (omega arith) in
    let entry : m - l + l ≡ m = omega arith in
    rw (rest, entry) refl

-- what was taken away is added again
pub plus_of-minus_of : (ms ls : List ℕ) → length ms ≡ 5 → length ls ≡ 5 → IsAtMost ls ms → plus_of (minus_of ms ls) ls ≡ ms
plus_of-minus_of ms ls five also h = plus_of-minus ms ls (omega arith) (λ k p. h k (omega arith))

-- the scaled size of a sum is the sum of the scaled sizes
pub scaled_size-plus_of : (ss ms ls : List ℕ) → length ms ≡ length ls → scaled_size ss (plus_of ms ls) ≡ scaled_size ss ms + scaled_size ss ls
scaled_size-plus_of [] ms ls e = refl
scaled_size-plus_of (s ∷ ss) [] [] e = refl
scaled_size-plus_of (s ∷ ss) [] (l ∷ ls) e = absurd (omega arith)
scaled_size-plus_of (s ∷ ss) (m ∷ ms) [] e = absurd (omega arith)
scaled_size-plus_of (s ∷ ss) (m ∷ ms) (l ∷ ls) e =
    let rest = scaled_size-plus_of ss ms ls (omega arith) in
    omega (arith, rest)
