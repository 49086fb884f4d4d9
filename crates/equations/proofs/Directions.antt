-- Derivatives in the directions of the scaling.
use Rattle.std.proofs.Common.{◌≡◌, ℕ, zero, suc, ◌≤◌, List, [], ◌∷◌, drop, slice_index, arith}
use Rattle.std.specs.List.{AllByRecursion}

-- what is 0 from an index on is 0 behind it
pub zeros_behind : (m : List ℕ) (d : ℕ) → ((i : ℕ) → d ≤ i → slice_index m i ≡ 0) → AllByRecursion (λ x. x ≡ 0) (drop d m)
zeros_behind [] zero h = tt
zeros_behind [] (suc d) h = tt
zeros_behind (x ∷ m) zero h = (h zero (omega arith), zeros_behind m zero (λ i le. h (suc i) (omega arith)))
zeros_behind (x ∷ m) (suc d) h = zeros_behind m d (λ i le. h (suc i) (omega (arith, le)))
