-- The scaled size of a multiindex is bounded by its sum.
use Rattle.std.proofs.Common.{◌≡◌, ℕ, ◌+◌, ◌*◌, ◌≤◌, List, [], ◌∷◌, sum, arith}
use Rattle.std.specs.List.{AllByRecursion}
use Rattle.std.proofs.lemmas.List.Sums.{sum_by_from}
use Rattle.degree_numbers.specs.Multi.{scaled_size}

product_most : (s m : ℕ) → s ≤ 10 → s * m ≤ 10 * m
product_most s m h = grind arith

pub scaled_size_most : (ss ms : List ℕ) → AllByRecursion (λ s. s ≤ 10) ss → scaled_size ss ms ≤ 10 * sum ms
scaled_size_most [] ms h = omega arith
scaled_size_most (s ∷ ss) [] h = omega arith
scaled_size_most (s ∷ ss) (m ∷ ms) h =
    let all : sum (m ∷ ms) ≡ 0 + m + sum ms = sum_by_from (λ x. x) (0 + m) ms in
    omega (arith, all, product_most s m h.0, scaled_size_most ss ms h.1)
