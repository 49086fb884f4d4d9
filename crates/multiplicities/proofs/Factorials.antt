-- Factorials.
use Rattle.std.proofs.Common.{◌≡◌, ℕ, zero, suc, ◌+◌, ◌*◌, ◌-◌, ◌≤◌, refl, arith}
use Rattle.std.proofs.lemmas.Nat.{mul-le}
use Rattle.exact_sums.specs.Binomials.{factorial}
use Rattle.exact_sums.proofs.MultinomialLaws.{factorial_pos}

pub factorial-suc : (n : ℕ) → factorial (suc n) ≡ suc n * factorial n
unfolding factorial
factorial-suc n = refl

pub factorials_within : (a b : ℕ) → factorial a * factorial b ≤ factorial (a + b)
unfolding factorial
factorials_within zero b = let e : 0 + b ≡ b = omega arith in rw e (omega arith)
factorials_within (suc a) b =
    let e : suc a + b ≡ suc (a + b) = omega arith in
    let h = mul-le (suc a) (factorial a * factorial b) (suc (a + b)) (factorial (a + b)) (omega arith) (factorials_within a b) in
    rw e (omega (arith, h))

pub factorial_grows : (a b : ℕ) → factorial a ≤ factorial (a + b)
factorial_grows a b =
    let h = factorials_within a b in
    let one : factorial a * 1 ≤ factorial a * factorial b = mul-le (factorial a) 1 (factorial a) (factorial b) (omega arith) (factorial_pos b) in
    omega (arith, h, one)

pub factorial_most : (a n : ℕ) → a ≤ n → factorial a ≤ factorial n
factorial_most a n h = let e : a + (n - a) ≡ n = omega arith in let g = factorial_grows a (n - a) in rw e at g
