-- Fractions in lowest terms: what makes them whole, and that there is one.
use Rattle.std.proofs.Common.{◌≡◌, ℕ, ◌*◌, ◌/◌, ◌<◌, subst, arith, sym, ap, ◌∙◌}
use Rattle.std.specs.Int.{IsGcd, ◌∣◌}
use Rattle.std.proofs.Math.Nat.{div-one, dvd-mul_left, div-mul_cancel, eq_of_mul-eq-mul_right}
use Rattle.std.proofs.lemmas.Nat.Gcd.{dvd_antisymm}
use Rattle.degree_numbers.specs.Fraction.{IsLowest}
use Rattle.degree_numbers.proofs.Divisors.{clears_to}

-- of a fraction in lowest terms the denominator alone counts
pub lowest_divides : (num den l : ℕ) → IsGcd num den 1 → 0 < den → den ∣ l * num → den ∣ l
lowest_divides num den l h above p = subst (λ d. d ∣ l) (div-one den) (clears_to num den 1 l h above p)

pub cancelled : (d x y : ℕ) → 0 < d → x * d ≡ y * d → x ≡ y
cancelled d x y above e = eq_of_mul-eq-mul_right d above x y e

-- m over b is n over d in lowest terms: what makes the one whole makes the other whole
pub whole_to : (n d m b l : ℕ) → 0 < d → IsLowest n d m b → d ∣ l * n → b ∣ l
whole_to n d m b l above h p =
    let q = l * n / d in
    let q_is : q * d ≡ l * n = div-mul_cancel d p in
    let turned : l * m * d ≡ q * b * d =
    (let one : l * m * d ≡ l * (m * d) = omega arith in
    let two : l * (n * b) ≡ l * n * b = omega arith in
    let three : q * d * b ≡ q * b * d = omega arith in
    one ∙ ap (λ x. l * x) h.equal ∙ two ∙ ap (λ x. x * b) (sym q_is) ∙ three) in
    let same : l * m ≡ q * b = cancelled d (l * m) (q * b) above turned in
    lowest_divides m b l h.in_lowest h.den_above (subst (λ x. b ∣ x) (sym same) (dvd-mul_left b q))

pub whole_from : (n d m b l : ℕ) → IsLowest n d m b → b ∣ l → d ∣ l * n
whole_from n d m b l h p =
    let q = l / b in
    let q_is : q * b ≡ l = div-mul_cancel b p in
    let turned : q * m * d ≡ l * n =
    (let one : q * m * d ≡ q * (m * d) = omega arith in
    let two : q * (n * b) ≡ q * b * n = omega arith in
    one ∙ ap (λ x. q * x) h.equal ∙ two ∙ ap (λ x. x * n) q_is) in
    subst (λ x. d ∣ x) turned (dvd-mul_left d (q * m))

-- a fraction has one form in lowest terms
pub lowest_one : (n d m b k c : ℕ) → 0 < d → IsLowest n d m b → IsLowest n d k c → (m ≡ k) × (b ≡ c)
lowest_one n d m b k c above h g =
    let there : b ∣ c = whole_to n d m b c above h (subst (λ x. d ∣ x) (divided n d k c g) (dvd-mul_left d k)) in
    let back : c ∣ b = whole_to n d k c b above g (subst (λ x. d ∣ x) (divided n d m b h) (dvd-mul_left d m)) in
    let dens : b ≡ c = dvd_antisymm there back in
    (cancelled d m k above (h.equal ∙ ap (λ x. n * x) dens ∙ sym g.equal), dens)
  where
    divided : (n d k c : ℕ) → IsLowest n d k c → k * d ≡ c * n
    divided n d k c g = g.equal ∙ omega arith
