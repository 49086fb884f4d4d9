-- Fractions divided by their greatest common divisor.
use Rattle.std.proofs.Common.{◌≡◌, ℕ, ◌*◌, ◌/◌, ◌<◌, subst, arith, sym}
use Rattle.std.specs.Int.{IsGcd, ◌∣◌}
use Rattle.std.proofs.Math.Nat.{div-mul_cancel, pos_of_dvd_of_pos, dvd_of_mul-dvd-mul_right, mul-dvd-mul_right, one-dvd, dvd-mul_right, one-mul}
use Rattle.degree_numbers.specs.Fraction.{IsLowest}

pub gcd_above : (n d g : ℕ) → IsGcd n d g → 0 < d → 0 < g
gcd_above n d g h lt = pos_of_dvd_of_pos h.1 lt

cross : (a b g n d : ℕ) → a * g ≡ n → b * g ≡ d → a * d ≡ n * b
cross a b g n d p q = rw (← p, ← q) (omega arith)

above : (b g d : ℕ) → b * g ≡ d → 0 < d → 0 < b
above b g d e lt = pos_of_dvd_of_pos (subst (λ x. b ∣ x) e (dvd-mul_right b g)) lt

pub lowest : (n d g : ℕ) → IsGcd n d g → 0 < d → IsLowest n d (n / g) (d / g)
lowest n d g h lt =
    let up = gcd_above n d g h lt in
    let n_is : n / g * g ≡ n = div-mul_cancel g h.0 in
    let d_is : d / g * g ≡ d = div-mul_cancel g h.1 in
    record {
      den_above = above (d / g) g d d_is lt;
      equal = cross (n / g) (d / g) g n d n_is d_is;
      in_lowest = (
        one-dvd _,
        one-dvd _,
        λ k p q. dvd_of_mul-dvd-mul_right k up
            (subst (λ x. k * g ∣ x) (sym (one-mul g))
            (h.2 (k * g) (subst (λ x. k * g ∣ x) n_is (mul-dvd-mul_right k p g)) (subst (λ x. k * g ∣ x) d_is (mul-dvd-mul_right k q g)))),
      );
    }
