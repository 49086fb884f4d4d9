-- Degrees in units.
use Rattle.std.proofs.Common.{◌≡◌, ℕ, zero, suc, negsuc, neg_ℤ, ◌*◌, ◌/◌, ◌≤◌, ℤ, pos, ◌*ℤ◌, ◌<ℤ◌, ◌≤ℤ◌, unsigned_abs, w64, to_z, of_z, FitsSigned, arith, ap, sym, ◌∙◌}
use Rattle.std.specs.Int.{◌∣◌}
use Rattle.std.proofs.Math.Nat.{div-le_self}
use Rattle.std.proofs.lemmas.Int.{ints, to_z-of_z, to_z_pos, fits_signed_mul}
use Rattle.std.proofs.Math.IntN.{zero-*ℤ, negsuc-*ℤ-pos}
use Rattle.degree_numbers.proofs.Kept.{num_kept, den_kept}

pub times_fits : (den unit : ℕ) → unit ≤ 1000000 → unit / den ≤ 1000000
times_fits den unit h = let le = div-le_self unit den in omega (arith, le)

pub divides_kept : (x y : ℤ) → pos 0 <ℤ x → x ≤ℤ pos 1000000 → pos 0 <ℤ y → y ≤ℤ pos 1000000 →
    unsigned_abs x ∣ unsigned_abs y →
    unsigned_abs (to_z w64 (of_z w64 x)) ∣ unsigned_abs (to_z w64 (of_z w64 y))
divides_kept x y x_above x_fits y_above y_fits h = rw (den_kept x x_above x_fits, den_kept y y_above y_fits) h

pub product_fits : (x y : ℤ) → unsigned_abs x ≤ 1000000 → unsigned_abs y ≤ 1000000 → FitsSigned w64 (x *ℤ y)
product_fits x y hx hy = fits_signed_mul w64 x y 1000000 1000000 hx hy (omega arith)

pub times_kept : (den unit : ℕ) → unit ≤ 1000000 → to_z w64 (unit / den) ≡ pos (unit / den)
times_kept den unit fits = let small = times_fits den unit fits in to_z_pos w64 (unit / den) (omega arith)

-- a number above 0, kept, and its size
pub size_kept : (d : ℕ) (y : ℤ) → pos 0 <ℤ y → y ≤ℤ pos 1000000 → d ≡ unsigned_abs (to_z w64 (of_z w64 y)) → pos d ≡ y
size_kept d y above fits h = let same : d ≡ unsigned_abs y = h ∙ ap unsigned_abs (den_kept y above fits) in omega (arith, ints)

pub sizes_divide : (d u : ℕ) (den unit : ℤ) → pos d ≡ den → pos u ≡ unit → unsigned_abs den ∣ unsigned_abs unit → d ∣ u
sizes_divide d u den unit e f h = rw (← e, ← f) at h

pub fits_kept : (x y : ℤ) → unsigned_abs x ≤ 1000000 → unsigned_abs y ≤ 1000000 → FitsSigned w64 (to_z w64 (of_z w64 x) *ℤ to_z w64 (of_z w64 y))
fits_kept x y hx hy = rw (num_kept x hx, num_kept y hy) (product_fits x y hx hy)

pub product_kept : (x y : ℤ) → unsigned_abs x ≤ 1000000 → unsigned_abs y ≤ 1000000 →
    to_z w64 (of_z w64 (to_z w64 (of_z w64 x) *ℤ to_z w64 (of_z w64 y))) ≡ x *ℤ y
product_kept x y hx hy = rw (num_kept x hx, num_kept y hy) (to_z-of_z w64 (x *ℤ y) (product_fits x y hx hy))

negated_product : (n d : ℕ) → neg_ℤ (pos n) *ℤ pos d ≡ neg_ℤ (pos (n * d))
negated_product zero d = zero-*ℤ (pos d) ∙ ap (λ n. neg_ℤ (pos n)) {x = 0} {y = 0 * d} (omega arith)
negated_product (suc n) d = negsuc-*ℤ-pos n d

product_of_sizes : (z : ℤ) (q d : ℕ) → z *ℤ pos q *ℤ pos d ≡ z *ℤ pos (q * d)
product_of_sizes (pos n) q d = let e : n * q * d ≡ n * (q * d) = omega arith in ap pos e
product_of_sizes (negsuc n) q d =
    let e : suc n * q * d ≡ suc n * (q * d) = omega arith in
    ap (λ z. z *ℤ pos d) (negsuc-*ℤ-pos n q) ∙ negated_product (suc n * q) d ∙ ap (λ m. neg_ℤ (pos m)) e ∙ sym (negsuc-*ℤ-pos n (q * d))

pub exact : (r num t den unit : ℤ) (q d u : ℕ) → r ≡ num *ℤ t → pos d ≡ den → pos u ≡ unit → t ≡ pos q → q * d ≡ u → r *ℤ den ≡ num *ℤ unit
exact r num t den unit q d u is e f g h = rw (is, ← e, ← f, ← h, g) (product_of_sizes num q d)
