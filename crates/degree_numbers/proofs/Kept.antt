-- Fractions of whole numbers in lowest terms, kept in machine numbers.
use Rattle.std.proofs.Common.{◌≡◌, ℕ, ◌≤◌, ◌<◌, ap, ◌<ℤ◌, ◌≤ℤ◌, ℤ, pos, unsigned_abs, arith, FitsSigned, w64, to_z, of_z}
use Rattle.std.specs.Int.{IsGcd}
use Rattle.std.proofs.lemmas.Int.{ints, to_z-of_z}

pub num_kept : (z : ℤ) → unsigned_abs z ≤ 1000000 → to_z w64 (of_z w64 z) ≡ z
num_kept z h = let fits : FitsSigned w64 z = omega (arith, ints) in to_z-of_z w64 z fits

pub den_kept : (z : ℤ) → pos 0 <ℤ z → z ≤ℤ pos 1000000 → to_z w64 (of_z w64 z) ≡ z
den_kept z h k = let fits : FitsSigned w64 z = omega (arith, ints) in to_z-of_z w64 z fits

pub lowest_kept : (x y : ℤ) → unsigned_abs x ≤ 1000000 → pos 0 <ℤ y → y ≤ℤ pos 1000000 →
    IsGcd (unsigned_abs x) (unsigned_abs y) 1 →
    IsGcd (unsigned_abs (to_z w64 (of_z w64 x))) (unsigned_abs (to_z w64 (of_z w64 y))) 1
lowest_kept x y num above den h = rw (num_kept x num, den_kept y above den) h

pub reduced_kept : (m d : ℕ) (x y : ℤ) → unsigned_abs x ≡ m → y ≡ pos d → m ≤ 1000000 → 0 < d →
    d ≤ 1000000 → IsGcd m d 1 →
    IsGcd (unsigned_abs (to_z w64 (of_z w64 x))) (unsigned_abs (to_z w64 (of_z w64 y))) 1
reduced_kept m d x y size den num_fits above den_fits h =
    let y_size : unsigned_abs y ≡ d = ap unsigned_abs den in
    lowest_kept x y (omega arith) (omega (arith, ints)) (omega (arith, ints)) (rw (size, y_size) h)
