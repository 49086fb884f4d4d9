-- Fractions of whole numbers.
--   Fraction == a fraction as it is written: whether a minus stands before it, its numerator, its
--       denominator
--   IsLowest n d m b == m over b is n over d in lowest terms
--   IsFractionInRange den z == z over den has in lowest terms a numerator and a denominator up to
--       1,000,000 (`LARGEST_NUMBER`)
--   under_sign negative m == the number of size m under a sign
--   IsReduced f z b == z over b is f in lowest terms
--   Clears l f == l times f is whole
--   ClearsAll l fs == l times each of fs is whole
--   IsLeastCommon l fs == l is the least common denominator of fs
--   most == 2^63-1, where a least common denominator stops
--   IsCommon n fs == n is the least common denominator of fs, or `most` where that is not smaller
use Rattle.std.specs.Prelude.{ℕ, ◌≡◌, ◌*◌, ◌<◌, ◌≤◌, ⊤, Bool, if◌then◌else◌, ℤ, pos, neg_ℤ, unsigned_abs, List, [], ◌∷◌}
use Rattle.std.specs.Int.{IsGcd, ◌∣◌}
use Rattle.text_parts.specs.Reading.{most}

pub record Fraction : Type 0 where
  pub negative : Bool
  pub num : ℕ
  pub den : ℕ

pub record IsLowest (n d m b : ℕ) : Type 0 where
  pub den_above : 0 < b
  pub equal : m * d ≡ n * b
  pub in_lowest : IsGcd m b 1

abbrev pub IsFractionInRange : ℕ → ℤ → Type 0
IsFractionInRange den z = (n : ℕ) × (d : ℕ) × IsLowest (unsigned_abs z) den n d × (n ≤ 1000000)
    × (d ≤ 1000000)

abbrev pub under_sign : Bool → ℕ → ℤ
under_sign negative m = if negative then neg_ℤ (pos m) else pos m

abbrev pub IsReduced : Fraction → ℤ → ℤ → Type 0
IsReduced f z b = (m : ℕ) × (d : ℕ) × (z ≡ under_sign f.negative m) × (b ≡ pos d)
    × IsLowest f.num f.den m d

abbrev pub Clears : ℕ → Fraction → Type 0
Clears l f = f.den ∣ l * f.num

abbrev pub ClearsAll : ℕ → List Fraction → Type 0
ClearsAll l [] = ⊤
ClearsAll l (f ∷ fs) = Clears l f × ClearsAll l fs

pub record IsLeastCommon (l : ℕ) (fs : List Fraction) : Type 0 where
  pub clears : ClearsAll l fs
  pub least : (x : ℕ) → ClearsAll x fs → l ∣ x

pub record IsCommon (n : ℕ) (fs : List Fraction) : Type 0 where
  pub above : 0 < n
  pub fits : n ≤ most
  pub exact : n < most → IsLeastCommon n fs
  pub past : most ≤ n → (x : ℕ) → 0 < x → ClearsAll x fs → most ≤ x
