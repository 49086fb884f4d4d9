-- Common denominators of degrees.
-- What contracts of public calls say:
--   fraction_of z b == the fraction z over b
--   fractions ds == the fractions of the degrees, one after the other
--   AreUnits fs den == den is the least common denominator of fs, and at most 1,000,000
--       (`LARGEST_NUMBER`)
--   IsWholeIn d den == the degree d is whole in units of one over den
--   IsPast fs == each common denominator of fs passes 1,000,000
-- Working notions of the code and of proofs:
--   IsJoined n a b == n is the least common multiple of a and b, or `most` where that is not
--       smaller
--   Separates b num den == b divides just the numbers by which num over den becomes whole
use Rattle.std.specs.Prelude.{ℕ, ◌*◌, ◌<◌, ◌≤◌, ℤ, pos, ◌<ℤ◌, ◌≤ℤ◌, unsigned_abs, List, [], ◌∷◌}
use Rattle.std.specs.Int.{◌∣◌, is_negative}
use Rattle.text_parts.specs.Reading.{most}
use Rattle.degree_numbers.specs.Fraction.{Fraction, ClearsAll, IsLeastCommon}
use Rattle.degree_numbers.specs.declared.written.WrittenDegree.{WrittenDegree}

abbrev pub fraction_of : ℤ → ℤ → Fraction
fraction_of z b = record { negative = is_negative z; num = unsigned_abs z; den = unsigned_abs b }

abbrev pub fractions : List WrittenDegree → List Fraction
fractions [] = []
fractions (d ∷ ds) = fraction_of d.a_num d.a_den ∷ fraction_of d.b_num d.b_den ∷ fractions ds

pub record AreUnits (fs : List Fraction) (den : ℤ) : Type 0 where
  pub above : pos 0 <ℤ den
  pub fits : den ≤ℤ pos 1000000
  pub least : IsLeastCommon (unsigned_abs den) fs

pub record IsWholeIn (d : WrittenDegree) (den : ℤ) : Type 0 where
  pub a : unsigned_abs d.a_den ∣ unsigned_abs den
  pub b : unsigned_abs d.b_den ∣ unsigned_abs den

abbrev pub IsPast : List Fraction → Type 0
IsPast fs = (x : ℕ) → 0 < x → ClearsAll x fs → 1000000 < x

pub record IsJoined (n a b : ℕ) : Type 0 where
  pub above : 0 < n
  pub fits : n ≤ most
  pub exact : n < most → (a ∣ n) × (b ∣ n) × ((x : ℕ) → a ∣ x → b ∣ x → n ∣ x)
  pub past : most ≤ n → (x : ℕ) → 0 < x → a ∣ x → b ∣ x → most ≤ x

pub record Separates (b num den : ℕ) : Type 0 where
  pub above : 0 < b
  pub to : (l : ℕ) → den ∣ l * num → b ∣ l
  pub from : (l : ℕ) → b ∣ l → den ∣ l * num
