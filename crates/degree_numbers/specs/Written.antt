-- Degrees as they are written: two fractions in lowest terms.
--   has_k w == the coefficient of k is not 0
--   above_zero w == the plain part is not 0, and no minus stands before it
--   IsWritten w d == d is w, each fraction in lowest terms
--   too_large w n == the refusal of w for its number n past 1,000,000 (`LARGEST_NUMBER`)
--   IsRead text result == what a text is read as
--   in_units_of l f == f in units of one over l, where l clears it
--   degree_in l w == the degree w in units of one over l, where l clears both fractions
use Rattle.std.specs.Prelude.{ℕ, ◌≡◌, ◌==◌, ◌*◌, ◌/◌, Bool, not, ◌&&◌, List, MatchOption, Result, Err, IsOkAnd, ℤ, pos}
use Rattle.degree_numbers.specs.Fraction.{Fraction, IsReduced, under_sign}
use Rattle.degree_numbers.specs.DegreeText.{Written, written_of}
use Rattle.degree_numbers.specs.declared.degree.Degree.{Degree}
use Rattle.degree_numbers.specs.declared.written.WrittenDegree.{WrittenDegree}
use Rattle.degree_numbers.specs.declared.refusal.DegreeRefusal.{DegreeRefusal}
use Rattle.degree_numbers.specs.declared.refusal.DegreeRefusal.TheVariants.{DegreeText, NumberTooLarge}

abbrev pub has_k : Written → Bool
has_k w = not (w.with_k.num == 0)

abbrev pub above_zero : Written → Bool
above_zero w = not (w.plain.num == 0) && not w.plain.negative

pub record IsWritten (w : Written) (d : WrittenDegree) : Type 0 where
  pub plain : IsReduced w.plain d.a_num d.a_den
  pub with_k : IsReduced w.with_k d.b_num d.b_den

abbrev pub too_large : Written → ℕ → DegreeRefusal
too_large w n = NumberTooLarge (pos n) (has_k w) (above_zero w)

abbrev pub IsRead : List ℕ → Result WrittenDegree DegreeRefusal → Type 0
IsRead text result = MatchOption (written_of text) (result ≡ Err DegreeText)
    (λ w. MatchOption w.large (IsOkAnd result (IsWritten w)) (λ n. result ≡ Err (too_large w n)))

abbrev pub in_units_of : ℕ → Fraction → ℤ
in_units_of l f = under_sign f.negative (l * f.num / f.den)

abbrev pub degree_in : ℕ → Written → Degree
degree_in l w = record { a = in_units_of l w.plain; b = in_units_of l w.with_k }
