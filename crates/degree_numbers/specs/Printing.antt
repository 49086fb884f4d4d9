-- The text of a degree.
--   IsLowestOf z den f == f is z over den, in lowest terms
--   fraction_text f == the fraction without its sign; a denominator 1 is left out
--   plain_text a == the plain part with its sign; nothing where it is 0
--   k_text b == `k` and the fraction before it; a fraction 1 is left out
--   k_sign first b == the sign before the part with `k`; a plus at the front of the text is left
--       out
--   degree_text a b == the text of a + b*k
--   IsDegreeText d den text == text is that of the degree d, in units of one over den
use Rattle.std.specs.Prelude.{◌≡◌, ℕ, ◌==◌, Bool, ◌&&◌, List, [], ◌++◌, if◌then◌else◌, ℤ, unsigned_abs, codes, decimal}
use Rattle.std.specs.Int.{is_negative}
use Rattle.degree_numbers.specs.Fraction.{Fraction, IsLowest}
use Rattle.degree_numbers.specs.declared.degree.Degree.{Degree}

pub record IsLowestOf (z : ℤ) (den : ℕ) (f : Fraction) : Type 0 where
  pub sign : f.negative ≡ is_negative z
  pub value : IsLowest (unsigned_abs z) den f.num f.den

abbrev pub fraction_text : Fraction → List ℕ
fraction_text f = decimal f.num ++ (if f.den == 1 then [] else codes "/" ++ decimal f.den)

abbrev pub plain_text : Fraction → List ℕ
plain_text a = if a.num == 0 then [] else (if a.negative then codes "-" else []) ++ fraction_text a

abbrev pub k_text : Fraction → List ℕ
k_text b = if b.num == 1 && b.den == 1 then codes "k" else fraction_text b ++ codes "*k"

abbrev pub k_sign : Bool → Fraction → List ℕ
k_sign first b = if b.negative then codes "-" else (if first then [] else codes "+")

abbrev pub degree_text : Fraction → Fraction → List ℕ
degree_text a b = if b.num == 0 then (if a.num == 0 then codes "0" else plain_text a)
    else plain_text a ++ k_sign (a.num == 0) b ++ k_text b

abbrev pub IsDegreeText : Degree → ℕ → List ℕ → Type 0
IsDegreeText d den text = (a : Fraction) × (b : Fraction) × IsLowestOf d.a den a
    × IsLowestOf d.b den b × (text ≡ degree_text a b)
