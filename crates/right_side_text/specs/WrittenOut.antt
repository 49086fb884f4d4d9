-- Terms written out in full: each behind its sign, with its coefficient as a fraction, and each
-- factor with its power. A text is told with what stands behind it.
--   further_before xs rest == the numbers xs, each behind a comma, then `)` and rest
--   derivative_before xs rest == `'(` and the numbers xs and `)`, then rest; nothing but rest where
--       there are no numbers
--   factor_before f rest, factors_before fs rest == a factor, and factors, each behind a `*`, then
--       rest
--   term_before t rest == the sign, the coefficient and the factors of t, then rest
--   terms_text ts == the text of the terms
--   IsWritableFactor dims f == a name, numbers below 2^63, a power that is not 0, and no entry of a
--       derivative or one for each dimension
--   IsWritable dims t == numbers below 2^63, a denominator that is not 0, and such factors
use Rattle.std.specs.Prelude.{ℕ, ◌≡◌, ◌<◌, ◌^◌, ◌⊎◌, true, List, [], ◌∷◌, ◌++◌, length, codes, decimal, if◌then◌else◌}
use Rattle.std.specs.List.{AllByRecursion}
use Rattle.degree_numbers.specs.Name.{is_name}
use Rattle.right_side_text.specs.declared.written.WrittenFactor.{WrittenFactor}
use Rattle.right_side_text.specs.declared.written.WrittenTerm.{WrittenTerm}

abbrev pub further_before : List ℕ → List ℕ → List ℕ
further_before [] rest = codes ")" ++ rest
further_before (x ∷ xs) rest = codes "," ++ (decimal x ++ further_before xs rest)

abbrev pub derivative_before : List ℕ → List ℕ → List ℕ
derivative_before [] rest = rest
derivative_before (x ∷ xs) rest = codes "'(" ++ (decimal x ++ further_before xs rest)

abbrev pub factor_before : WrittenFactor → List ℕ → List ℕ
factor_before f rest =
    f.name ++ derivative_before f.entries (codes "^" ++ (decimal f.power ++ rest))

abbrev pub factors_before : List WrittenFactor → List ℕ → List ℕ
factors_before [] rest = rest
factors_before (f ∷ fs) rest = codes "*" ++ factor_before f (factors_before fs rest)

abbrev pub term_before : WrittenTerm → List ℕ → List ℕ
term_before t rest =
    (if t.coefficient.negative then codes "-" else codes "+")
    ++ (decimal t.coefficient.num
    ++ (codes "/" ++ (decimal t.coefficient.den ++ factors_before t.factors rest)))

abbrev pub terms_text : List WrittenTerm → List ℕ
terms_text [] = []
terms_text (t ∷ ts) = term_before t (terms_text ts)

pub record IsWritableFactor (dims : ℕ) (f : WrittenFactor) : Type 0 where
  pub name : is_name f.name ≡ true
  pub entries : (length f.entries ≡ 0) ⊎ (length f.entries ≡ dims)
  pub small : AllByRecursion (λ x. x < 2 ^ 63) f.entries
  pub power_above : 0 < f.power
  pub power_small : f.power < 2 ^ 63

pub record IsWritable (dims : ℕ) (t : WrittenTerm) : Type 0 where
  pub num : t.coefficient.num < 2 ^ 63
  pub den_above : 0 < t.coefficient.den
  pub den_small : t.coefficient.den < 2 ^ 63
  pub factors : AllByRecursion (IsWritableFactor dims) t.factors
