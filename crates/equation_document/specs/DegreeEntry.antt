-- Degrees as a file writes them.
--   coded_fraction, coded_written == codes of fractions, and of degrees as they are written, which
--       store them as the tuples of their fields
--   a degree entry is what a degree text writes: a plain fraction, that of `k`, and the first
--       number past 1,000,000 (`largest_number`)
--   written f == the fraction f as a written fraction
--   fractions_of w == both fractions of w
--   is_standard w == w has no k part
--   is_positive w == w has no k part and is above 0
--   rounded_up f == the size of the fraction f, rounded up
--   degree_size w == the size of the plain part, else of the coefficient of k, rounded up, where it
--       passes 20
use Rattle.std.specs.Prelude.{ℕ, ◌+◌, ◌-◌, ◌/◌, ◌∷◌, [], Bool, not, ◌&&◌, List}
use Rattle.std.specs.Coded.{Coded, code_by, coded×, coded_ℕ, coded_bool, coded_option}
use Rattle.std.specs.Option.{option_or}
use Rattle.std.specs.declared.option.Option.{Option}
use Rattle.std.proofs.Common.{refl}
use Rattle.degree_numbers.specs.DegreeText.{Written}
use Rattle.degree_numbers.specs.Fraction.{Fraction}
use Rattle.degree_numbers.specs.Written.{has_k, above_zero}
use Rattle.right_side_text.specs.declared.written.WrittenFraction.{WrittenFraction}
use Rattle.equation_document.specs.Bounds.{largest_degree}
use Rattle.equation_document.specs.FirstOf.{over}

abbrev pub coded_fraction : Coded Fraction
coded_fraction = code_by (Bool × (ℕ × ℕ)) (coded× coded_bool (coded× coded_ℕ coded_ℕ))
    (λ f. (f.negative, (f.num, f.den))) (λ p. record { negative = p.0; num = p.1.0; den = p.1.1 })
    (λ _. refl)

abbrev pub coded_written : Coded Written
coded_written = code_by (Fraction × (Fraction × Option ℕ))
    (coded× coded_fraction (coded× coded_fraction (coded_option coded_ℕ)))
    (λ w. (w.plain, (w.with_k, w.large)))
    (λ p. record { plain = p.0; with_k = p.1.0; large = p.1.1 }) (λ _. refl)

abbrev pub written : Fraction → WrittenFraction
written f = record { negative = f.negative; num = f.num; den = f.den }

abbrev pub fractions_of : Written → List WrittenFraction
fractions_of w = written w.plain ∷ written w.with_k ∷ []

abbrev pub is_standard : Written → Bool
is_standard w = not (has_k w)

abbrev pub is_positive : Written → Bool
is_positive w = is_standard w && above_zero w

abbrev pub rounded_up : Fraction → ℕ
rounded_up f = (f.num + (f.den - 1)) / f.den

abbrev pub degree_size : Written → Option ℕ
degree_size w =
    option_or (over largest_degree (rounded_up w.plain)) (over largest_degree (rounded_up w.with_k))
