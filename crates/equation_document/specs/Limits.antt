-- The limits of a file, in the order in which they are sought. A limit that is passed is seen by
-- the number that passes it.
--   limit which found == the fault of `which`, where a number was found
--   noise_number n, unknown_number u == the first number past 1,000,000 (`largest_number`) in the
--       degree of a noise; in the degree and the regularity of an unknown
--   file_number doc == the first written number past 1,000,000: in noises' degrees, then in degrees
--       and regularities, then in right sides
--   noise_size n, unknown_size u == the size of the first degree or regularity of theirs that is
--       past 20
--   file_size doc == the size of the first degree or regularity past 20, of its plain part before
--       that of k
--   with_fractions fs w == the fractions fs and behind them both fractions of w
--   noise_fractions fs n, unknown_fractions fs u == the same with those of a noise; of an unknown,
--       its degree before its regularity
--   degree_fractions doc == the fractions of all degrees and regularities
--   units_of doc == their least common denominator
--   with_coefficients fs ts == the fractions fs and behind them the coefficients of the terms ts
--   coefficients doc == all written coefficients
--   denominator_of doc == their least common denominator
--   right_terms ts == the number of terms of a right side, where it is past its limit
--   counts_of doc == the first limit that is passed on how much there is: directions and their
--       scaling, parameters, noises, unknowns
--   numbers_of doc == the first that is passed on numbers, on degrees and on their least common
--       denominator
--   rights_of doc == the first that is passed on right sides: their terms, factors and derivatives,
--       and the least common denominator of their coefficients
--   limits_of doc == the first limit that doc passes, in this order
use Rattle.std.specs.Prelude.{ℕ, List, [], ◌∷◌, ◌++◌, length, fold, Option, Some, None, Result, Ok, Err, ⊤}
use Rattle.std.specs.Option.{option_or}
use Rattle.degree_numbers.specs.DegreeText.{Written}
use Rattle.right_side_text.specs.declared.written.WrittenFraction.{WrittenFraction}
use Rattle.right_side_text.specs.declared.written.WrittenTerm.{WrittenTerm}
use Rattle.equation_document.specs.declared.document.Document.{Document}
use Rattle.equation_document.specs.declared.document.NoiseEntry.{NoiseEntry}
use Rattle.equation_document.specs.declared.document.UnknownEntry.{UnknownEntry}
use Rattle.equation_document.specs.declared.fault.Fault.{Fault}
use Rattle.equation_document.specs.declared.fault.Fault.TheVariants as faults
use Rattle.equation_document.specs.declared.fault.Which.{Which}
use Rattle.equation_document.specs.declared.fault.Which.TheVariants.{Dimensions, Scaling, Parameters, Noises, Unknowns, Number, Degree, Unit, Terms, Factors, Derivative, Denominator}
use Rattle.equation_document.specs.Bounds.{most_dimensions, largest_scaling, most_names, largest_denominator, most_terms}
use Rattle.equation_document.specs.DegreeEntry.{written, degree_size}
use Rattle.equation_document.specs.Denominator.{least_common}
use Rattle.equation_document.specs.FirstOf.{over, first_of}
use Rattle.equation_document.specs.Reading.{◌>>=◌}
use Rattle.equation_document.specs.Terms.{term_number, term_factors, term_derivative}

abbrev pub limit : Which → Option ℕ → Result ⊤ Fault
limit which None = Ok tt
limit which (Some n) = Err (faults.Limit which n)

abbrev pub noise_number : NoiseEntry → Option ℕ
noise_number n = n.degree.large

abbrev pub unknown_number : UnknownEntry → Option ℕ
unknown_number u = option_or u.degree.large u.regularity.large

abbrev pub file_number : Document → Option ℕ
file_number doc = option_or (first_of noise_number doc.noises)
    (option_or (first_of unknown_number doc.unknowns) (first_of (first_of term_number) doc.rights))

abbrev pub noise_size : NoiseEntry → Option ℕ
noise_size n = degree_size n.degree

abbrev pub unknown_size : UnknownEntry → Option ℕ
unknown_size u = option_or (degree_size u.degree) (degree_size u.regularity)

abbrev pub file_size : Document → Option ℕ
file_size doc = option_or (first_of noise_size doc.noises) (first_of unknown_size doc.unknowns)

abbrev pub with_fractions : List WrittenFraction → Written → List WrittenFraction
with_fractions fs w = (fs ++ written w.plain ∷ []) ++ written w.with_k ∷ []

abbrev pub noise_fractions : List WrittenFraction → NoiseEntry → List WrittenFraction
noise_fractions fs n = with_fractions fs n.degree

abbrev pub unknown_fractions : List WrittenFraction → UnknownEntry → List WrittenFraction
unknown_fractions fs u = with_fractions (with_fractions fs u.degree) u.regularity

abbrev pub degree_fractions : Document → List WrittenFraction
degree_fractions doc = fold unknown_fractions (fold noise_fractions [] doc.noises) doc.unknowns

unfoldable pub units_of : Document → ℕ
units_of doc = least_common (degree_fractions doc)

abbrev pub with_coefficients : List WrittenFraction → List WrittenTerm → List WrittenFraction
with_coefficients fs ts = fold (λ gs t. gs ++ t.coefficient ∷ []) fs ts

abbrev pub coefficients : Document → List WrittenFraction
coefficients doc = fold with_coefficients [] doc.rights

unfoldable pub denominator_of : Document → ℕ
denominator_of doc = least_common (coefficients doc)

abbrev pub right_terms : List WrittenTerm → Option ℕ
right_terms ts = over most_terms (length ts)

-- the limits on how much there is
unfoldable pub counts_of : Document → Result ⊤ Fault
counts_of doc = do
  dimensions ← limit Dimensions (over most_dimensions (length doc.scaling))
  scaling ← limit Scaling (first_of (over largest_scaling) doc.scaling)
  parameters ← limit Parameters (over most_names doc.names.first_noise)
  noises ← limit Noises (over most_names (length doc.noises))
  limit Unknowns (over most_names (length doc.unknowns))

-- the limits on numbers and degrees
unfoldable pub numbers_of : Document → Result ⊤ Fault
numbers_of doc = do
  number ← limit Number (file_number doc)
  degree ← limit Degree (file_size doc)
  limit Unit (over largest_denominator (units_of doc))

-- the limits on right sides
unfoldable pub rights_of : Document → Result ⊤ Fault
rights_of doc = do
  terms ← limit Terms (first_of right_terms doc.rights)
  factors ← limit Factors (first_of (first_of term_factors) doc.rights)
  derivative ← limit Derivative (first_of (first_of term_derivative) doc.rights)
  limit Denominator (over largest_denominator (denominator_of doc))

unfoldable pub limits_of : Document → Result ⊤ Fault
limits_of doc = do
  counts ← counts_of doc
  numbers ← numbers_of doc
  rights_of doc
