-- What is measured of the terms of a right side. A limit that is passed is seen by the number that
-- passes it.
--   factor_number f == the first number of the factor past 1,000,000 (`largest_number`), its
--       entries before its power
--   term_number t == that of a term, its coefficient before its factors
--   power_of t == the number of factors of t, counted with their powers
--   term_factors t == that number, where it passes 24
--   factor_derivative f == the first entry of the derivative of the factor past 8
--   term_derivative t == the first entry of a derivative of t past 8
use Rattle.std.specs.Prelude.{ℕ, ◌+◌, Option, min, fold}
use Rattle.std.specs.Option.{option_or}
use Rattle.text_parts.specs.Reading.{most}
use Rattle.right_side_text.specs.declared.written.WrittenFactor.{WrittenFactor}
use Rattle.right_side_text.specs.declared.written.WrittenTerm.{WrittenTerm}
use Rattle.equation_document.specs.Bounds.{largest_number, most_factors, largest_entry}
use Rattle.equation_document.specs.FirstOf.{over, first_of}

abbrev pub factor_number : WrittenFactor → Option ℕ
factor_number f = option_or (first_of (over largest_number) f.entries) (over largest_number f.power)

abbrev pub term_number : WrittenTerm → Option ℕ
term_number t = option_or (over largest_number t.coefficient.num)
    (option_or (over largest_number t.coefficient.den) (first_of factor_number t.factors))

abbrev pub power_of : WrittenTerm → ℕ
power_of t = fold (λ n f. n + f.power) 0 t.factors

abbrev pub term_factors : WrittenTerm → Option ℕ
term_factors t = over most_factors (min (power_of t) most)

abbrev pub factor_derivative : WrittenFactor → Option ℕ
factor_derivative f = first_of (over largest_entry) f.entries

abbrev pub term_derivative : WrittenTerm → Option ℕ
term_derivative t = first_of factor_derivative t.factors
