-- The text of a stored value, and how it is read.
-- What contracts of public calls say:
--   value_text ty mass ts == the mass, a space, and the polynomial
--   IsInRange mass == the mass is at most 2^127-1
--   IsReadValue r mass ts == r answers the polynomial with these terms and this mass, unless memory
--       is wanted
--   IsNoValueText ty text == text is not the one of a value
-- Working notions of the code and of proofs:
--   IsReadPoly r ts == r answers the polynomial with these terms, unless memory is wanted
--   behind_space digits text == the digits, and what stands behind the space at the front of text,
--       where there is one
--   value_parts text == the digits at the front of text and what stands behind the space after
--       them, where there is one
--   is_expectation s == the symbol s is the expectation of a tree
--   are_expectations ts == all symbols of the terms are expectations
use Rattle.std.specs.Prelude.{◌≡◌, ◌<◌, ◌==◌, ℕ, ℤ, Bool, true, false, if◌then◌else◌, List, [], ◌∷◌, ◌++◌, codes, take, drop, Option, Some, None, unsigned_abs, MatchResult, Result}
use Rattle.std.specs.Char.{is_ascii_digit}
use Rattle.std.specs.List.{list_all, prefix_len}
use Rattle.degree_numbers.specs.declared.types.Types.{Types}
use Rattle.exact_sums.specs.Saturating.{overflow}
use Rattle.numerals.specs.Numerals.{numeral}
use Rattle.symbol_polys.specs.declared.poly.Poly.{Poly}
use Rattle.symbol_polys.specs.Polynomials.{PlainTerm}
use Rattle.symbol_polys.specs.Symbols.{PlainSymbol, parameter, variable, noise, tree, expectation}
use Rattle.symbol_polys.specs.Text.{poly_text}
use Rattle.symbol_polys.specs.View.{terms_of}
use Rattle.counterterm_report.specs.declared.error.ReportError.{ReportError}
use Rattle.counterterm_report.specs.declared.error.ReportError.TheVariants.{Memory}
use Rattle.counterterm_report.specs.Values.{IsValue}

abbrev pub value_text : Types → ℤ → List PlainTerm → List ℕ
value_text ty mass ts = numeral (unsigned_abs mass) ++ codes " " ++ poly_text ty [] ts

abbrev pub IsInRange : ℤ → Type 0
IsInRange mass = unsigned_abs mass < overflow

abbrev pub IsReadValue : Result Poly ReportError → ℤ → List PlainTerm → Type 0
IsReadValue r mass ts =
    MatchResult r (λ p. (p.mass ≡ mass) × (terms_of p.terms ≡ ts)) (λ e. e ≡ Memory)

abbrev pub IsReadPoly : Result Poly ReportError → List PlainTerm → Type 0
IsReadPoly r ts = MatchResult r (λ p. terms_of p.terms ≡ ts) (λ e. e ≡ Memory)

abbrev pub IsNoValueText : Types → List ℕ → Type 0
IsNoValueText ty text = (mass : ℤ) (ts : List PlainTerm) → IsValue ty mass ts → IsInRange mass →
    value_text ty mass ts ≡ text → ⊥

-- behind the digits
abbrev pub behind_space : List ℕ → List ℕ → Option (List ℕ × List ℕ)
behind_space digits [] = None
behind_space digits (c ∷ rest) = if c == 32 then Some (digits, rest) else None

abbrev pub value_parts : List ℕ → Option (List ℕ × List ℕ)
value_parts text = behind_space (take (prefix_len is_ascii_digit text) text)
    (drop (prefix_len is_ascii_digit text) text)

abbrev pub is_expectation : PlainSymbol → Bool
is_expectation (parameter i) = false
is_expectation (variable k m) = false
is_expectation (noise k) = false
is_expectation (tree t) = false
is_expectation (expectation t) = true

abbrev pub are_expectations : List PlainTerm → Bool
are_expectations ts = list_all (λ t. list_all is_expectation t.symbols) ts
