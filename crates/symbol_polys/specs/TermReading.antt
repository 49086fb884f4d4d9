-- Terms as they are read.
-- Working notions of the code and of proofs, which no contract of a public call names:
--   split_parts parts == of the pieces of a power: the text of the symbol and the exponent, 1 where
--       it is alone
--   split_power text == the text of the symbol and the exponent of a power
--   IsPowerOf ty ps x == a power of a symbol over the types and the parameters, its exponent above
--       0
--   expanded xs == the monomial of the powers xs
--   IsTermOf ty ps t == a term of such symbols, in order, its coefficient not 0
--   split_sign text == whether `-` stands at the front, and what stands behind the sign
--   behind_empty ps == the pieces ps without the first one, where that is empty
--   begins_with_digit text == text begins with a digit
--   coefficient_digits fs == the first of the factors fs, where it begins with a digit, else `1`
--   power_factors fs == the other factors
--   signed is_negative n == the number with this sign and this absolute value
--   written_of w == the term that is written
--   IsWritten ty ps w == its digits are those of a number above 0, and its symbols are such
--       symbols, in order
use Rattle.std.specs.Prelude.{◌≡◌, ℕ, ◌<◌, ◌==◌, Bool, true, false, if◌then◌else◌, List, [], ◌∷◌, map, Option, Some, None, ℤ, pos, neg_ℤ, unsigned_abs, replicate}
use Rattle.std.specs.Char.{is_ascii_digit}
use Rattle.std.specs.List.{flat_map, AllByRecursion}
use Rattle.std.specs.List.Sorted.{IsSorted}
use Rattle.std.specs.Str.Parse.{digits_value}
use Rattle.degree_numbers.specs.declared.types.Types.{Types}
use Rattle.numerals.specs.Numerals.{is_numeral}
use Rattle.symbol_polys.specs.Pieces.{pieces, unmarked}
use Rattle.symbol_polys.specs.Polynomials.{PlainTerm}
use Rattle.symbol_polys.specs.Reading.{IsSymbolOf}
use Rattle.symbol_polys.specs.Symbols.{PlainSymbol, symbol_order}
use Rattle.symbol_polys.specs.Text.{Power}
use Rattle.symbol_polys.specs.View.{symbol_of}
use Rattle.symbol_polys.specs.declared.written.WrittenTerm.{WrittenTerm}

abbrev pub split_parts : List (List ℕ) → Option (List ℕ × ℕ)
split_parts [] = None
split_parts (base ∷ []) = Some (base, 1)
split_parts (base ∷ exponent ∷ []) = if is_numeral (unmarked 94 exponent) then
    Some (base, digits_value 10 (unmarked 94 exponent)) else None
split_parts (base ∷ exponent ∷ part ∷ parts) = None

abbrev pub split_power : List ℕ → Option (List ℕ × ℕ)
split_power text = split_parts (pieces (94 ∷ []) text)

abbrev pub IsPowerOf : Types → List (List ℕ) → Power → Type 0
IsPowerOf ty ps x = (0 < x.exponent) × IsSymbolOf ty ps x.symbol

abbrev pub expanded : List Power → List PlainSymbol
expanded xs = flat_map (λ x. replicate x.exponent x.symbol) xs

pub record IsTermOf (ty : Types) (ps : List (List ℕ)) (t : PlainTerm) : Type 0 where
  pub above : 0 < unsigned_abs t.coefficient
  pub symbols : AllByRecursion (IsSymbolOf ty ps) t.symbols
  pub ascending : IsSorted symbol_order t.symbols

abbrev pub split_sign : List ℕ → Bool × List ℕ
split_sign [] = (false, [])
split_sign (c ∷ cs) =
    if c == 45 then (true, cs) else if c == 43 then (false, cs) else (false, c ∷ cs)

abbrev pub behind_empty : List (List ℕ) → List (List ℕ)
behind_empty [] = []
behind_empty ([] ∷ ps) = ps
behind_empty ((c ∷ cs) ∷ ps) = (c ∷ cs) ∷ ps

abbrev pub begins_with_digit : List ℕ → Bool
begins_with_digit [] = false
begins_with_digit (c ∷ cs) = is_ascii_digit c

abbrev pub coefficient_digits : List (List ℕ) → List ℕ
coefficient_digits [] = 49 ∷ []
coefficient_digits (f ∷ fs) = if begins_with_digit f then f else 49 ∷ []

abbrev pub power_factors : List (List ℕ) → List (List ℕ)
power_factors [] = []
power_factors (f ∷ fs) = if begins_with_digit f then fs else f ∷ fs

abbrev pub signed : Bool → ℕ → ℤ
signed true n = neg_ℤ (pos n)
signed false n = pos n

abbrev pub written_of : WrittenTerm → PlainTerm
written_of w = record {
  coefficient = signed w.is_negative (digits_value 10 w.digits.now);
  symbols = map symbol_of w.symbols;
}

pub record IsWritten (ty : Types) (ps : List (List ℕ)) (w : WrittenTerm) : Type 0 where
  pub digits : is_numeral w.digits.now ≡ true
  pub symbols : AllByRecursion (IsSymbolOf ty ps) (map symbol_of w.symbols)
  pub ascending : IsSorted symbol_order (map symbol_of w.symbols)
