-- Texts of polynomials.
-- What contracts of public calls say:
--   AreParameters ty ps == ps are the names of the parameters of some file with the types ty: at
--       most 8, all different and different from those of the types
--   IsOver ty ps s == s is a symbol over the types ty and the parameters ps: its number is that of
--       a parameter, a kernel or a noise, its multiindex is one, and its tree is one over the types
--   IsTermOver ty ps t == so are the symbols of the term t, and their trees are canonical and
--       bounded
--   parameter_name ps i == the name of parameter i
--   symbol_text ty ps s == the name of a parameter or of a noise; of a variable the name of its
--       kernel, with `'` and its multiindex where that is not 0; `T` and the text of a tree; `E`
--       and that of the tree of an expectation
--   Power == a symbol and its exponent
--   symbol_onto s xs == the powers xs with one more symbol s in front
--   powers m == the monomial m as powers of symbols: neighbours that are equal stand for one symbol
--       with their number as exponent
--   power_text ty ps x == the symbol, and `^` and the exponent where that is above 1
--   coefficient_factors ds m == the digits ds, where they are not `1` or the monomial m is empty
--   factors ty ps ds m == the texts of the factors of a number, with the digits ds, times the
--       monomial m: first the digits, as far as they are written, then the powers
--   body_text ty ps t == the factors of a term without its sign, joined by `*`
--   is_negative z == z is below 0
--   signed_texts ty ps ts == the terms, each behind its sign
--   poly_text ty ps ts == `0`, or the terms, each with its sign; a first sign `+` is left out
-- Working notions of the code and of proofs:
--   remaining is_first fs == the factors that are left, joined by `*`, where the first one stands
--       first; else each after a `*`
use Rattle.std.specs.Prelude.{◌≡◌, ℕ, ◌+◌, ◌≤◌, ◌<◌, ◌==◌, Bool, true, false, if◌then◌else◌, List, [], ◌∷◌, ◌++◌, length, map, slice_get, unwrap_or, Some, ℤ, pos, negsuc, unsigned_abs}
use Rattle.std.specs.List.{AllByRecursion}
use Rattle.std.specs.Ordering.{is_eq}
use Rattle.std.specs.Str.{bytes_eq}
use Rattle.degree_numbers.specs.declared.types.Types.{Types}
use Rattle.degree_numbers.specs.declared.types.Kind.TheVariants.{Noise, Kernel}
use Rattle.degree_numbers.specs.EdgeText.{edge_type_text}
use Rattle.degree_numbers.specs.Types.{kind_of, name_of, AreNames}
use Rattle.plain_trees.specs.Degree.{HasTypes, IsMultiIndex}
use Rattle.plain_trees.specs.Text.{joined, starred, tree_text}
use Rattle.numerals.specs.Numerals.{numeral}
use Rattle.symbol_polys.specs.Symbols.{PlainSymbol, parameter, variable, noise, tree, expectation, symbol_order, HasBoundedTree}
use Rattle.symbol_polys.specs.Polynomials.{PlainTerm}

pub record AreParameters (ty : Types) (ps : List (List ℕ)) : Type 0 where
  pub few : length ps ≤ 8
  pub names : AreNames (ps ++ map (λ e. e.name) ty.list)

abbrev pub IsOver : Types → List (List ℕ) → PlainSymbol → Type 0
IsOver ty ps (parameter i) = i < length ps
IsOver ty ps (variable k m) = (kind_of ty k ≡ Some Kernel) × IsMultiIndex ty.dims m
IsOver ty ps (noise k) = kind_of ty k ≡ Some Noise
IsOver ty ps (tree t) = HasTypes ty t
IsOver ty ps (expectation t) = HasTypes ty t

pub record IsTermOver (ty : Types) (ps : List (List ℕ)) (t : PlainTerm) : Type 0 where
  pub over : AllByRecursion (IsOver ty ps) t.symbols
  pub trees : AllByRecursion HasBoundedTree t.symbols

abbrev pub parameter_name : List (List ℕ) → ℕ → List ℕ
parameter_name ps i = unwrap_or (slice_get ps i) []

abbrev pub symbol_text : Types → List (List ℕ) → PlainSymbol → List ℕ
symbol_text ty ps (parameter i) = parameter_name ps i
symbol_text ty ps (variable k m) = edge_type_text ty k m
symbol_text ty ps (noise k) = name_of ty k
symbol_text ty ps (tree t) = 84 ∷ tree_text ty t
symbol_text ty ps (expectation t) = 69 ∷ tree_text ty t

pub record Power : Type 0 where
  pub symbol : PlainSymbol
  pub exponent : ℕ

-- one more symbol in front
abbrev pub symbol_onto : PlainSymbol → List Power → List Power
symbol_onto s [] = record { symbol = s; exponent = 1 } ∷ []
symbol_onto s (x ∷ xs) = if is_eq (symbol_order s x.symbol) then
    record { symbol = s; exponent = 1 + x.exponent } ∷ xs else record { symbol = s; exponent = 1 }
    ∷ x ∷ xs

abbrev pub powers : List PlainSymbol → List Power
powers [] = []
powers (s ∷ m) = symbol_onto s (powers m)

abbrev pub power_text : Types → List (List ℕ) → Power → List ℕ
power_text ty ps x = symbol_text ty ps x.symbol
    ++ (if x.exponent == 1 then [] else 94 ∷ numeral x.exponent)

abbrev pub coefficient_factors : List ℕ → List PlainSymbol → List (List ℕ)
coefficient_factors ds [] = ds ∷ []
coefficient_factors ds (s ∷ m) = if bytes_eq ds (49 ∷ []) then [] else ds ∷ []

abbrev pub factors : Types → List (List ℕ) → List ℕ → List PlainSymbol → List (List ℕ)
factors ty ps ds m = coefficient_factors ds m ++ map (power_text ty ps) (powers m)

-- the factors that are left, each after a `*` where another one stands before them
abbrev pub remaining : Bool → List (List ℕ) → List ℕ
remaining true fs = joined fs
remaining false fs = starred fs

abbrev pub body_text : Types → List (List ℕ) → PlainTerm → List ℕ
body_text ty ps t = joined (factors ty ps (numeral (unsigned_abs t.coefficient)) t.symbols)

abbrev pub is_negative : ℤ → Bool
is_negative (pos n) = false
is_negative (negsuc n) = true

abbrev pub signed_texts : Types → List (List ℕ) → List PlainTerm → List ℕ
signed_texts ty ps [] = []
signed_texts ty ps (t ∷ ts) =
    (if is_negative t.coefficient then 45 else 43) ∷ (body_text ty ps t ++ signed_texts ty ps ts)

abbrev pub poly_text : Types → List (List ℕ) → List PlainTerm → List ℕ
poly_text ty ps [] = 48 ∷ []
poly_text ty ps (t ∷ ts) = (if is_negative t.coefficient then 45 ∷ [] else [])
    ++ (body_text ty ps t ++ signed_texts ty ps ts)
