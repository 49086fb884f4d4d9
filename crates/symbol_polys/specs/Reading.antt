-- Reading the text of a polynomial.
-- What contracts of public calls say:
--   IsSymbolOf ty ps s == s is a symbol over the types and parameters that a program can hold: its
--       tree is canonical and bounded, the entries of its multiindex are below 2^32
--   IsTextOf ty ps text ts == ts are the terms of a polynomial with such symbols and with
--       coefficients of any size, and text is its text
--   IsTextRefused ty ps text e == why a text is refused by e
--   IsReadAs r ts == r answers a polynomial with the terms ts, or refuses them because their
--       absolute coefficients sum up to more than 2^127-1; but for want of memory
-- Working notions of the code and of proofs:
--   Answers of r x == r answers what stands for x, unless memory is wanted
use Rattle.std.specs.Prelude.{◌≡◌, ℕ, ◌<◌, ◌≤◌, ◌^◌, List, ⊤, pos, MatchResult}
use Rattle.std.specs.List.{AllByRecursion}
use Rattle.std.specs.declared.result.Result.{Result}
use Rattle.std.specs.declared.result.Result.TheVariants.{Ok, Err}
use Rattle.degree_numbers.specs.declared.types.Types.{Types}
use Rattle.exact_sums.specs.Saturating.{overflow}
use Rattle.symbol_polys.specs.Symbols.{PlainSymbol, multiindex_in, HasBoundedTree}
use Rattle.symbol_polys.specs.Polynomials.{PlainTerm, size_of, IsPolynomial}
use Rattle.symbol_polys.specs.Text.{IsOver, poly_text}
use Rattle.symbol_polys.specs.View.{terms_of}
use Rattle.symbol_polys.specs.declared.poly.Poly.{Poly}
use Rattle.symbol_polys.specs.declared.error.PolyError.{PolyError}
use Rattle.symbol_polys.specs.declared.error.PolyError.TheVariants.{CoefficientTooLarge, PolyText, Memory}

pub record IsSymbolOf (ty : Types) (ps : List (List ℕ)) (s : PlainSymbol) : Type 0 where
  pub over : IsOver ty ps s
  pub bounded : HasBoundedTree s
  pub entries : AllByRecursion (λ x. x < 2 ^ 32) (multiindex_in s)

pub record IsTextOf (ty : Types) (ps : List (List ℕ)) (text : List ℕ)
    (ts : List PlainTerm) : Type 0 where
  pub polynomial : IsPolynomial (pos (size_of ts)) ts
  pub symbols : AllByRecursion (λ t. AllByRecursion (IsSymbolOf ty ps) t.symbols) ts
  pub printed : poly_text ty ps ts ≡ text

abbrev pub Answers : {A B : Type 0} → (A → B) → Result A PolyError → B → Type 0
Answers of r x = MatchResult r (λ a. of a ≡ x) (λ e. e ≡ Memory)

abbrev pub IsTextRefused : Types → List (List ℕ) → List ℕ → PolyError → Type 0
IsTextRefused ty ps text CoefficientTooLarge = (ts : List PlainTerm) × IsTextOf ty ps text ts
    × (overflow ≤ size_of ts)
IsTextRefused ty ps text PolyText = (ts : List PlainTerm) → IsTextOf ty ps text ts → ⊥
IsTextRefused ty ps text Memory = ⊤

abbrev pub IsReadAs : Result Poly PolyError → List PlainTerm → Type 0
IsReadAs (Ok p) ts = terms_of p.terms ≡ ts
IsReadAs (Err CoefficientTooLarge) ts = overflow ≤ size_of ts
IsReadAs (Err PolyText) ts = ⊥
IsReadAs (Err Memory) ts = ⊤
