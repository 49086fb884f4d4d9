-- Derivatives of polynomials by a symbol.
--   power_of s m == the power of the symbol s in the monomial m
--   without s m == the monomial with one s less, where s stands in it
--   derivative s t == the derivative of a term by s: its coefficient times the power of s, and the
--       monomial with one s less
--   derivatives s ts == the derivatives of the terms
use Rattle.std.specs.Prelude.{ℕ, cond, List, [], ◌∷◌, map, pos, ◌*ℤ◌}
use Rattle.std.specs.Ordering.{is_eq}
use Rattle.ordered_lists.specs.Subs.{count_of}
use Rattle.symbol_polys.specs.Symbols.{PlainSymbol, symbol_order}
use Rattle.symbol_polys.specs.Polynomials.{PlainTerm}

abbrev pub power_of : PlainSymbol → List PlainSymbol → ℕ
power_of s m = count_of symbol_order s m

abbrev pub without : PlainSymbol → List PlainSymbol → List PlainSymbol
without s [] = []
without s (t ∷ m) = cond (is_eq (symbol_order s t)) m (t ∷ without s m)

abbrev pub derivative : PlainSymbol → PlainTerm → PlainTerm
derivative s t = record {
  coefficient = pos (power_of s t.symbols) *ℤ t.coefficient;
  symbols = without s t.symbols;
}

abbrev pub derivatives : PlainSymbol → List PlainTerm → List PlainTerm
derivatives s ts = map (derivative s) ts
