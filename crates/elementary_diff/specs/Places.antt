-- The terms that a total derivative makes of one.
-- Working notions of the code and of proofs, which no contract of a public call names:
--   with_coefficient c ms == the monomials with the coefficient c
--   own_places d s m == the monomials that come of s times m where s itself has one more derivative
--       in direction d
--   times_symbol s t == the term t times the symbol s
use Rattle.std.specs.Prelude.{ℕ, ℤ, List, map}
use Rattle.symbol_polys.specs.Symbols.{PlainSymbol}
use Rattle.symbol_polys.specs.Polynomials.{PlainTerm}
use Rattle.symbol_polys.specs.Products.{with_symbol}
use Rattle.elementary_diff.specs.Differentials.{further_symbol}

abbrev pub with_coefficient : ℤ → List (List PlainSymbol) → List PlainTerm
with_coefficient c ms = map (λ m. record { coefficient = c; symbols = m }) ms

abbrev pub own_places : ℕ → PlainSymbol → List PlainSymbol → List (List PlainSymbol)
own_places d s m = map (λ r. with_symbol r m) (further_symbol d s)

abbrev pub times_symbol : PlainSymbol → PlainTerm → PlainTerm
times_symbol s t = record { coefficient = t.coefficient; symbols = with_symbol s t.symbols }
