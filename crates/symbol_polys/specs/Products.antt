-- Products of monomials, terms and polynomials.
--   with_symbol s m == the monomial m times the symbol s, which is put before the first symbol that
--       is not less
--   monomial_product m n == the product of two monomials: the symbols of both, in order
--   term_product t u == the product of two terms
--   products_with t us, products ts us == the products of a term, of each term of ts, with each
--       term of us
use Rattle.std.specs.Prelude.{cond, List, [], ◌∷◌, ◌++◌, map, ◌*ℤ◌}
use Rattle.std.specs.Ordering.{is_gt}
use Rattle.symbol_polys.specs.Symbols.{PlainSymbol, symbol_order}
use Rattle.symbol_polys.specs.Polynomials.{PlainTerm}

abbrev pub with_symbol : PlainSymbol → List PlainSymbol → List PlainSymbol
with_symbol s [] = s ∷ []
with_symbol s (t ∷ m) = cond (is_gt (symbol_order s t)) (t ∷ with_symbol s m) (s ∷ t ∷ m)

abbrev pub monomial_product : List PlainSymbol → List PlainSymbol → List PlainSymbol
monomial_product [] n = n
monomial_product (s ∷ m) n = with_symbol s (monomial_product m n)

abbrev pub term_product : PlainTerm → PlainTerm → PlainTerm
term_product t u = record {
  coefficient = t.coefficient *ℤ u.coefficient;
  symbols = monomial_product t.symbols u.symbols;
}

abbrev pub products_with : PlainTerm → List PlainTerm → List PlainTerm
products_with t us = map (term_product t) us

abbrev pub products : List PlainTerm → List PlainTerm → List PlainTerm
products [] us = []
products (t ∷ ts) us = products_with t us ++ products ts us
