-- What the program's symbols, terms and polynomials stand for.
--   symbol_of s == the symbol as plain data
--   term_of t, terms_of ts == a term, a list of terms
--   IsPoly p == p is a polynomial with its mass
use Rattle.std.specs.Prelude.{List, map}
use Rattle.plain_trees.specs.View.{plain}
use Rattle.symbol_polys.specs.Symbols.{PlainSymbol, parameter, variable, noise, tree, expectation}
use Rattle.symbol_polys.specs.Polynomials.{PlainTerm, IsPolynomial}
use Rattle.symbol_polys.specs.declared.symbols.Symbol.{Symbol}
use Rattle.symbol_polys.specs.declared.symbols.Symbol.TheVariants.{Parameter, Variable, Noise, Plain, Expect}
use Rattle.symbol_polys.specs.declared.poly.Term.{Term}
use Rattle.symbol_polys.specs.declared.poly.Poly.{Poly}

abbrev pub symbol_of : Symbol → PlainSymbol
symbol_of (Parameter i) = parameter i
symbol_of (Variable k m) = variable k.0 m.entries
symbol_of (Noise k) = noise k.0
symbol_of (Plain t) = tree (plain t)
symbol_of (Expect t) = expectation (plain t)

abbrev pub term_of : Term → PlainTerm
term_of t = record { coefficient = t.coefficient; symbols = map symbol_of t.symbols }

abbrev pub terms_of : List Term → List PlainTerm
terms_of ts = map term_of ts

abbrev pub IsPoly : Poly → Type 0
IsPoly p = IsPolynomial p.mass (terms_of p.terms)
