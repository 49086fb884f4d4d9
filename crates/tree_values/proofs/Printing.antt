-- The polynomial of a constant can be printed: its symbols are expectations of trees over the types.
use Rattle.std.proofs.Common.{ℕ, ℤ, List, [], ◌∷◌}
use Rattle.std.specs.List.{AllByRecursion}
use Rattle.degree_numbers.specs.declared.types.Types.{Types}
use Rattle.symbol_polys.specs.Symbols.{PlainSymbol, parameter, variable, noise, tree, expectation, IsMonomial}
use Rattle.symbol_polys.specs.Polynomials.{PlainTerm, monomials, IsPolynomial}
use Rattle.symbol_polys.specs.Text.{IsOver, IsTermOver}
use Rattle.twisted_antipode.specs.Held.{IsExpectation, AreOverExpectations}
use Rattle.twisted_antipode.specs.Kinds.{IsTyped, AreTyped}

module _ (ty : Types) (ps : List (List ℕ)) where
  over_symbol : (s : PlainSymbol) → IsExpectation s → IsTyped ty s → IsOver ty ps s
  over_symbol (parameter i) e h = absurd e
  over_symbol (variable k m) e h = absurd e
  over_symbol (noise k) e h = absurd e
  over_symbol (tree t) e h = absurd e
  over_symbol (expectation t) e h = h

  over_symbols : (ss : List PlainSymbol) → AllByRecursion IsExpectation ss → AllByRecursion (IsTyped ty) ss → AllByRecursion (IsOver ty ps) ss
  over_symbols [] e h = tt
  over_symbols (s ∷ ss) e h = (over_symbol s e.0 h.0, over_symbols ss e.1 h.1)

  over_terms : (ts : List PlainTerm) → AreOverExpectations ts → AreTyped ty ts → AllByRecursion IsMonomial (monomials ts) → AllByRecursion (IsTermOver ty ps) ts
  over_terms [] e h k = tt
  over_terms (t ∷ ts) e h k = (record { over = over_symbols t.symbols e.0 h.0; trees = k.0.trees }, over_terms ts e.1 h.1 k.1)

  pub poly_printed : (mass : ℤ) (ts : List PlainTerm) → IsPolynomial mass ts → AreOverExpectations ts → AreTyped ty ts → AllByRecursion (IsTermOver ty ps) ts
  poly_printed mass ts p e h = over_terms ts e h p.each
