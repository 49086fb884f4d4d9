-- The values of trees can be printed: their symbols are trees over the types, and expectations of
-- these.
use Rattle.std.proofs.Common.{ℕ, List, [], ◌∷◌}
use Rattle.std.specs.List.{AllByRecursion}
use Rattle.degree_numbers.specs.declared.types.Types.{Types}
use Rattle.symbol_polys.specs.Symbols.{PlainSymbol, parameter, variable, noise, tree, expectation, IsMonomial}
use Rattle.symbol_polys.specs.Polynomials.{PlainTerm, monomials}
use Rattle.symbol_polys.specs.Text.{IsOver, IsTermOver}
use Rattle.twisted_antipode.specs.Held.{IsExpectation, AreOverExpectations}
use Rattle.twisted_antipode.specs.Kinds.{IsTyped, AreTyped, IsTreeOver, AreOverTrees}

module _ (ty : Types) (ps : List (List ℕ)) where
  tree_symbol : (s : PlainSymbol) → IsTreeOver ty s → IsOver ty ps s
  tree_symbol (parameter i) h = absurd h
  tree_symbol (variable k m) h = absurd h
  tree_symbol (noise k) h = absurd h
  tree_symbol (tree t) h = h
  tree_symbol (expectation t) h = absurd h

  expected_symbol : (s : PlainSymbol) → IsTyped ty s → IsExpectation s → IsOver ty ps s
  expected_symbol (parameter i) h k = absurd k
  expected_symbol (variable l m) h k = absurd k
  expected_symbol (noise l) h k = absurd k
  expected_symbol (tree t) h k = h
  expected_symbol (expectation t) h k = h

  tree_monomial : (m : List PlainSymbol) → AllByRecursion (IsTreeOver ty) m → AllByRecursion (IsOver ty ps) m
  tree_monomial [] h = tt
  tree_monomial (s ∷ m) h = (tree_symbol s h.0, tree_monomial m h.1)

  expected_monomial : (m : List PlainSymbol) → AllByRecursion (IsTyped ty) m → AllByRecursion IsExpectation m → AllByRecursion (IsOver ty ps) m
  expected_monomial [] h k = tt
  expected_monomial (s ∷ m) h k = (expected_symbol s h.0 k.0, expected_monomial m h.1 k.1)

  pub over_trees : (ts : List PlainTerm) → AllByRecursion IsMonomial (monomials ts) → AreOverTrees ty ts → AllByRecursion (IsTermOver ty ps) ts
  over_trees [] m h = tt
  over_trees (t ∷ ts) m h = (record { over = tree_monomial t.symbols h.0; trees = m.0.trees }, over_trees ts m.1 h.1)

  pub over_expectations : (ts : List PlainTerm) → AllByRecursion IsMonomial (monomials ts) →
      AreTyped ty ts → AreOverExpectations ts → AllByRecursion (IsTermOver ty ps) ts
  over_expectations [] m h k = tt
  over_expectations (t ∷ ts) m h k = (record { over = expected_monomial t.symbols h.0 k.0; trees = m.0.trees }, over_expectations ts m.1 h.1 k.1)
