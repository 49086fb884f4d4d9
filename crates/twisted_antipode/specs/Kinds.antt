-- Over which trees the symbols of values are.
--   IsTyped ty s == the tree in the symbol s, where there is one, is over the types ty
--   AreTyped ty ts == so is that of each symbol of the terms ts
--   IsTreeOver ty s == s is the symbol of a tree over the types ty
--   AreOverTrees ty ts == all symbols of the terms ts are so
--   AreHeldTyped ty hs == the symbols of all values of hs are over trees of the types ty
use Rattle.std.specs.Prelude.{List, ⊤}
use Rattle.std.specs.List.{AllByRecursion}
use Rattle.degree_numbers.specs.declared.types.Types.{Types}
use Rattle.plain_trees.specs.Degree.{HasTypes}
use Rattle.symbol_polys.specs.Symbols.{PlainSymbol, parameter, variable, noise, tree, expectation}
use Rattle.symbol_polys.specs.Polynomials.{PlainTerm}
use Rattle.twisted_antipode.specs.Held.{Held}

abbrev pub IsTyped : Types → PlainSymbol → Type 0
IsTyped ty (parameter i) = ⊤
IsTyped ty (variable k m) = ⊤
IsTyped ty (noise k) = ⊤
IsTyped ty (tree t) = HasTypes ty t
IsTyped ty (expectation t) = HasTypes ty t

abbrev pub AreTyped : Types → List PlainTerm → Type 0
AreTyped ty ts = AllByRecursion (λ t. AllByRecursion (IsTyped ty) t.symbols) ts

abbrev pub IsTreeOver : Types → PlainSymbol → Type 0
IsTreeOver ty (parameter i) = ⊥
IsTreeOver ty (variable k m) = ⊥
IsTreeOver ty (noise k) = ⊥
IsTreeOver ty (tree t) = HasTypes ty t
IsTreeOver ty (expectation t) = ⊥

abbrev pub AreOverTrees : Types → List PlainTerm → Type 0
AreOverTrees ty ts = AllByRecursion (λ t. AllByRecursion (IsTreeOver ty) t.symbols) ts

abbrev pub AreHeldTyped : Types → List Held → Type 0
AreHeldTyped ty hs = AllByRecursion (λ h. AreTyped ty h.1.terms) hs
