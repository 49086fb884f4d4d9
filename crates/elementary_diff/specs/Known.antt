-- Symbols of an equation.
-- Working notions of the code and of proofs, which no contract of a public call names:
--   IsKnown ty ps s == s is one of the parameters ps, a noise, or a variable whose derivative is in
--       the directions of the scaling
--   AreKnown ty ps ts == the symbols of the terms are
--   IsFiveLong s == where s is a variable, its multiindex has five entries
--   AreFiveLong ts == so it is with the symbols of the terms
use Rattle.std.specs.Prelude.{◌≡◌, ℕ, ◌≤◌, ◌<◌, List, length, slice_index, Some, ⊤}
use Rattle.std.specs.List.{AllByRecursion}
use Rattle.degree_numbers.specs.declared.Types.{Types}
use Rattle.degree_numbers.specs.declared.Kind.TheVariants.{Noise, Kernel}
use Rattle.degree_numbers.specs.Types.{kind_of}
use Rattle.symbol_polys.specs.Symbols.{PlainSymbol, parameter, variable, noise}
use Rattle.symbol_polys.specs.Polynomials.{PlainTerm}

abbrev pub IsKnown : Types → List (List ℕ) → PlainSymbol → Type 0
IsKnown ty ps (parameter i) = i < length ps
IsKnown ty ps (variable k m) =
    (kind_of ty k ≡ Some Kernel) × ((i : ℕ) → ty.dims ≤ i → slice_index m i ≡ 0)
IsKnown ty ps (noise k) = kind_of ty k ≡ Some Noise
IsKnown ty ps (Rattle.symbol_polys.specs.Symbols.tree t) = ⊥
IsKnown ty ps (Rattle.symbol_polys.specs.Symbols.expectation t) = ⊥

abbrev pub AreKnown : Types → List (List ℕ) → List PlainTerm → Type 0
AreKnown ty ps ts = AllByRecursion (λ t. AllByRecursion (IsKnown ty ps) t.symbols) ts

abbrev pub IsFiveLong : PlainSymbol → Type 0
IsFiveLong (parameter i) = ⊤
IsFiveLong (variable k m) = length m ≡ 5
IsFiveLong (noise k) = ⊤
IsFiveLong (Rattle.symbol_polys.specs.Symbols.tree t) = ⊤
IsFiveLong (Rattle.symbol_polys.specs.Symbols.expectation t) = ⊤

abbrev pub AreFiveLong : List PlainTerm → Type 0
AreFiveLong ts = AllByRecursion (λ t. AllByRecursion IsFiveLong t.symbols) ts
