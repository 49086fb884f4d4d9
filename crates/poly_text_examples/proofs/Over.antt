-- Terms that are read are over the types.
use Rattle.std.proofs.Common.{ℕ, List, [], ◌∷◌, arith}
use Rattle.std.specs.List.{AllByRecursion}
use Rattle.degree_numbers.specs.declared.types.Types.{Types}
use Rattle.degree_numbers.specs.Types.{AreTypes}
use Rattle.symbol_polys.specs.Symbols.{PlainSymbol, HasBoundedTree}
use Rattle.symbol_polys.specs.Polynomials.{PlainTerm}
use Rattle.symbol_polys.specs.Reading.{IsSymbolOf, IsTextOf}
use Rattle.symbol_polys.specs.Text.{AreParameters, IsOver, IsTermOver}

pub no_parameters : (ty : Types) → AreTypes ty → AreParameters ty []
no_parameters ty h = record { few = omega arith; names = h.names }

symbols_over : (ty : Types) (ss : List PlainSymbol) → AllByRecursion (IsSymbolOf ty []) ss → AllByRecursion (IsOver ty []) ss × AllByRecursion HasBoundedTree ss
symbols_over ty [] h = (tt, tt)
symbols_over ty (s ∷ ss) h = let rest = symbols_over ty ss h.1 in ((h.0.over, rest.0), (h.0.bounded, rest.1))

all_over : (ty : Types) (ts : List PlainTerm) → AllByRecursion (λ t. AllByRecursion (IsSymbolOf ty []) t.symbols) ts → AllByRecursion (IsTermOver ty []) ts
all_over ty [] h = tt
all_over ty (t ∷ ts) h = let one = symbols_over ty t.symbols h.0 in (record { over = one.0; trees = one.1 }, all_over ty ts h.1)

pub terms_over : (ty : Types) (text : List ℕ) (ts : List PlainTerm) → IsTextOf ty [] text ts → AllByRecursion (IsTermOver ty []) ts
terms_over ty text ts h = all_over ty ts h.symbols
