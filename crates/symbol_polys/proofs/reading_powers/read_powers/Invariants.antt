use Rattle.std.proofs.Common.{◌≡◌, ◌++◌, List, map, drop}
use Rattle.std.specs.List.{AllByRecursion}
use Rattle.symbol_polys.specs.Pieces.{unmarked}
use Rattle.symbol_polys.specs.Reading.{IsSymbolOf}
use Rattle.symbol_polys.specs.TermReading.{IsPowerOf, expanded}
use Rattle.symbol_polys.specs.Text.{Power, power_text}
use Rattle.symbol_polys.specs.View.{symbol_of}
use Rattle.symbol_polys.proofs.Following.{Writes}
use Rattle.symbol_polys.proofs.reading_powers.read_powers.Given as goal

abbrev pub invariant-loop-power : goal.invariant-loop-power
invariant-loop-power l =
    let ty = l.names.types.now in
    let ps = l.names.parameters.now in
    record {
      symbols : AllByRecursion (IsSymbolOf ty ps) (map symbol_of l.symbols);
      back : (xs : List Power) → Writes (IsPowerOf ty ps) (λ p. unmarked 42 p.now) (power_text ty ps) l.powers xs →
          (ys : List Power) × Writes (IsPowerOf ty ps) (λ p. unmarked 42 p.now) (power_text ty ps) (drop l.power-index l.powers) ys × (map symbol_of l.symbols ++ expanded ys ≡ expanded xs);
    }
