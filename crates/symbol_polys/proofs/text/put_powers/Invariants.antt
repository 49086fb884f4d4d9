use Rattle.std.proofs.Common.{◌≡◌, ◌++◌, ◌-◌, length, map, drop}
use Rattle.std.specs.List.{AllByRecursion}
use Rattle.symbol_polys.specs.Symbols.{HasBoundedTree}
use Rattle.symbol_polys.specs.Text.{IsOver, power_text, powers, remaining}
use Rattle.symbol_polys.specs.View.{symbol_of}
use Rattle.symbol_polys.proofs.text.put_powers.Given as goal

abbrev pub invariant-loop-at : goal.invariant-loop-at
invariant-loop-at l =
    let rest = map symbol_of (drop l.at l.symbols) in
    let ty = l.names.types.now in
    let ps = l.names.parameters.now in
    record {
      text : l.out.items ++ remaining l.is_first (map (power_text ty ps) (powers rest)) ≡ l.fn.out.items ++ remaining l.fn.is_first (map (power_text ty ps) (powers (map symbol_of l.symbols)));
      over : AllByRecursion (IsOver ty ps) rest;
      trees : AllByRecursion HasBoundedTree rest;
    }

abbrev pub decreases-loop-at : goal.decreases-loop-at
decreases-loop-at l = length l.symbols - l.at
