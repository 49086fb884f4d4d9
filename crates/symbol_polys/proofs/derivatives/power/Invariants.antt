use Rattle.std.proofs.Common.{◌≡◌, ◌≤◌, ◌+◌, map, drop}
use Rattle.symbol_polys.specs.Derivatives.{power_of}
use Rattle.symbol_polys.specs.View.{symbol_of}
use Rattle.symbol_polys.proofs.derivatives.power.Given as goal

abbrev pub invariant-loop-s : goal.invariant-loop-s
invariant-loop-s l = record {
  within : l.power ≤ l.s-index;
  sum : l.power + power_of (symbol_of l.by) (map symbol_of (drop l.s-index l.symbols)) ≡ power_of (symbol_of l.by) (map symbol_of l.symbols);
}
