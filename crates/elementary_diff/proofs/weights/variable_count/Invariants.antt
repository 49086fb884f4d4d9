use Rattle.std.proofs.Common.{◌≡◌, ◌≤◌, ◌+◌, map, drop}
use Rattle.symbol_polys.specs.View.{symbol_of}
use Rattle.elementary_diff.specs.Masses.{variable_count}
use Rattle.elementary_diff.proofs.weights.variable_count.Given as goal

abbrev pub invariant-loop-s : goal.invariant-loop-s
invariant-loop-s l = record {
  within : l.count ≤ l.s-index;
  sum : l.count + variable_count (map symbol_of (drop l.s-index l.symbols)) ≡ variable_count (map symbol_of l.symbols);
}
