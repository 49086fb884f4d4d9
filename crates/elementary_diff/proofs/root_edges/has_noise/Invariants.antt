use Rattle.std.proofs.Common.{◌≡◌, map, drop}
use Rattle.std.specs.List.{list_any}
use Rattle.symbol_polys.specs.View.{symbol_of}
use Rattle.elementary_diff.specs.Differentials.{is_noise_symbol}
use Rattle.elementary_diff.proofs.root_edges.has_noise.Given as goal

abbrev pub invariant-loop-s : goal.invariant-loop-s
invariant-loop-s l = list_any is_noise_symbol (map symbol_of (drop l.s-index l.symbols)) ≡ list_any is_noise_symbol (map symbol_of l.symbols)
