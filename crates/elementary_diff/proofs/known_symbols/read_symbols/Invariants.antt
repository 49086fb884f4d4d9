use Rattle.std.proofs.Common.{map, drop}
use Rattle.std.specs.List.{AllByRecursion}
use Rattle.symbol_polys.specs.View.{symbol_of}
use Rattle.elementary_diff.specs.Known.{IsFiveLong}
use Rattle.elementary_diff.proofs.known_symbols.read_symbols.Given as goal

abbrev pub invariant-loop-s : goal.invariant-loop-s
invariant-loop-s l = AllByRecursion IsFiveLong (map symbol_of (drop l.s-index l.symbols)) → AllByRecursion IsFiveLong (map symbol_of l.symbols)
