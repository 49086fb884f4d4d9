use Rattle.std.proofs.Common.{◌≡◌, take}
use Rattle.symbol_polys.proofs.symbols.copy_symbols.Given as goal

abbrev pub invariant-loop-s : goal.invariant-loop-s
invariant-loop-s l = l.copy ≡ take l.s-index l.symbols
