use Rattle.std.proofs.Common.{◌≡◌, ◌++◌, replicate}
use Rattle.symbol_polys.proofs.reading_powers.put_copies.Given as goal

abbrev pub invariant-loop : goal.invariant-loop
invariant-loop l = l.symbols ≡ l.fn.symbols ++ replicate l.counter l.s
