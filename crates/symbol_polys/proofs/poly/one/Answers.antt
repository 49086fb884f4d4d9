use Rattle.symbol_polys.proofs.PolyLaws.{no_symbols}
use Rattle.symbol_polys.proofs.poly.one.Goals as goal

pub single-requires : goal.single-requires
single-requires c = rw c.new.ensures no_symbols
