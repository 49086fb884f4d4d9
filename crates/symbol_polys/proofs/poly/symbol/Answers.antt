use Rattle.symbol_polys.specs.View.{symbol_of}
use Rattle.symbol_polys.proofs.PolyLaws.{one_symbol}
use Rattle.symbol_polys.proofs.poly.symbol.Goals as goal

pub single-requires : goal.single-requires
single-requires c = rw (c.in_ok-push.ensures.ok, c.new-symbols.ensures) (one_symbol (symbol_of c.args.s) c.requires)
