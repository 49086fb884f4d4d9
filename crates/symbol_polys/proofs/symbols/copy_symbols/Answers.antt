use Rattle.symbol_polys.proofs.SymbolLaws.{bounded_at}
use Rattle.symbol_polys.proofs.symbols.copy_symbols.Goals as goal

pub copy_symbol-requires : goal.copy_symbol-requires
copy_symbol-requires c = bounded_at c.args.symbols.now c.loop-s.s-index c.s-item.result c.loop-s-test.true c.s-item.is c.requires
