use Rattle.symbol_polys.proofs.SymbolLaws.{small_at, bounded_at}
use Rattle.symbol_polys.proofs.derivatives.without.Goals as goal

pub are_equal-requires-clause-small_t : goal.are_equal-requires-clause-small_t
are_equal-requires-clause-small_t c = small_at c.args.symbols.now c.loop-s.s-index c.s-item.result c.loop-s-test.true c.s-item.is c.requires.trees

pub copy_symbol-requires : goal.copy_symbol-requires
copy_symbol-requires c = bounded_at c.args.symbols.now c.loop-s.s-index c.s-item.result c.loop-s-test.true c.s-item.is c.requires.trees
