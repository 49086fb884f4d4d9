use Rattle.std.proofs.Common.{arith}
use Rattle.symbol_polys.proofs.SymbolLaws.{small_at}
use Rattle.symbol_polys.proofs.symbols.monomial_order.Goals as goal

pub symbol_order-requires-clause-small_a : goal.symbol_order-requires-clause-small_a
symbol_order-requires-clause-small_a c = small_at c.args.a.now c.loop-i.i c.index-a-i.result (omega arith) c.index-a-i.is c.requires.trees_a

pub symbol_order-requires-clause-small_b : goal.symbol_order-requires-clause-small_b
symbol_order-requires-clause-small_b c = small_at c.args.b.now c.loop-i.i c.index-b-i.result (omega arith) c.index-b-i.is c.requires.trees_b
