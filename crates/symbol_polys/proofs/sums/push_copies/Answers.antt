use Rattle.symbol_polys.proofs.PolyLaws.{each_at}
use Rattle.symbol_polys.proofs.sums.push_copies.Goals as goal

pub copy_symbols-requires : goal.copy_symbols-requires
copy_symbols-requires c = rw c.as_slice.ensures (each_at c.args.from.now c.loop-term.term-index c.term-item.result c.loop-term-test.true c.term-item.is c.requires).trees

pub put-requires : goal.put-requires
put-requires c = rw (c.in_ok-copy_symbols.ensures.copy, c.as_slice.ensures) (each_at c.args.from.now c.loop-term.term-index c.term-item.result c.loop-term-test.true c.term-item.is c.requires)
