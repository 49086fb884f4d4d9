use Rattle.symbol_polys.proofs.PolyLaws.{each_at}
use Rattle.elementary_diff.proofs.total_derivatives.put_with.Goals as goal

pub with_symbol-requires-clause-symbols : goal.with_symbol-requires-clause-symbols
with_symbol-requires-clause-symbols c = rw c.as_slice.ensures (each_at c.args.terms.now c.loop-term.term-index c.term-item.result c.loop-term-test.true c.term-item.is c.requires.terms)
