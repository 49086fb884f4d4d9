use Rattle.elementary_diff.proofs.KnownSymbols.{symbols-step, symbols-end}
use Rattle.elementary_diff.proofs.known_symbols.read_symbols.Goals as goal

pub loop-s-preserved : goal.loop-s-preserved
loop-s-preserved c = symbols-step c.args.symbols.now c.loop-s.s-index c.s-item.result c.loop-s-test.true c.s-item.is c.read_symbol.ensures c.loop-s.invariant

pub returns : goal.returns
returns c = symbols-end c.args.symbols.now c.loop-s.s-index c.loop-s-test.false c.loop-s.invariant
