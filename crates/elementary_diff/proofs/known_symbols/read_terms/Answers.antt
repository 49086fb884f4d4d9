use Rattle.elementary_diff.proofs.KnownSymbols.{terms-step, terms-end}
use Rattle.elementary_diff.proofs.known_symbols.read_terms.Goals as goal

pub loop-t-preserved : goal.loop-t-preserved
loop-t-preserved c = terms-step c.args.terms.now c.loop-t.t-index c.t-item.result c.loop-t-test.true c.t-item.is (rw c.as_slice.ensures at c.read_symbols.ensures) c.loop-t.invariant

pub returns : goal.returns
returns c = terms-end c.args.terms.now c.loop-t.t-index c.loop-t-test.false c.loop-t.invariant
