use Rattle.symbol_polys.specs.View.{symbol_of, term_of}
use Rattle.elementary_diff.proofs.Rooms.{derivative-fits, room_at}
use Rattle.elementary_diff.proofs.root_edges.derivatives.Goals as goal

pub derive_term-requires-clause-trees : goal.derive_term-requires-clause-trees
derive_term-requires-clause-trees c = (room_at c.args.terms.now c.loop-term.term-index c.term-item.result c.loop-term-test.true c.term-item.is c.requires.room).monomial.trees

pub derive_term-requires-clause-fits : goal.derive_term-requires-clause-fits
derive_term-requires-clause-fits c =
    derivative-fits (symbol_of c.args.by.now) (term_of c.term-item.result) (room_at c.args.terms.now c.loop-term.term-index c.term-item.result c.loop-term-test.true c.term-item.is c.requires.room)
