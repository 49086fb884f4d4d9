use Rattle.std.proofs.Common.{unsigned_abs}
use Rattle.std.specs.Int.{w128}
use Rattle.std.proofs.lemmas.Int.{to_z-of_z}
use Rattle.symbol_polys.proofs.PolyLaws.{each_at, size_at, below_at}
use Rattle.symbol_polys.proofs.poly.times_all.Goals as goal

pub times-requires-clause-trees : goal.times-requires-clause-trees
times-requires-clause-trees c = (each_at c.args.terms.now c.loop-term.term-index c.term-item.result c.loop-term-test.true c.term-item.is c.requires.each).trees

pub times-requires-clause-fits : goal.times-requires-clause-fits
times-requires-clause-fits c =
    rw (to_z-of_z w128 c.args.by c.ranges.by)
    (below_at (unsigned_abs c.args.by) _ _ (size_at c.args.terms.now c.loop-term.term-index c.term-item.result c.loop-term-test.true c.term-item.is) c.requires.fits)
