use Rattle.large_trees.proofs.LineLaws.{small_sum}
use Rattle.large_trees.proofs.line.Line.put_sum.Goals as goal

pub plus-requires-clause-a_fits : goal.plus-requires-clause-a_fits
plus-requires-clause-a_fits c = small_sum c.args.x.now.a c.in-Some.y.a c.requires.x.a (c.requires.cell c.in-Some.y c.in-Some.is).a

pub plus-requires-clause-b_fits : goal.plus-requires-clause-b_fits
plus-requires-clause-b_fits c = small_sum c.args.x.now.b c.in-Some.y.b c.requires.x.b (c.requires.cell c.in-Some.y c.in-Some.is).b
