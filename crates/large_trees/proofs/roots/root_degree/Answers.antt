use Rattle.std.proofs.Common.{arith}
use Rattle.std.proofs.lemmas.Int.{ints}
use Rattle.large_trees.proofs.roots.root_degree.Goals as goal

pub plus-requires-clause-b_fits : goal.plus-requires-clause-b_fits
plus-requires-clause-b_fits c =
    let low = c.requires.excess.b.low in
    let high = c.requires.excess.b.high in
    let none = c.requires.standard in
    omega (arith, ints)
