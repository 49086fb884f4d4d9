use Rattle.std.proofs.Common.{◌+◌, arith}
use Rattle.plain_trees.proofs.DegreeBounds.{limit}
use Rattle.tree_listing.proofs.Walks.{beside, within_fits}
use Rattle.tree_listing.proofs.passes.degree_beside.Goals as goal

pub plus-requires-clause-a_fits : goal.plus-requires-clause-a_fits
plus-requires-clause-a_fits c =
    let pool = c.args.pool.now in
    let b = beside pool c.args.site.now c.laws.ensures c.requires.site in
    rw (c.edge_degree-edge.ensures, c.degree.ensures, c.types.ensures.types) (within_fits _ (limit + limit) b.edge_a (omega arith))

pub plus-requires-clause-b_fits : goal.plus-requires-clause-b_fits
plus-requires-clause-b_fits c =
    let pool = c.args.pool.now in
    let b = beside pool c.args.site.now c.laws.ensures c.requires.site in
    rw (c.edge_degree-edge.ensures, c.degree.ensures, c.types.ensures.types) (within_fits _ (limit + limit) b.edge_b (omega arith))

pub plus-requires-2-clause-a_fits : goal.plus-requires-2-clause-a_fits
plus-requires-2-clause-a_fits c =
    let pool = c.args.pool.now in
    let b = beside pool c.args.site.now c.laws.ensures c.requires.site in
    rw (c.plus.ensures, c.edge_degree-edge.ensures, c.degree.ensures, c.types.ensures.types) (within_fits _ 1001000000000000 b.all_a (omega arith))

pub plus-requires-2-clause-b_fits : goal.plus-requires-2-clause-b_fits
plus-requires-2-clause-b_fits c =
    let pool = c.args.pool.now in
    let b = beside pool c.args.site.now c.laws.ensures c.requires.site in
    rw (c.plus.ensures, c.edge_degree-edge.ensures, c.degree.ensures, c.types.ensures.types) (within_fits _ 1001000000000000 b.all_b (omega arith))

pub returns-clause-a : goal.returns-clause-a
returns-clause-a c =
    let pool = c.args.pool.now in
    let b = beside pool c.args.site.now c.laws.ensures c.requires.site in
    rw (c.plus-2.ensures, c.plus.ensures, c.edge_degree-edge.ensures, c.degree.ensures, c.types.ensures.types) b.all_a

pub returns-clause-b : goal.returns-clause-b
returns-clause-b c =
    let pool = c.args.pool.now in
    let b = beside pool c.args.site.now c.laws.ensures c.requires.site in
    rw (c.plus-2.ensures, c.plus.ensures, c.edge_degree-edge.ensures, c.degree.ensures, c.types.ensures.types) b.all_b
