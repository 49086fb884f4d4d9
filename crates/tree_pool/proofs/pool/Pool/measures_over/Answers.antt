use Rattle.std.proofs.Common.{arith, map, [], refl}
use Rattle.tree_pool.specs.Content.{edge_over}
use Rattle.tree_pool.proofs.Walks.{count_root}
use Rattle.tree_pool.proofs.pool.Pool.measures_over.Goals as goal

pub edges_over-requires-clause-small : goal.edges_over-requires-clause-small
edges_over-requires-clause-small c =
    let same = count_root [] c.args.n.now.entries (map (edge_over c.args.self.now.trees) c.args.edges.now) in
    omega (arith, same, c.requires.kept.small.edges)

pub returns : goal.returns
returns c =
    let same = count_root [] c.args.n.now.entries (map (edge_over c.args.self.now.trees) c.args.edges.now) in
    rw (c.degree_over.ensures, c.edges_over.ensures, c.decorations_over.ensures, c.types.ensures.types, same) refl
