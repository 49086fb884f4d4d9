use Rattle.std.proofs.Common.{arith, ◌∙◌, sym, ap, map, List}
use Rattle.plain_trees.specs.View.{Labelled, grafted}
use Rattle.tree_pool.specs.Content.{edge_over, tree_over}
use Rattle.tree_pool.proofs.Walks.{below_at, no_edge, at_holds, all_taken}
use Rattle.tree_pool.proofs.pool.Pool.+plain.Goals as goal

pub plain-requires : goal.plain-requires
plain-requires t c =
    let below = below_at c.args.id.0 c.node.result.1.now c.loop-e.e-index no_edge c.node.ensures.below c.loop-e-test.true in
    (omega (arith, below), omega (arith, below, c.requires))

pub returns : goal.returns
returns t c =
    let ts = c.args.self.now.trees in
    let es = c.node.result.1.now in
    c.tree_of.ensures
    ∙ ap (λ (ls : List Labelled). grafted c.node.result.0.entries ls) (c.loop-e.invariant ∙ ap (map (edge_over ts)) (all_taken es c.loop-e.e-index c.loop-e-test.false))
    ∙ sym (at_holds c.args.self.now c.args.id.0 (tree_over ts c.node.result.0.entries es) c.node.ensures.tree)
