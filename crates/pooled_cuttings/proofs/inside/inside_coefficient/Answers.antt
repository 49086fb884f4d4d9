use Rattle.std.proofs.Common.{◌≡◌, sym, ap, ◌∙◌, subst}
use Rattle.plain_trees.specs.Plain.{root_of}
use Rattle.tree_pool.specs.Content.{Content, tree_at}
use Rattle.tree_pool.proofs.Walks.{root_at}
use Rattle.pooled_cuttings.proofs.MadeKeys.{joined_roots, inside_value}
use Rattle.pooled_cuttings.proofs.inside.inside_coefficient.Goals as goal

pub choose_of-requires : goal.choose_of-requires
choose_of-requires c =
    let g = c.args.grove.now in
    let m : root_of (tree_at g.pool c.args.x.now.0.quotient.0) ≡ c.node.result.0.entries =
    sym (ap (λ (p : Content). root_of (tree_at p c.args.x.now.0.quotient.0)) c.pool.ensures) ∙ root_at c.pool.result.now c.args.x.now.0.quotient.0 c.node.result.0.entries c.node.result.1.now c.node.ensures.tree in
    let n : root_of (tree_at g.pool c.args.y.now.0.quotient.0) ≡ c.node-2.result.0.entries =
    sym (ap (λ (p : Content). root_of (tree_at p c.args.y.now.0.quotient.0)) c.pool-2.ensures) ∙ root_at c.pool-2.result.now c.args.y.now.0.quotient.0 c.node-2.result.0.entries c.node-2.result.1.now c.node-2.ensures.tree in
    joined_roots (tree_at g.pool c.args.x.now.0.quotient.0) (tree_at g.pool c.args.y.now.0.quotient.0) c.node.result.0.entries c.node-2.result.0.entries c.requires.small m n

pub returns : goal.returns
returns c =
    let g = c.args.grove.now in
    let m : root_of (tree_at g.pool c.args.x.now.0.quotient.0) ≡ c.node.result.0.entries =
    sym (ap (λ (p : Content). root_of (tree_at p c.args.x.now.0.quotient.0)) c.pool.ensures) ∙ root_at c.pool.result.now c.args.x.now.0.quotient.0 c.node.result.0.entries c.node.result.1.now c.node.ensures.tree in
    let n : root_of (tree_at g.pool c.args.y.now.0.quotient.0) ≡ c.node-2.result.0.entries =
    sym (ap (λ (p : Content). root_of (tree_at p c.args.y.now.0.quotient.0)) c.pool-2.ensures) ∙ root_at c.pool-2.result.now c.args.y.now.0.quotient.0 c.node-2.result.0.entries c.node-2.result.1.now c.node-2.ensures.tree in
    rw (c.times-2.ensures, c.times.ensures, c.choose_of.ensures)
    (inside_value g c.args.x.now.0 c.args.y.now.0 c.args.x.now.1 c.args.y.now.1 c.node.result.0.entries c.node-2.result.0.entries m n)
