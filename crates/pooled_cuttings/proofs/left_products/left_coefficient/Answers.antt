use Rattle.std.proofs.Common.{◌≡◌, ap, ◌∙◌, subst}
use Rattle.plain_trees.specs.Plain.{root_of}
use Rattle.tree_pool.specs.Content.{Content, tree_at}
use Rattle.tree_pool.proofs.Walks.{root_at}
use Rattle.pooled_cuttings.proofs.MadeKeys.{joined_roots}
use Rattle.pooled_cuttings.proofs.RightKeys.{left_value}
use Rattle.pooled_cuttings.proofs.left_products.left_coefficient.Goals as goal

pub choose_of-requires : goal.choose_of-requires
choose_of-requires c =
    let p = c.args.pool.now in
    let x = c.args.x.now.0.right.0 in
    let y = c.args.y.now.0.right.0 in
    joined_roots (tree_at p x) (tree_at p y) c.node.result.0.entries c.node-2.result.0.entries c.requires.small
    (root_at p x c.node.result.0.entries c.node.result.1.now c.node.ensures.tree)
    (root_at p y c.node-2.result.0.entries c.node-2.result.1.now c.node-2.ensures.tree)

pub returns : goal.returns
returns c =
    let p = c.args.pool.now in
    let x = c.args.x.now.0.right.0 in
    let y = c.args.y.now.0.right.0 in
    rw (c.times-2.ensures, c.times.ensures, c.choose_of.ensures)
    (left_value p c.args.x.now.0 c.args.y.now.0 c.args.x.now.1 c.args.y.now.1 c.node.result.0.entries c.node-2.result.0.entries
    (root_at p x c.node.result.0.entries c.node.result.1.now c.node.ensures.tree)
    (root_at p y c.node-2.result.0.entries c.node-2.result.1.now c.node-2.ensures.tree))
