use Rattle.std.proofs.Common.{◌≡◌, ◌*◌, ap, sym, ◌∙◌, List, ℕ}
use Rattle.exact_sums.specs.Saturating.{saturated}
use Rattle.degree_numbers.specs.Multi.{plus_of}
use Rattle.plain_trees.specs.Multinomials.{choose}
use Rattle.tree_pool.specs.Content.{tree_at}
use Rattle.tree_pool.proofs.Walks.{root_at}
use Rattle.pooled_cuttings.proofs.MadeKeys.{raised_roots}
use Rattle.pooled_cuttings.proofs.RightKeys.{once_value}
use Rattle.pooled_cuttings.proofs.right_products.right_coefficient.Goals as goal

pub choose_of-requires : goal.choose_of-requires
choose_of-requires c =
    let p = c.args.pool.now in
    let y = c.args.y.now.0.left.0 in
    raised_roots c.args.s.now.entries (tree_at p y) c.node.result.0.entries c.requires.small
    (root_at p y c.node.result.0.entries c.node.result.1.now c.node.ensures.tree)

pub returns : goal.returns
returns c =
    let p = c.args.pool.now in
    let y = c.args.y.now.0.left.0 in
    let s = c.args.s.now.entries in
    let root = root_at p y c.node.result.0.entries c.node.result.1.now c.node.ensures.tree in
    rw (c.times.ensures, c.choose_of.ensures)
    (once_value (choose (plus_of s c.node.result.0.entries) s) c.args.y.now.1
    ∙ ap (λ (r : List ℕ). saturated (choose (plus_of s r) s * c.args.y.now.1)) (sym root))
