use Rattle.std.proofs.Common.{◌≡◌, sym, ap, ◌∙◌}
use Rattle.plain_trees.specs.Plain.{root_of}
use Rattle.tree_pool.specs.Content.{Content, tree_at}
use Rattle.tree_pool.proofs.Walks.{root_at}
use Rattle.pooled_cuttings.proofs.MadeKeys.{raised_roots, raised_value}
use Rattle.pooled_cuttings.proofs.raising.raised_coefficient.Goals as goal

pub choose_of-requires : goal.choose_of-requires
choose_of-requires c =
    let g = c.args.grove.now in
    let n : root_of (tree_at g.pool c.args.y.now.0.part.0) ≡ c.node.result.0.entries =
    sym (ap (λ (p : Content). root_of (tree_at p c.args.y.now.0.part.0)) c.pool.ensures) ∙ root_at c.pool.result.now c.args.y.now.0.part.0 c.node.result.0.entries c.node.result.1.now c.node.ensures.tree in
    raised_roots c.args.s.now.entries (tree_at g.pool c.args.y.now.0.part.0) c.node.result.0.entries c.requires.small n

pub returns : goal.returns
returns c =
    let g = c.args.grove.now in
    let n : root_of (tree_at g.pool c.args.y.now.0.part.0) ≡ c.node.result.0.entries =
    sym (ap (λ (p : Content). root_of (tree_at p c.args.y.now.0.part.0)) c.pool.ensures) ∙ root_at c.pool.result.now c.args.y.now.0.part.0 c.node.result.0.entries c.node.result.1.now c.node.ensures.tree in
    rw (c.times.ensures, c.choose_of.ensures)
    (raised_value g c.args.s.now.entries c.args.y.now.0 c.args.y.now.1 c.node.result.0.entries n)
