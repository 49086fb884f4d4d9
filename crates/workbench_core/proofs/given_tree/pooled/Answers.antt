use Rattle.std.proofs.Common.{◌∙◌}
use Rattle.plain_trees.specs.Canon.{canon}
use Rattle.plain_trees.specs.View.{plain}
use Rattle.plain_trees.proofs.CanonLaws.{canon_fixed}
use Rattle.tree_pool.proofs.Walks.{at_holds}
use Rattle.tree_listing.proofs.Growing.{holds_below}
use Rattle.workbench_core.proofs.given_tree.pooled.Goals as goal

pub returns-clause-tree : goal.returns-clause-tree
returns-clause-tree c =
    let t = plain c.args.tree.now in
    at_holds c.intern_tree.new.self c.in_ok-id.id.0 (canon t) c.in_ok-id.ensures.tree ∙ canon_fixed t c.requires.canonical

pub returns-clause-known : goal.returns-clause-known
returns-clause-known c = holds_below c.intern_tree.new.self c.in_ok-id.id.0 (canon (plain c.args.tree.now)) c.in_ok-id.ensures.tree
