use Rattle.std.proofs.Common.{◌∙◌, ap}
use Rattle.plain_trees.specs.Building.{with_subtree, open_of, tree_of_open}
use Rattle.plain_trees.proofs.Builds.{closed_is}
use Rattle.plain_trees.proofs.building.closed.Goals as goal

pub returns-in_ok-with_subtree-in-Some : goal.returns-in_ok-with_subtree-in-Some
returns-in_ok-with_subtree-in-Some c =
    closed_is c.args.b.outer.items c.pop.new.self.items c.in-Some.parent c.args.b.inner c.in_ok-with_subtree-in-Some.field-0 c.in-Some.ensures.items
    (c.in_ok-with_subtree-in-Some.ensures ∙ ap (with_subtree (open_of c.in-Some.parent)) (c.tree_of_open.ensures ∙ ap tree_of_open c.in_ok-inner-in-Some.ensures ∙ ap (λ t. tree_of_open (with_subtree (open_of c.args.b.inner) t)) c.empty_tree.ensures))
