use Rattle.std.proofs.Common.{◌∙◌}
use Rattle.tree_listing.proofs.Walks.{keeps_passes}
use Rattle.tree_listing.proofs.passes.passes.Goals as goal

pub returns : goal.returns
returns c = c.keeps.ensures ∙ keeps_passes c.args.pool.now c.args.site.now c.args.frame.now c.args.child c.requires.frame
