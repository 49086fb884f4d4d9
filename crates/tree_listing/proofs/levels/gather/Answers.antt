use Rattle.std.proofs.Common.{◌∙◌}
use Rattle.tree_listing.proofs.Listings.{good_empty}
use Rattle.tree_listing.proofs.levels.gather.Goals as goal

pub all_levels-requires-clause-found : goal.all_levels-requires-clause-found
all_levels-requires-clause-found c = good_empty c.args.eq.now c.args.rule.now c.intern_node.new.self c.new-found.result c.new-found.ensures.listed c.new-found.ensures.zero (c.in_ok-empty.ensures.grown.types ∙ c.requires.types)
