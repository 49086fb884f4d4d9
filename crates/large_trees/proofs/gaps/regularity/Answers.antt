use Rattle.normal_rule.proofs.Sizes.{regularity_within}
use Rattle.large_trees.proofs.gaps.regularity.Goals as goal

pub returns-clause-small : goal.returns-clause-small
returns-clause-small c = rw (c.of.ensures, c.regularity_of.ensures) (regularity_within c.args.eq.now c.args.kind.0 c.requires)
