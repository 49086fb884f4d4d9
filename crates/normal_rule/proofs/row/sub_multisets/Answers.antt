use Rattle.normal_rule.proofs.RuleLaws.{large_subs}
use Rattle.normal_rule.proofs.row.sub_multisets.Goals as goal

pub returns-then-len-gt-MOST_NODE_TYPES-clause-large :
    goal.returns-then-len-gt-MOST_NODE_TYPES-clause-large
returns-then-len-gt-MOST_NODE_TYPES-clause-large c =
    λ _. large_subs c.args.factors.now c.loop-factor.factor-index c.loop-factor.nodes.keys c.len.result c.loop-factor.invariant c.len.ensures.len c.if-len-gt-MOST_NODE_TYPES.true
