use Rattle.std.proofs.Common.{◌≡◌, ◌<◌, length, rules}
use Rattle.normal_rule.specs.declared.rule.RuleRefusal.TheVariants.{RuleTooLarge}
use Rattle.normal_rule.specs.Made.{nodes_of}
use Rattle.normal_rule.proofs.RuleLaws.{large_nodes, large_term}
use Rattle.normal_rule.proofs.row.nodes_of.Goals as goal

pub returns-then-len-gt-MOST_NODE_TYPES-clause-large :
    goal.returns-then-len-gt-MOST_NODE_TYPES-clause-large
returns-then-len-gt-MOST_NODE_TYPES-clause-large c =
    λ _. large_nodes c.args.right.now c.loop-term.term-index c.loop-term.nodes.keys c.len.result c.loop-term.invariant c.len.ensures.len c.if-len-gt-MOST_NODE_TYPES.true

pub returns-in_err-sub_multisets-clause-large : goal.returns-in_err-sub_multisets-clause-large
returns-in_err-sub_multisets-clause-large c =
    let more : c.in_err-sub_multisets.field-0.0 ≡ RuleTooLarge → 2000 < length (nodes_of c.args.right.now) =
    λ e. large_term c.args.right.now c.loop-term.term-index c.term-item.result c.as_slice.result.now c.loop-term-test.true c.term-item.is c.as_slice.ensures (c.in_err-sub_multisets.ensures.large e) in
    search rules
