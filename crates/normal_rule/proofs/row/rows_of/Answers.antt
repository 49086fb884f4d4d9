use Rattle.std.proofs.Common.{◌≡◌, ◌<◌, map, rules, arith}
use Rattle.normal_rule.specs.declared.rule.RuleRefusal.TheVariants.{RuleTooLarge}
use Rattle.normal_rule.specs.Made.{row_of}
use Rattle.normal_rule.specs.Rule.{nodes_in}
use Rattle.normal_rule.proofs.RuleLaws.{large_row, large_rows, step_rows, step_count}
use Rattle.normal_rule.proofs.row.rows_of.Goals as goal

pub returns-in_err-nodes-clause-large : goal.returns-in_err-nodes-clause-large
returns-in_err-nodes-clause-large c =
    let more : c.in_err-nodes.field-0.0 ≡ RuleTooLarge → 2000 < nodes_in (map row_of c.args.unknowns.now) =
    λ e. large_row c.args.unknowns.now c.loop-unknown.unknown-index c.unknown-item.result c.as_slice.result.now c.loop-unknown-test.true c.unknown-item.is c.as_slice.ensures (c.in_err-nodes.ensures.large e) in
    search rules

pub returns-then-count-gt-MOST_NODE_TYPES-clause-large :
    goal.returns-then-count-gt-MOST_NODE_TYPES-clause-large
returns-then-count-gt-MOST_NODE_TYPES-clause-large c =
    λ _. large_rows c.args.unknowns.now c.loop-unknown.unknown-index c.unknown-item.result c.as_slice.result.now c.in_ok-nodes.nodes c.loop-unknown.count c.len-count.result c.loop-unknown-test.true c.unknown-item.is c.as_slice.ensures c.in_ok-nodes.ensures.nodes c.loop-unknown.invariant.1 c.len-count.ensures c.if-count-gt-MOST_NODE_TYPES.true

pub loop-unknown-preserved : goal.loop-unknown-preserved
loop-unknown-preserved c =
    let us = c.args.unknowns.now in
    let i = c.loop-unknown.unknown-index in (
      step_rows us i c.unknown-item.result c.as_slice.result.now c.in_ok-nodes.nodes c.loop-unknown.rows c.push.new.self c.loop-unknown-test.true c.unknown-item.is c.as_slice.ensures c.in_ok-nodes.ensures.nodes c.loop-unknown.invariant.0 c.in_ok-push.ensures.ok,
      step_count us i c.unknown-item.result c.as_slice.result.now c.in_ok-nodes.nodes c.loop-unknown.count c.len-count.result c.loop-unknown-test.true c.unknown-item.is c.as_slice.ensures c.in_ok-nodes.ensures.nodes c.loop-unknown.invariant.1 c.len-count.ensures,
      omega (arith, c.if-count-gt-MOST_NODE_TYPES.false),
    )
