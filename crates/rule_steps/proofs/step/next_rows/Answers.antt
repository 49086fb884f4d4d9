use Rattle.std.proofs.Common.{rules, ◌≡◌, arith}
use Rattle.ordered_lists.proofs.Members.{member_at}
use Rattle.normal_rule.specs.declared.rule.RuleRefusal.TheVariants.{RuleTooLarge}
use Rattle.rule_stages.specs.Stages.{HasTooLargeNext}
use Rattle.rule_steps.proofs.StepsLarge.{row_too_large}
use Rattle.rule_steps.proofs.StepsRows.{rows_step, rows_many, count_more}
use Rattle.rule_steps.proofs.step.next_rows.Goals as goal

pub next_nodes-requires-clause-row : goal.next_nodes-requires-clause-row
next_nodes-requires-clause-row c = member_at c.args.rule.now.rows c.loop-row.row-index c.row-item.result (rw c.as_slice-row-items.ensures at c.loop-row-test.true) (rw c.as_slice-row-items.ensures at c.row-item.is)

pub returns-in_err-nodes-clause-large : goal.returns-in_err-nodes-clause-large
returns-in_err-nodes-clause-large c =
    let more : c.in_err-nodes.field-0.0 ≡ RuleTooLarge → HasTooLargeNext c.args.eq.now c.args.rule.now = λ e. row_too_large c.args.eq.now c.args.rule.now c.row-item.result.kernel.0 (c.in_err-nodes.ensures.large e) in
    search rules

pub returns-then-count-gt-MOST_NODE_TYPES-clause-large :
    goal.returns-then-count-gt-MOST_NODE_TYPES-clause-large
returns-then-count-gt-MOST_NODE_TYPES-clause-large c =
    λ _. rows_many c.args.eq.now c.args.rule.now c.requires.equation c.requires.rule c.loop-row.row-index c.row-item.result c.in_ok-nodes.nodes.items c.loop-row.rows c.loop-row.count (rw c.as_slice-row-items.ensures at c.loop-row-test.true) (rw c.as_slice-row-items.ensures at c.row-item.is) c.loop-row.invariant.rows c.in_ok-nodes.ensures.set c.loop-row.invariant.count (omega (arith, c.if-count-gt-MOST_NODE_TYPES.true, c.len-count.ensures))

pub loop-row-preserved : goal.loop-row-preserved
loop-row-preserved c =
    let pushed = rw c.from_vec.ensures at c.in_ok-push.ensures.ok in
    record {
      rows = rows_step c.args.eq.now c.args.rule.now c.loop-row.row-index c.row-item.result c.in_ok-nodes.nodes.items c.loop-row.rows c.push.new.self (rw c.as_slice-row-items.ensures at c.loop-row-test.true) (rw c.as_slice-row-items.ensures at c.row-item.is) c.loop-row.invariant.rows c.in_ok-nodes.ensures.set pushed;
      count = omega (arith, count_more c.loop-row.rows c.push.new.self c.row-item.result.kernel c.in_ok-nodes.nodes.items pushed, c.loop-row.invariant.count, c.len-count.ensures);
      few = omega (arith, c.if-count-gt-MOST_NODE_TYPES.false);
    }
