use Rattle.std.proofs.Common.{◌≤◌, length}
use Rattle.ordered_lists.specs.Members.{IsIn}
use Rattle.ordered_lists.proofs.Members.{member_at}
use Rattle.normal_rule.specs.declared.rule.RuleRow.{RuleRow}
use Rattle.large_trees.specs.Large.{HasLargeRow}
use Rattle.large_trees.proofs.LargeTrees.{regularity_low}
use Rattle.large_trees.proofs.Passed.{passed_all}
use Rattle.large_trees.proofs.large.is_large_rule.Goals as goal

pub is_large_row-requires-clause-low : goal.is_large_row-requires-clause-low
is_large_row-requires-clause-low c =
    let inside : IsIn c.row-item.result c.args.rule.now.rows = rw (← c.as_slice-row-items.ensures) (member_at c.as_slice-row-items.result.now c.loop-row.row-index c.row-item.result c.loop-row-test.true c.row-item.is) in
    λ n m. regularity_low c.args.eq.now c.args.rule.now c.row-item.result n c.requires.equation c.requires.subcritical inside m

pub returns-then-is_large_row-clause-yes : goal.returns-then-is_large_row-clause-yes
returns-then-is_large_row-clause-yes c = λ e.
    let inside : IsIn c.row-item.result c.args.rule.now.rows = rw (← c.as_slice-row-items.ensures) (member_at c.as_slice-row-items.result.now c.loop-row.row-index c.row-item.result c.loop-row-test.true c.row-item.is) in
    (c.row-item.result, inside, c.is_large_row.ensures.yes c.if-is_large_row.true)

pub returns-clause-no : goal.returns-clause-no
returns-clause-no c = λ e h.
    let all : length c.args.rule.now.rows ≤ c.loop-row.row-index = rw (← c.as_slice-row-items.ensures) c.loop-row-test.false in
    passed_all (λ (r : RuleRow). HasLargeRow c.args.eq.now c.args.count c.args.cells.now c.args.unit r → ⊥) c.args.rule.now.rows c.loop-row.row-index all c.loop-row.invariant h.0 h.1 h.2
