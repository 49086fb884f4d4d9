use Rattle.std.proofs.Common.{◌≡◌, ◌<◌, ◌≤◌, length, get_or}
use Rattle.ordered_lists.specs.Members.{IsIn}
use Rattle.ordered_lists.proofs.Members.{member_at}
use Rattle.large_trees.specs.Sums.{HasRow}
use Rattle.large_trees.proofs.Trees.{gap_above}
use Rattle.large_trees.proofs.RoundLines.{one_more, line_least}
use Rattle.large_trees.proofs.rounds.next_line.Goals as goal

pub put_row-requires-clause-gaps : goal.put_row-requires-clause-gaps
put_row-requires-clause-gaps c =
    let inside : IsIn c.row-item.result c.args.rule.now.rows = rw (← c.as_slice-row-items.ensures) (member_at c.as_slice-row-items.result.now c.loop-row.row-index c.row-item.result c.loop-row-test.true c.row-item.is) in
    λ n m. gap_above c.args.eq.now c.args.rule.now c.row-item.result n c.requires.subcritical inside m

pub loop-row-preserved : goal.loop-row-preserved
loop-row-preserved c =
    let lt : c.loop-row.row-index < length c.args.rule.now.rows = rw (← c.as_slice-row-items.ensures) c.loop-row-test.true in
    let is : c.row-item.result ≡ get_or c.args.rule.now.rows c.loop-row.row-index c.row-item.result = rw (← c.as_slice-row-items.ensures) c.row-item.is in
    one_more (HasRow c.args.eq.now c.args.count c.args.cells.now c.args.kind) c.args.rule.now.rows c.noise_line-line.result.cells c.loop-row.row-index c.row-item.result c.loop-row.line.cells c.put_row.new.line.cells lt is
    c.loop-row.invariant c.put_row.ensures

pub returns : goal.returns
returns c =
    let all : length c.args.rule.now.rows ≤ c.loop-row.row-index = rw (← c.as_slice-row-items.ensures) c.loop-row-test.false in
    line_least c.args.eq.now c.args.rule.now c.args.count c.args.cells.now c.args.kind c.loop-row.row-index c.noise_line-line.result.cells c.loop-row.line.cells all c.noise_line-line.ensures c.loop-row.invariant
