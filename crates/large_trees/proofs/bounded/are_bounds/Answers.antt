use Rattle.std.proofs.Common.{◌≡◌, ◌<◌, ◌≤◌, length, get_or, subst}
use Rattle.std.specs.List.{All}
use Rattle.std.proofs.lemmas.List.{take_all}
use Rattle.std.proofs.lemmas.List.Elements.{All-more}
use Rattle.large_trees.specs.Charges.{IsRowBound}
use Rattle.large_trees.proofs.bounded.are_bounds.Goals as goal

pub loop-row-preserved : goal.loop-row-preserved
loop-row-preserved c =
    let lt : c.loop-row.row-index < length c.args.rule.now.rows = rw (← c.as_slice-row-items.ensures) c.loop-row-test.true in
    let is : c.row-item.result ≡ get_or c.args.rule.now.rows c.loop-row.row-index c.row-item.result = rw (← c.as_slice-row-items.ensures) c.row-item.is in
    let next = c.is_row_bound.ensures c.if-not-is_row_bound.false in
    All-more (IsRowBound c.args.types.now c.args.charge.now c.args.bounds.now) c.args.rule.now.rows c.loop-row.row-index c.row-item.result lt c.loop-row.invariant
    (subst (IsRowBound c.args.types.now c.args.charge.now c.args.bounds.now) is next)

pub returns : goal.returns
returns c = λ t.
    let all : length c.args.rule.now.rows ≤ c.loop-row.row-index = rw (← c.as_slice-row-items.ensures) c.loop-row-test.false in
    subst (All (IsRowBound c.args.types.now c.args.charge.now c.args.bounds.now)) (take_all c.loop-row.row-index c.args.rule.now.rows all) c.loop-row.invariant
