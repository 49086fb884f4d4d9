use Rattle.std.proofs.Common.{◌≡◌, ◌++◌, map, sym, subst, List, ℕ}
use Rattle.std.specs.List.{AllByRecursion}
use Rattle.degree_numbers.specs.declared.multi.Multi.{Multi}
use Rattle.tree_pool.specs.Content.{tree_at, tree_over}
use Rattle.cutting_tables.specs.Live.{AreSameRecentred}
use Rattle.pooled_cuttings.specs.Lines.{recentred_terms_in, AreRightLines}
use Rattle.pooled_cuttings.specs.NodeTables.{tree_with, IsRightTable}
use Rattle.pooled_cuttings.specs.RightProducts.{IsRightShifts, AreRightFit, left_terms, right_terms}
use Rattle.pooled_cuttings.proofs.RightFitting.{AreRightParts, parts_left, parts_right, parts_high, one_more_table, if_ok_two, parts_at}
use Rattle.pooled_cuttings.proofs.right.with_right_edge.Goals as goal

pub right_shifts-requires-clause-high : goal.right_shifts-requires-clause-high
right_shifts-requires-clause-high c =
    let p = c.args.pool.now in
    parts_high p c.args.edge.now (tree_over p.trees c.args.n.now.entries c.args.rest.now) c.args.above.now c.args.others.now
    (parts_at p c.args.edge.now c.args.n.now c.args.rest.now c.args.above.now c.args.others.now c.laws.ensures c.requires.tree c.requires.above c.requires.others)

pub right_lines-requires-clause-left : goal.right_lines-requires-clause-left
right_lines-requires-clause-left c =
    let p = c.args.pool.now in
    parts_left p c.args.edge.now (tree_over p.trees c.args.n.now.entries c.args.rest.now) c.args.above.now c.args.others.now
    (parts_at p c.args.edge.now c.args.n.now c.args.rest.now c.args.above.now c.args.others.now c.laws.ensures c.requires.tree c.requires.above c.requires.others)

pub right_lines-requires-clause-right : goal.right_lines-requires-clause-right
right_lines-requires-clause-right c =
    let p = c.args.pool.now in
    let e = c.args.edge.now in
    subst (AllByRecursion (λ (s : Multi). AreRightFit p e s.entries c.args.others.now)) (sym c.as_slice.ensures.value)
    (parts_right p e (tree_over p.trees c.args.n.now.entries c.args.rest.now) c.args.above.now c.args.others.now
    (parts_at p e c.args.n.now c.args.rest.now c.args.above.now c.args.others.now c.laws.ensures c.requires.tree c.requires.above c.requires.others)
    c.in_ok-shifts.shifts.items c.in_ok-shifts.ensures.shifts)

pub returns-clause-table : goal.returns-clause-table
returns-clause-table c =
    let p = c.args.pool.now in
    let q = c.right_lines.new.pool in
    let e = c.args.edge.now in
    let shifts = subst (λ (ss : List Multi). IsRightShifts p e (map (λ m. m.entries) ss)) (sym c.as_slice.ensures.value) c.in_ok-shifts.ensures.shifts in
    if_ok_two c.right_lines.result (λ ls. AreRightLines q ls.items)
    (λ ls. AreSameRecentred (recentred_terms_in q ls.items)
    (left_terms e (recentred_terms_in p c.args.above.now) (recentred_terms_in p c.args.others.now)
    ++ right_terms e (tree_at p e.child.0) (map (λ m. m.entries) c.as_slice.result.now) (recentred_terms_in p c.args.others.now)))
    (λ ls. IsRightTable q (tree_with p e c.args.n.now c.args.rest.now) ls.items)
    (λ ls a b. one_more_table p q e (tree_over p.trees c.args.n.now.entries c.args.rest.now) c.args.above.now c.args.others.now ls.items (map (λ m. m.entries) c.as_slice.result.now)
    (parts_at p e c.args.n.now c.args.rest.now c.args.above.now c.args.others.now c.laws.ensures c.requires.tree c.requires.above c.requires.others)
    c.right_lines.ensures.grown a shifts b)
    c.right_lines.ensures.lines c.right_lines.ensures.sums
