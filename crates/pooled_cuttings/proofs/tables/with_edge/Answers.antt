use Rattle.std.proofs.Common.{◌≡◌, ◌∙◌, ap, subst, sym, refl, arith}
use Rattle.std.proofs.lemmas.Int.{ints}
use Rattle.plain_trees.specs.Plain.{graft}
use Rattle.plain_trees.proofs.DegreeBounds.{units_most}
use Rattle.tree_pool.specs.Content.{tree_at, tree_over}
use Rattle.cutting_sizes.proofs.Bounded.{bounded_parts, bounded_small}
use Rattle.cutting_tables.proofs.LowBounds.{lows_within}
use Rattle.pooled_cuttings.specs.declared.tables.NodeTables.{NodeTables}
use Rattle.pooled_cuttings.proofs.Groves.{grove_trans}
use Rattle.pooled_cuttings.proofs.EdgeSteps.{parts_of, parts_grown, parts_step, parts_beside, parts_inside, parts_outside, made_tables, lows_back, back}
use Rattle.pooled_cuttings.proofs.tables.with_edge.Goals as goal

pub lows_over-lows-requires-clause-above : goal.lows_over-lows-requires-clause-above
lows_over-lows-requires-clause-above c =
    let g = c.args.grove.now in
    let edge = c.args.edge.now in
    let child = tree_at g.pool edge.child.0 in
    let stump = tree_over g.pool.trees c.args.n.now.entries c.args.rest.now in
    let both = bounded_parts edge.kind.0 edge.p.entries child stump c.requires.tree.bounded in
    lows_within g.pool.types child c.args.above.now.lows c.laws.ensures.pooled.types (bounded_small child both.0) c.requires.above.lows

pub lows_over-lows-requires-clause-others : goal.lows_over-lows-requires-clause-others
lows_over-lows-requires-clause-others c =
    let g = c.args.grove.now in
    let edge = c.args.edge.now in
    let child = tree_at g.pool edge.child.0 in
    let stump = tree_over g.pool.trees c.args.n.now.entries c.args.rest.now in
    let both = bounded_parts edge.kind.0 edge.p.entries child stump c.requires.tree.bounded in
    lows_within g.pool.types stump c.args.others.now.lows c.laws.ensures.pooled.types (bounded_small stump both.1) c.requires.others.lows

pub step_over-step-requires-clause-within : goal.step_over-step-requires-clause-within
step_over-step-requires-clause-within c =
    let g = c.args.grove.now in
    let edge = c.args.edge.now in
    let child = tree_at g.pool edge.child.0 in
    let stump = tree_over g.pool.trees c.args.n.now.entries c.args.rest.now in
    let both = bounded_parts edge.kind.0 edge.p.entries child stump c.requires.tree.bounded in
    lows_within g.pool.types (graft edge.kind.0 edge.p.entries child stump) c.lows_over-lows.result c.laws.ensures.pooled.types (bounded_small _ c.requires.tree.bounded)
    (c.lows_over-lows.ensures child stump c.requires.above.lows c.requires.others.lows)

pub idle_lines-requires-clause-fits : goal.idle_lines-requires-clause-fits
idle_lines-requires-clause-fits c =
    let g = c.args.grove.now in
    let b = c.args.bounds.now in
    let edge = c.args.edge.now in
    let child = tree_at g.pool edge.child.0 in
    let stump = tree_over g.pool.trees c.args.n.now.entries c.args.rest.now in
    let lows = c.lows_over-lows.ensures child stump c.requires.above.lows c.requires.others.lows in
    let e = c.step_over-step.result in
    let parts = parts_of g b edge c.args.n.now c.args.rest.now c.args.above.now c.args.others.now c.args.closed.now c.lows_over-lows.result e
    c.step_over-step.ensures.kind c.step_over-step.ensures.p c.step_over-step.ensures.most c.laws.ensures c.requires.bounds c.requires.tree c.requires.above c.requires.lines c.requires.closed c.requires.others lows in
    rw c.as_slice.ensures.value (parts_beside g b e child stump c.args.above.now c.args.others.now c.args.closed.now parts)

pub touched_over-requires-clause-step : goal.touched_over-requires-clause-step
touched_over-requires-clause-step c =
    let g = c.args.grove.now in
    let b = c.args.bounds.now in
    let edge = c.args.edge.now in
    let child = tree_at g.pool edge.child.0 in
    let stump = tree_over g.pool.trees c.args.n.now.entries c.args.rest.now in
    let lows = c.lows_over-lows.ensures child stump c.requires.above.lows c.requires.others.lows in
    let e = c.step_over-step.result in
    let parts = parts_of g b edge c.args.n.now c.args.rest.now c.args.above.now c.args.others.now c.args.closed.now c.lows_over-lows.result e
    c.step_over-step.ensures.kind c.step_over-step.ensures.p c.step_over-step.ensures.most c.laws.ensures c.requires.bounds c.requires.tree c.requires.above c.requires.lines c.requires.closed c.requires.others lows in
    let h = c.idle_lines.new.grove in
    let there = parts_grown g h b e child stump c.args.above.now c.args.others.now c.args.closed.now c.laws.ensures c.in_ok-idle.ensures.grown parts in
    parts_step h b e child stump c.args.above.now c.args.others.now c.args.closed.now there

pub touched_over-requires-clause-above : goal.touched_over-requires-clause-above
touched_over-requires-clause-above c =
    let g = c.args.grove.now in
    let b = c.args.bounds.now in
    let edge = c.args.edge.now in
    let child = tree_at g.pool edge.child.0 in
    let stump = tree_over g.pool.trees c.args.n.now.entries c.args.rest.now in
    let lows = c.lows_over-lows.ensures child stump c.requires.above.lows c.requires.others.lows in
    let e = c.step_over-step.result in
    let parts = parts_of g b edge c.args.n.now c.args.rest.now c.args.above.now c.args.others.now c.args.closed.now c.lows_over-lows.result e
    c.step_over-step.ensures.kind c.step_over-step.ensures.p c.step_over-step.ensures.most c.laws.ensures c.requires.bounds c.requires.tree c.requires.above c.requires.lines c.requires.closed c.requires.others lows in
    let h = c.idle_lines.new.grove in
    let there = parts_grown g h b e child stump c.args.above.now c.args.others.now c.args.closed.now c.laws.ensures c.in_ok-idle.ensures.grown parts in
    rw c.as_slice-2.ensures.value there.of_child.touched_lines

pub touched_over-requires-clause-closed : goal.touched_over-requires-clause-closed
touched_over-requires-clause-closed c =
    let g = c.args.grove.now in
    let b = c.args.bounds.now in
    let edge = c.args.edge.now in
    let child = tree_at g.pool edge.child.0 in
    let stump = tree_over g.pool.trees c.args.n.now.entries c.args.rest.now in
    let lows = c.lows_over-lows.ensures child stump c.requires.above.lows c.requires.others.lows in
    let e = c.step_over-step.result in
    let parts = parts_of g b edge c.args.n.now c.args.rest.now c.args.above.now c.args.others.now c.args.closed.now c.lows_over-lows.result e
    c.step_over-step.ensures.kind c.step_over-step.ensures.p c.step_over-step.ensures.most c.laws.ensures c.requires.bounds c.requires.tree c.requires.above c.requires.lines c.requires.closed c.requires.others lows in
    let h = c.idle_lines.new.grove in
    let there = parts_grown g h b e child stump c.args.above.now c.args.others.now c.args.closed.now c.laws.ensures c.in_ok-idle.ensures.grown parts in
    there.closed_lines

pub touched_over-requires-clause-touched : goal.touched_over-requires-clause-touched
touched_over-requires-clause-touched c =
    let g = c.args.grove.now in
    let b = c.args.bounds.now in
    let edge = c.args.edge.now in
    let child = tree_at g.pool edge.child.0 in
    let stump = tree_over g.pool.trees c.args.n.now.entries c.args.rest.now in
    let lows = c.lows_over-lows.ensures child stump c.requires.above.lows c.requires.others.lows in
    let e = c.step_over-step.result in
    let parts = parts_of g b edge c.args.n.now c.args.rest.now c.args.above.now c.args.others.now c.args.closed.now c.lows_over-lows.result e
    c.step_over-step.ensures.kind c.step_over-step.ensures.p c.step_over-step.ensures.most c.laws.ensures c.requires.bounds c.requires.tree c.requires.above c.requires.lines c.requires.closed c.requires.others lows in
    let h = c.idle_lines.new.grove in
    let there = parts_grown g h b e child stump c.args.above.now c.args.others.now c.args.closed.now c.laws.ensures c.in_ok-idle.ensures.grown parts in
    rw c.as_slice-3.ensures.value there.of_rest.touched_lines

pub touched_over-requires-clause-inside : goal.touched_over-requires-clause-inside
touched_over-requires-clause-inside c =
    let g = c.args.grove.now in
    let b = c.args.bounds.now in
    let edge = c.args.edge.now in
    let child = tree_at g.pool edge.child.0 in
    let stump = tree_over g.pool.trees c.args.n.now.entries c.args.rest.now in
    let lows = c.lows_over-lows.ensures child stump c.requires.above.lows c.requires.others.lows in
    let e = c.step_over-step.result in
    let parts = parts_of g b edge c.args.n.now c.args.rest.now c.args.above.now c.args.others.now c.args.closed.now c.lows_over-lows.result e
    c.step_over-step.ensures.kind c.step_over-step.ensures.p c.step_over-step.ensures.most c.laws.ensures c.requires.bounds c.requires.tree c.requires.above c.requires.lines c.requires.closed c.requires.others lows in
    let h = c.idle_lines.new.grove in
    let there = parts_grown g h b e child stump c.args.above.now c.args.others.now c.args.closed.now c.laws.ensures c.in_ok-idle.ensures.grown parts in
    rw (c.as_slice-2.ensures.value, c.as_slice-3.ensures.value) (parts_inside h b e child stump c.args.above.now c.args.others.now c.args.closed.now there)

pub touched_over-requires-clause-outside : goal.touched_over-requires-clause-outside
touched_over-requires-clause-outside c =
    let g = c.args.grove.now in
    let b = c.args.bounds.now in
    let edge = c.args.edge.now in
    let child = tree_at g.pool edge.child.0 in
    let stump = tree_over g.pool.trees c.args.n.now.entries c.args.rest.now in
    let lows = c.lows_over-lows.ensures child stump c.requires.above.lows c.requires.others.lows in
    let e = c.step_over-step.result in
    let parts = parts_of g b edge c.args.n.now c.args.rest.now c.args.above.now c.args.others.now c.args.closed.now c.lows_over-lows.result e
    c.step_over-step.ensures.kind c.step_over-step.ensures.p c.step_over-step.ensures.most c.laws.ensures c.requires.bounds c.requires.tree c.requires.above c.requires.lines c.requires.closed c.requires.others lows in
    let h = c.idle_lines.new.grove in
    let there = parts_grown g h b e child stump c.args.above.now c.args.others.now c.args.closed.now c.laws.ensures c.in_ok-idle.ensures.grown parts in
    rw c.as_slice-3.ensures.value (parts_outside h b e child stump c.args.above.now c.args.others.now c.args.closed.now there)

pub returns-clause-tables : goal.returns-clause-tables
returns-clause-tables c =
    let g = c.args.grove.now in
    let b = c.args.bounds.now in
    let edge = c.args.edge.now in
    let child = tree_at g.pool edge.child.0 in
    let stump = tree_over g.pool.trees c.args.n.now.entries c.args.rest.now in
    let lows = c.lows_over-lows.ensures child stump c.requires.above.lows c.requires.others.lows in
    let e = c.step_over-step.result in
    let parts = parts_of g b edge c.args.n.now c.args.rest.now c.args.above.now c.args.others.now c.args.closed.now c.lows_over-lows.result e
    c.step_over-step.ensures.kind c.step_over-step.ensures.p c.step_over-step.ensures.most c.laws.ensures c.requires.bounds c.requires.tree c.requires.above c.requires.lines c.requires.closed c.requires.others lows in
    let h = c.idle_lines.new.grove in
    let k = c.touched_over.new.grove in
    let x : NodeTables = record { lows = c.lows_over-lows.result; idle = c.in_ok-idle.idle; touched = c.in_ok-touched.touched } in
    let idle = rw c.as_slice.ensures.value at c.in_ok-idle.ensures.sums in
    let touched = rw (c.as_slice-2.ensures.value, c.as_slice-3.ensures.value) at c.in_ok-touched.ensures.sums in
    back g b edge c.args.n.now c.args.rest.now c.args.above.now c.args.others.now c.args.closed.now c.lows_over-lows.result e
    c.step_over-step.ensures.kind c.step_over-step.ensures.p c.step_over-step.ensures.most k x
    (made_tables g h k b e child stump c.args.above.now c.args.others.now c.args.closed.now c.lows_over-lows.result x c.laws.ensures c.laws-2.ensures c.in_ok-idle.ensures.grown c.in_ok-touched.ensures.grown
    parts refl
    (lows_back g b edge c.args.n.now c.args.rest.now c.args.above.now c.args.others.now c.args.closed.now c.lows_over-lows.result e c.step_over-step.ensures.kind c.step_over-step.ensures.p c.step_over-step.ensures.most lows)
    c.in_ok-idle.ensures.lines idle c.in_ok-touched.ensures.lines touched)

pub returns-clause-grown : goal.returns-clause-grown
returns-clause-grown c =
    grove_trans c.args.grove.now c.idle_lines.new.grove c.touched_over.new.grove c.in_ok-idle.ensures.grown c.in_ok-touched.ensures.grown
