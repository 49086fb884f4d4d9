use Rattle.pooled_cuttings.proofs.Means.{right_lines_grown}
use Rattle.pooled_cuttings.proofs.RightLoops.{edge_grown, all_right_fits_grown, both_rows}
use Rattle.pooled_cuttings.proofs.right.right_rows.Goals as goal

pub push_right_rows-requires-clause-edge : goal.push_right_rows-requires-clause-edge
push_right_rows-requires-clause-edge c =
    edge_grown c.args.pool.now c.push_left_rows.new.pool c.in_ok-push_left_rows.ensures.grown c.args.edge.now c.requires.edge

pub push_right_rows-requires-clause-ys : goal.push_right_rows-requires-clause-ys
push_right_rows-requires-clause-ys c =
    right_lines_grown c.args.pool.now c.push_left_rows.new.pool c.args.others.now c.in_ok-push_left_rows.ensures.grown c.requires.others

pub push_right_rows-requires-clause-fits : goal.push_right_rows-requires-clause-fits
push_right_rows-requires-clause-fits c =
    all_right_fits_grown c.args.pool.now c.push_left_rows.new.pool c.in_ok-push_left_rows.ensures.grown c.args.edge.now c.requires.edge c.args.others.now c.requires.others
    c.args.shifts.now c.requires.right

pub returns-clause-terms : goal.returns-clause-terms
returns-clause-terms c =
    both_rows c.args.pool.now c.push_left_rows.new.pool c.in_ok-push_left_rows.ensures.grown c.args.edge.now c.requires.edge c.push_right_rows.new.pool c.args.above.now
    c.args.others.now c.args.shifts.now c.new-lines.result.items c.push_left_rows.new.lines.items c.push_right_rows.new.lines.items c.requires.others c.new-lines.ensures.items
    c.in_ok-push_left_rows.ensures.terms c.in_ok-push_right_rows.ensures.terms
