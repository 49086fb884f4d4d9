use Rattle.pooled_cuttings.proofs.Loops.{shift_fits_grown, all_products_are}
use Rattle.pooled_cuttings.proofs.branches.touched_rows.Goals as goal

pub push_outside_shifts-requires-clause-fits : goal.push_outside_shifts-requires-clause-fits
push_outside_shifts-requires-clause-fits c =
    shift_fits_grown c.args.grove.now c.push_inside_rows.new.grove c.laws.ensures c.in_ok-push_inside_rows.ensures.grown c.args.step.now c.args.closed.now c.args.touched.now
    c.requires.closed c.requires.touched c.args.shifts.now c.requires.outside

pub returns-clause-terms : goal.returns-clause-terms
returns-clause-terms c =
    all_products_are c.args.grove.now c.push_inside_rows.new.grove c.laws.ensures c.in_ok-push_inside_rows.ensures.grown c.args.step.now c.args.closed.now c.args.touched.now
    c.requires.closed c.requires.touched c.push_outside_shifts.new.grove c.args.above.now c.args.shifts.now c.new-lines.result.items c.push_inside_rows.new.lines.items c.push_outside_shifts.new.lines.items
    c.new-lines.ensures.items c.in_ok-push_inside_rows.ensures.terms c.in_ok-push_outside_shifts.ensures.terms
