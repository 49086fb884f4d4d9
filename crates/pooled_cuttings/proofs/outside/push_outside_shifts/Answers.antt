use Rattle.std.proofs.Common.{◌≡◌, ◌∙◌, ◌++◌, ap, refl, List, ℕ}
use Rattle.pooled_cuttings.specs.Lines.{opened_terms_in, IsOpenLine, IsExtractLine, opened_in, extracted_in}
use Rattle.pooled_cuttings.proofs.Groves.{grove_refl, grove_trans}
use Rattle.pooled_cuttings.proofs.Means.{open_line_grown, extract_line_grown, open_lines_grown, extract_lines_grown}
use Rattle.pooled_cuttings.proofs.Rows.{row_step, row_end, all_at}
use Rattle.pooled_cuttings.proofs.Loops.{outside_rows, outside_shifts, outside_shifts_parts, outside_rows_grown, outside_all_fits_grown, shift_at, shift_is}
use Rattle.pooled_cuttings.specs.Products.{IsInsideFit, IsOutsideFit, IsBesideFit, AreOutsideFit}
use Rattle.std.specs.List.{AllByRecursion}
use Rattle.std.proofs.Common.{sum, ◌≤◌}
use Rattle.pooled_cuttings.proofs.outside.push_outside_shifts.Goals as goal

pub push_outside_shift-requires-clause-step : goal.push_outside_shift-requires-clause-step
push_outside_shift-requires-clause-step c =
    record { known = rw c.loop-s.invariant.grown.pool.types c.requires.step.known; small = c.requires.step.small }

pub push_outside_shift-requires-clause-shift : goal.push_outside_shift-requires-clause-shift
push_outside_shift-requires-clause-shift c =
    all_at (λ s. sum s.entries ≤ 8192) c.args.shifts.now c.loop-s.s-index (shift_at c.args.shifts.now c.loop-s.s-index) c.loop-s-test.true (shift_is c.args.shifts.now c.loop-s.s-index c.loop-s-test.true) c.requires.shifts

pub push_outside_shift-requires-clause-xs : goal.push_outside_shift-requires-clause-xs
push_outside_shift-requires-clause-xs c =
    let g = c.args.grove.now in
    let h = c.loop-s.grove in
    let a = c.loop-s.invariant.grown in
    extract_lines_grown g h c.args.xs.now a c.requires.xs

pub push_outside_shift-requires-clause-ys : goal.push_outside_shift-requires-clause-ys
push_outside_shift-requires-clause-ys c =
    let g = c.args.grove.now in
    let h = c.loop-s.grove in
    let a = c.loop-s.invariant.grown in
    open_lines_grown g h c.args.ys.now a c.requires.ys

pub push_outside_shift-requires-clause-lines : goal.push_outside_shift-requires-clause-lines
push_outside_shift-requires-clause-lines c =
    c.loop-s.invariant.lines

pub push_outside_shift-requires-clause-fits : goal.push_outside_shift-requires-clause-fits
push_outside_shift-requires-clause-fits c =
    let g = c.args.grove.now in
    let h = c.loop-s.grove in
    let a = c.loop-s.invariant.grown in
    let fit = all_at (λ s. AreOutsideFit g c.args.step.now s.entries c.args.xs.now c.args.ys.now) c.args.shifts.now c.loop-s.s-index (shift_at c.args.shifts.now c.loop-s.s-index) c.loop-s-test.true (shift_is c.args.shifts.now c.loop-s.s-index c.loop-s-test.true) c.requires.fits in
    outside_all_fits_grown g h c.laws.ensures a c.args.step.now (shift_at c.args.shifts.now c.loop-s.s-index).entries c.args.xs.now c.args.ys.now c.requires.xs c.requires.ys fit

pub loop-s-preserved : goal.loop-s-preserved
loop-s-preserved c =
    let g = c.args.grove.now in
    let h = c.loop-s.grove in
    let line = all_at (λ s. sum s.entries ≤ 8192) c.args.shifts.now c.loop-s.s-index (shift_at c.args.shifts.now c.loop-s.s-index) c.loop-s-test.true (shift_is c.args.shifts.now c.loop-s.s-index c.loop-s-test.true) c.requires.shifts in
    let put = c.in_ok-push_outside_shift.ensures.terms ∙ ap (λ ts. opened_terms_in h c.loop-s.lines.items ++ ts) (outside_rows_grown g h c.laws.ensures c.loop-s.invariant.grown c.args.step.now (shift_at c.args.shifts.now c.loop-s.s-index).entries c.args.xs.now c.args.ys.now c.requires.xs c.requires.ys) in
    record {
      grown = grove_trans g h c.push_outside_shift.new.grove c.loop-s.invariant.grown c.in_ok-push_outside_shift.ensures.grown;
      made = c.in_ok-push_outside_shift.ensures.made;
      lines = c.in_ok-push_outside_shift.ensures.lines;
      terms =
          row_step (outside_shifts g c.args.step.now c.args.xs.now c.args.ys.now) (λ s. outside_rows g c.args.step.now s.entries c.args.ys.now c.args.xs.now) (outside_shifts_parts g c.args.step.now c.args.xs.now c.args.ys.now) c.args.shifts.now c.loop-s.s-index (shift_at c.args.shifts.now c.loop-s.s-index)
          (opened_terms_in h c.loop-s.lines.items) (opened_terms_in c.push_outside_shift.new.grove c.push_outside_shift.new.lines.items) _ c.loop-s-test.true (shift_is c.args.shifts.now c.loop-s.s-index c.loop-s-test.true) put c.loop-s.invariant.terms;
    }

pub returns-in_err-push_outside_shift-clause-grown : goal.returns-in_err-push_outside_shift-clause-grown
returns-in_err-push_outside_shift-clause-grown c =
    grove_trans c.args.grove.now c.loop-s.grove c.push_outside_shift.new.grove c.loop-s.invariant.grown c.in_err-push_outside_shift.ensures.grown

pub returns-clause-terms : goal.returns-clause-terms
returns-clause-terms c =
    let g = c.args.grove.now in
    row_end (outside_shifts g c.args.step.now c.args.xs.now c.args.ys.now) c.args.shifts.now c.loop-s.s-index (opened_terms_in c.loop-s.grove c.loop-s.lines.items) _ refl c.loop-s-test.false c.loop-s.invariant.terms
