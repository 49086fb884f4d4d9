use Rattle.std.proofs.Common.{◌≡◌, ◌∙◌, ◌++◌, ap, refl, List, ℕ}
use Rattle.pooled_cuttings.specs.Lines.{extracted_terms_in, IsOpenLine, IsExtractLine, opened_in, extracted_in}
use Rattle.pooled_cuttings.proofs.Groves.{grove_refl, grove_trans}
use Rattle.pooled_cuttings.proofs.Means.{open_line_grown, extract_line_grown, open_lines_grown, extract_lines_grown}
use Rattle.pooled_cuttings.proofs.Rows.{row_step, row_end, all_at}
use Rattle.pooled_cuttings.proofs.Loops.{beside_row, beside_rows, beside_rows_parts, beside_row_grown, beside_fits_grown}
use Rattle.pooled_cuttings.specs.Products.{IsInsideFit, IsOutsideFit, IsBesideFit, AreOutsideFit}
use Rattle.std.specs.List.{AllByRecursion}
use Rattle.std.proofs.Common.{sum, ◌≤◌}
use Rattle.pooled_cuttings.proofs.beside.push_beside_rows.Goals as goal

pub push_beside_row-requires-clause-x : goal.push_beside_row-requires-clause-x
push_beside_row-requires-clause-x c =
    let g = c.args.grove.now in
    let h = c.loop-x.grove in
    let a = c.loop-x.invariant.grown in
    let line = all_at (IsExtractLine g) c.args.xs.now c.loop-x.x-index c.x-item.result c.loop-x-test.true c.x-item.is c.requires.xs in
    extract_line_grown g h c.x-item.result a line

pub push_beside_row-requires-clause-ys : goal.push_beside_row-requires-clause-ys
push_beside_row-requires-clause-ys c =
    let g = c.args.grove.now in
    let h = c.loop-x.grove in
    let a = c.loop-x.invariant.grown in
    extract_lines_grown g h c.args.ys.now a c.requires.ys

pub push_beside_row-requires-clause-lines : goal.push_beside_row-requires-clause-lines
push_beside_row-requires-clause-lines c =
    c.loop-x.invariant.lines

pub push_beside_row-requires-clause-fits : goal.push_beside_row-requires-clause-fits
push_beside_row-requires-clause-fits c =
    let g = c.args.grove.now in
    let h = c.loop-x.grove in
    let a = c.loop-x.invariant.grown in
    let line = all_at (IsExtractLine g) c.args.xs.now c.loop-x.x-index c.x-item.result c.loop-x-test.true c.x-item.is c.requires.xs in
    let fit = all_at (λ x. AllByRecursion (λ y. IsBesideFit g.pool.types c.args.step.now (extracted_in g x.0) (extracted_in g y.0)) c.args.ys.now) c.args.xs.now c.loop-x.x-index c.x-item.result c.loop-x-test.true c.x-item.is c.requires.fits in
    beside_fits_grown g h c.laws.ensures a c.args.step.now c.x-item.result c.args.ys.now line c.requires.ys fit

pub loop-x-preserved : goal.loop-x-preserved
loop-x-preserved c =
    let g = c.args.grove.now in
    let h = c.loop-x.grove in
    let line = all_at (IsExtractLine g) c.args.xs.now c.loop-x.x-index c.x-item.result c.loop-x-test.true c.x-item.is c.requires.xs in
    let put = c.in_ok-push_beside_row.ensures.terms ∙ ap (λ ts. extracted_terms_in h c.loop-x.lines.items ++ ts) (beside_row_grown g h c.laws.ensures c.loop-x.invariant.grown c.args.step.now c.x-item.result c.args.ys.now line c.requires.ys) in
    record {
      grown = grove_trans g h c.push_beside_row.new.grove c.loop-x.invariant.grown c.in_ok-push_beside_row.ensures.grown;
      lines = c.in_ok-push_beside_row.ensures.lines;
      terms =
          row_step (beside_rows g c.args.step.now c.args.ys.now) (λ x. beside_row g c.args.step.now x c.args.ys.now) (beside_rows_parts g c.args.step.now c.args.ys.now) c.args.xs.now c.loop-x.x-index c.x-item.result
          (extracted_terms_in h c.loop-x.lines.items) (extracted_terms_in c.push_beside_row.new.grove c.push_beside_row.new.lines.items) _ c.loop-x-test.true c.x-item.is put c.loop-x.invariant.terms;
    }

pub returns-in_err-push_beside_row-clause-grown : goal.returns-in_err-push_beside_row-clause-grown
returns-in_err-push_beside_row-clause-grown c =
    grove_trans c.args.grove.now c.loop-x.grove c.push_beside_row.new.grove c.loop-x.invariant.grown c.in_err-push_beside_row.ensures.grown

pub returns-clause-terms : goal.returns-clause-terms
returns-clause-terms c =
    let g = c.args.grove.now in
    row_end (beside_rows g c.args.step.now c.args.ys.now) c.args.xs.now c.loop-x.x-index (extracted_terms_in c.loop-x.grove c.loop-x.lines.items) _ refl c.loop-x-test.false c.loop-x.invariant.terms
