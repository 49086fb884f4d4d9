use Rattle.std.proofs.Common.{◌≡◌, ◌∙◌, ◌++◌, ap, refl, List, ℕ}
use Rattle.pooled_cuttings.specs.Lines.{extracted_terms_in, IsOpenLine, IsExtractLine, opened_in, extracted_in}
use Rattle.pooled_cuttings.proofs.Groves.{grove_refl, grove_trans}
use Rattle.pooled_cuttings.proofs.Means.{open_line_grown, extract_line_grown, open_lines_grown, extract_lines_grown}
use Rattle.pooled_cuttings.proofs.Rows.{row_step, row_end, all_at}
use Rattle.pooled_cuttings.proofs.Loops.{beside_row, beside_one, beside_row_parts, beside_one_grown, beside_fit_grown}
use Rattle.pooled_cuttings.specs.Products.{IsInsideFit, IsOutsideFit, IsBesideFit, AreOutsideFit}
use Rattle.std.specs.List.{AllByRecursion}
use Rattle.std.proofs.Common.{sum, ◌≤◌}
use Rattle.pooled_cuttings.proofs.beside.push_beside_row.Goals as goal

pub push_beside-requires-clause-x : goal.push_beside-requires-clause-x
push_beside-requires-clause-x c =
    let g = c.args.grove.now in
    let h = c.loop-y.grove in
    let a = c.loop-y.invariant.grown in
    extract_line_grown g h c.args.x.now a c.requires.x

pub push_beside-requires-clause-y : goal.push_beside-requires-clause-y
push_beside-requires-clause-y c =
    let g = c.args.grove.now in
    let h = c.loop-y.grove in
    let a = c.loop-y.invariant.grown in
    let line = all_at (IsExtractLine g) c.args.ys.now c.loop-y.y-index c.y-item.result c.loop-y-test.true c.y-item.is c.requires.ys in
    extract_line_grown g h c.y-item.result a line

pub push_beside-requires-clause-lines : goal.push_beside-requires-clause-lines
push_beside-requires-clause-lines c =
    c.loop-y.invariant.lines

pub push_beside-requires-clause-fits : goal.push_beside-requires-clause-fits
push_beside-requires-clause-fits c =
    let g = c.args.grove.now in
    let h = c.loop-y.grove in
    let a = c.loop-y.invariant.grown in
    let line = all_at (IsExtractLine g) c.args.ys.now c.loop-y.y-index c.y-item.result c.loop-y-test.true c.y-item.is c.requires.ys in
    let fit = all_at (λ y. IsBesideFit g.pool.types c.args.step.now (extracted_in g c.args.x.now.0) (extracted_in g y.0)) c.args.ys.now c.loop-y.y-index c.y-item.result c.loop-y-test.true c.y-item.is c.requires.fits in
    beside_fit_grown g h c.laws.ensures a c.args.step.now c.args.x.now c.y-item.result c.requires.x line fit

pub loop-y-preserved : goal.loop-y-preserved
loop-y-preserved c =
    let g = c.args.grove.now in
    let h = c.loop-y.grove in
    let line = all_at (IsExtractLine g) c.args.ys.now c.loop-y.y-index c.y-item.result c.loop-y-test.true c.y-item.is c.requires.ys in
    let put = c.in_ok-push_beside.ensures.terms ∙ ap (λ ts. extracted_terms_in h c.loop-y.lines.items ++ ts) (beside_one_grown g h c.laws.ensures c.loop-y.invariant.grown c.args.step.now c.args.x.now c.y-item.result c.requires.x line) in
    record {
      grown = grove_trans g h c.push_beside.new.grove c.loop-y.invariant.grown c.in_ok-push_beside.ensures.grown;
      lines = c.in_ok-push_beside.ensures.lines;
      terms =
          row_step (beside_row g c.args.step.now c.args.x.now) (beside_one g c.args.step.now c.args.x.now) (beside_row_parts g c.args.step.now c.args.x.now) c.args.ys.now c.loop-y.y-index c.y-item.result
          (extracted_terms_in h c.loop-y.lines.items) (extracted_terms_in c.push_beside.new.grove c.push_beside.new.lines.items) _ c.loop-y-test.true c.y-item.is put c.loop-y.invariant.terms;
    }

pub returns-in_err-push_beside-clause-grown : goal.returns-in_err-push_beside-clause-grown
returns-in_err-push_beside-clause-grown c =
    grove_trans c.args.grove.now c.loop-y.grove c.push_beside.new.grove c.loop-y.invariant.grown c.in_err-push_beside.ensures.grown

pub returns-clause-terms : goal.returns-clause-terms
returns-clause-terms c =
    let g = c.args.grove.now in
    row_end (beside_row g c.args.step.now c.args.x.now) c.args.ys.now c.loop-y.y-index (extracted_terms_in c.loop-y.grove c.loop-y.lines.items) _ refl c.loop-y-test.false c.loop-y.invariant.terms
