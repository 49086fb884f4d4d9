use Rattle.std.proofs.Common.{◌≡◌, ◌∙◌, ◌++◌, ap, refl, List, ℕ}
use Rattle.pooled_cuttings.specs.Lines.{opened_terms_in, IsOpenLine, IsExtractLine, opened_in, extracted_in}
use Rattle.pooled_cuttings.proofs.Groves.{grove_refl, grove_trans}
use Rattle.pooled_cuttings.proofs.Means.{open_line_grown, extract_line_grown, open_lines_grown, extract_lines_grown}
use Rattle.pooled_cuttings.proofs.Rows.{row_step, row_end, all_at}
use Rattle.pooled_cuttings.proofs.Loops.{inside_row, inside_one, inside_row_parts, inside_one_grown, inside_fit_grown}
use Rattle.pooled_cuttings.specs.Products.{IsInsideFit, IsOutsideFit, IsBesideFit, AreOutsideFit}
use Rattle.std.specs.List.{AllByRecursion}
use Rattle.std.proofs.Common.{sum, ◌≤◌}
use Rattle.pooled_cuttings.proofs.inside.push_inside_row.Goals as goal

pub push_inside-requires-clause-step : goal.push_inside-requires-clause-step
push_inside-requires-clause-step c =
    record { known = rw c.loop-y.invariant.grown.pool.types c.requires.step.known; small = c.requires.step.small }

pub push_inside-requires-clause-x : goal.push_inside-requires-clause-x
push_inside-requires-clause-x c =
    let g = c.args.grove.now in
    let h = c.loop-y.grove in
    let a = c.loop-y.invariant.grown in
    open_line_grown g h c.args.x.now a c.requires.x

pub push_inside-requires-clause-y : goal.push_inside-requires-clause-y
push_inside-requires-clause-y c =
    let g = c.args.grove.now in
    let h = c.loop-y.grove in
    let a = c.loop-y.invariant.grown in
    let line = all_at (IsOpenLine g) c.args.ys.now c.loop-y.y-index c.y-item.result c.loop-y-test.true c.y-item.is c.requires.ys in
    open_line_grown g h c.y-item.result a line

pub push_inside-requires-clause-lines : goal.push_inside-requires-clause-lines
push_inside-requires-clause-lines c =
    c.loop-y.invariant.lines

pub push_inside-requires-clause-fits : goal.push_inside-requires-clause-fits
push_inside-requires-clause-fits c =
    let g = c.args.grove.now in
    let h = c.loop-y.grove in
    let a = c.loop-y.invariant.grown in
    let line = all_at (IsOpenLine g) c.args.ys.now c.loop-y.y-index c.y-item.result c.loop-y-test.true c.y-item.is c.requires.ys in
    let fit = all_at (λ y. IsInsideFit g.pool.types c.args.step.now (opened_in g c.args.x.now.0) (opened_in g y.0)) c.args.ys.now c.loop-y.y-index c.y-item.result c.loop-y-test.true c.y-item.is c.requires.fits in
    inside_fit_grown g h c.laws.ensures a c.args.step.now c.args.x.now c.y-item.result c.requires.x line fit

pub loop-y-preserved : goal.loop-y-preserved
loop-y-preserved c =
    let g = c.args.grove.now in
    let h = c.loop-y.grove in
    let line = all_at (IsOpenLine g) c.args.ys.now c.loop-y.y-index c.y-item.result c.loop-y-test.true c.y-item.is c.requires.ys in
    let put = c.in_ok-push_inside.ensures.terms ∙ ap (λ ts. opened_terms_in h c.loop-y.lines.items ++ ts) (inside_one_grown g h c.laws.ensures c.loop-y.invariant.grown c.args.step.now c.args.x.now c.y-item.result c.requires.x line) in
    record {
      grown = grove_trans g h c.push_inside.new.grove c.loop-y.invariant.grown c.in_ok-push_inside.ensures.grown;
      lines = c.in_ok-push_inside.ensures.lines;
      terms =
          row_step (inside_row g c.args.step.now c.args.x.now) (inside_one g c.args.step.now c.args.x.now) (inside_row_parts g c.args.step.now c.args.x.now) c.args.ys.now c.loop-y.y-index c.y-item.result
          (opened_terms_in h c.loop-y.lines.items) (opened_terms_in c.push_inside.new.grove c.push_inside.new.lines.items) _ c.loop-y-test.true c.y-item.is put c.loop-y.invariant.terms;
    }

pub returns-in_err-push_inside-clause-grown : goal.returns-in_err-push_inside-clause-grown
returns-in_err-push_inside-clause-grown c =
    grove_trans c.args.grove.now c.loop-y.grove c.push_inside.new.grove c.loop-y.invariant.grown c.in_err-push_inside.ensures.grown

pub returns-clause-terms : goal.returns-clause-terms
returns-clause-terms c =
    let g = c.args.grove.now in
    row_end (inside_row g c.args.step.now c.args.x.now) c.args.ys.now c.loop-y.y-index (opened_terms_in c.loop-y.grove c.loop-y.lines.items) _ refl c.loop-y-test.false c.loop-y.invariant.terms
