use Rattle.std.proofs.Common.{◌≡◌, ◌∙◌, ◌++◌, ap, refl, List, ℕ}
use Rattle.pooled_cuttings.specs.Lines.{opened_terms_in, IsOpenLine, IsExtractLine, opened_in, extracted_in}
use Rattle.pooled_cuttings.proofs.Groves.{grove_refl, grove_trans}
use Rattle.pooled_cuttings.proofs.Means.{open_line_grown, extract_line_grown, open_lines_grown, extract_lines_grown}
use Rattle.pooled_cuttings.proofs.Rows.{row_step, row_end, all_at}
use Rattle.pooled_cuttings.proofs.Loops.{over_row, over_rows, over_rows_parts, over_row_grown, over_fits_grown}
use Rattle.pooled_cuttings.specs.Products.{IsOverFit}
use Rattle.std.specs.List.{AllByRecursion}
use Rattle.std.proofs.Common.{sum, ◌≤◌}
use Rattle.pooled_cuttings.proofs.outside.push_outside_rows.Goals as goal

pub push_outside_row-requires-clause-x : goal.push_outside_row-requires-clause-x
push_outside_row-requires-clause-x c =
    let g = c.args.grove.now in
    let h = c.loop-x.grove in
    let a = c.loop-x.invariant.grown in
    let line = all_at (IsExtractLine g) c.args.xs.now c.loop-x.x-index c.x-item.result c.loop-x-test.true c.x-item.is c.requires.xs in
    extract_line_grown g h c.x-item.result a line

pub push_outside_row-requires-clause-ys : goal.push_outside_row-requires-clause-ys
push_outside_row-requires-clause-ys c =
    let g = c.args.grove.now in
    let h = c.loop-x.grove in
    let a = c.loop-x.invariant.grown in
    open_lines_grown g h c.args.ys.now a c.requires.ys

pub push_outside_row-requires-clause-lines : goal.push_outside_row-requires-clause-lines
push_outside_row-requires-clause-lines c =
    c.loop-x.invariant.lines

pub push_outside_row-requires-clause-fits : goal.push_outside_row-requires-clause-fits
push_outside_row-requires-clause-fits c =
    let g = c.args.grove.now in
    let h = c.loop-x.grove in
    let a = c.loop-x.invariant.grown in
    let line = all_at (IsExtractLine g) c.args.xs.now c.loop-x.x-index c.x-item.result c.loop-x-test.true c.x-item.is c.requires.xs in
    let fit = all_at (λ x. AllByRecursion (λ y. IsOverFit g.pool.types c.args.kind.0 c.args.p.now.entries (extracted_in g x.0) (opened_in g y.0)) c.args.ys.now) c.args.xs.now c.loop-x.x-index c.x-item.result c.loop-x-test.true c.x-item.is c.requires.fits in
    over_fits_grown g h c.laws.ensures a c.args.kind.0 c.args.p.now.entries c.x-item.result c.args.ys.now line c.requires.ys fit

pub loop-x-preserved : goal.loop-x-preserved
loop-x-preserved c =
    let g = c.args.grove.now in
    let h = c.loop-x.grove in
    let line = all_at (IsExtractLine g) c.args.xs.now c.loop-x.x-index c.x-item.result c.loop-x-test.true c.x-item.is c.requires.xs in
    let put = c.in_ok-push_outside_row.ensures.terms ∙ ap (λ ts. opened_terms_in h c.loop-x.lines.items ++ ts) (over_row_grown g h c.laws.ensures c.loop-x.invariant.grown c.args.kind.0 c.args.p.now.entries c.x-item.result c.args.ys.now line c.requires.ys) in
    record {
      grown = grove_trans g h c.push_outside_row.new.grove c.loop-x.invariant.grown c.in_ok-push_outside_row.ensures.grown;
      made = c.in_ok-push_outside_row.ensures.made;
      lines = c.in_ok-push_outside_row.ensures.lines;
      terms =
          row_step (over_rows g c.args.kind.0 c.args.p.now.entries c.args.ys.now) (λ x. over_row g c.args.kind.0 c.args.p.now.entries x c.args.ys.now) (over_rows_parts g c.args.kind.0 c.args.p.now.entries c.args.ys.now) c.args.xs.now c.loop-x.x-index c.x-item.result
          (opened_terms_in h c.loop-x.lines.items) (opened_terms_in c.push_outside_row.new.grove c.push_outside_row.new.lines.items) _ c.loop-x-test.true c.x-item.is put c.loop-x.invariant.terms;
    }

pub returns-in_err-push_outside_row-clause-grown : goal.returns-in_err-push_outside_row-clause-grown
returns-in_err-push_outside_row-clause-grown c =
    grove_trans c.args.grove.now c.loop-x.grove c.push_outside_row.new.grove c.loop-x.invariant.grown c.in_err-push_outside_row.ensures.grown

pub returns-clause-terms : goal.returns-clause-terms
returns-clause-terms c =
    let g = c.args.grove.now in
    row_end (over_rows g c.args.kind.0 c.args.p.now.entries c.args.ys.now) c.args.xs.now c.loop-x.x-index (opened_terms_in c.loop-x.grove c.loop-x.lines.items) _ refl c.loop-x-test.false c.loop-x.invariant.terms
