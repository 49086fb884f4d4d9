use Rattle.std.proofs.Common.{◌≡◌, ◌∙◌, ◌++◌, ap, refl, List, ℕ}
use Rattle.pooled_cuttings.specs.Lines.{opened_terms_in, IsOpenLine, IsExtractLine, opened_in, extracted_in}
use Rattle.pooled_cuttings.proofs.Groves.{grove_refl, grove_trans}
use Rattle.pooled_cuttings.proofs.Means.{open_line_grown, extract_line_grown, open_lines_grown, extract_lines_grown}
use Rattle.pooled_cuttings.proofs.Rows.{row_step, row_end, all_at}
use Rattle.pooled_cuttings.proofs.Loops.{over_row, over_one, over_row_parts, over_one_grown, over_fit_grown}
use Rattle.pooled_cuttings.specs.Products.{IsOverFit}
use Rattle.std.specs.List.{AllByRecursion}
use Rattle.std.proofs.Common.{sum, ◌≤◌}
use Rattle.pooled_cuttings.proofs.outside.push_outside_row.Goals as goal

pub push_outside-requires-clause-x : goal.push_outside-requires-clause-x
push_outside-requires-clause-x c =
    let g = c.args.grove.now in
    let h = c.loop-y.grove in
    let a = c.loop-y.invariant.grown in
    extract_line_grown g h c.args.x.now a c.requires.x

pub push_outside-requires-clause-y : goal.push_outside-requires-clause-y
push_outside-requires-clause-y c =
    let g = c.args.grove.now in
    let h = c.loop-y.grove in
    let a = c.loop-y.invariant.grown in
    let line = all_at (IsOpenLine g) c.args.ys.now c.loop-y.y-index c.y-item.result c.loop-y-test.true c.y-item.is c.requires.ys in
    open_line_grown g h c.y-item.result a line

pub push_outside-requires-clause-lines : goal.push_outside-requires-clause-lines
push_outside-requires-clause-lines c =
    c.loop-y.invariant.lines

pub push_outside-requires-clause-fits : goal.push_outside-requires-clause-fits
push_outside-requires-clause-fits c =
    let g = c.args.grove.now in
    let h = c.loop-y.grove in
    let a = c.loop-y.invariant.grown in
    let line = all_at (IsOpenLine g) c.args.ys.now c.loop-y.y-index c.y-item.result c.loop-y-test.true c.y-item.is c.requires.ys in
    let fit = all_at (λ y. IsOverFit g.pool.types c.args.kind.0 c.args.p.now.entries (extracted_in g c.args.x.now.0) (opened_in g y.0)) c.args.ys.now c.loop-y.y-index c.y-item.result c.loop-y-test.true c.y-item.is c.requires.fits in
    over_fit_grown g h c.laws.ensures a c.args.kind.0 c.args.p.now.entries c.args.x.now c.y-item.result c.requires.x line fit

pub loop-y-preserved : goal.loop-y-preserved
loop-y-preserved c =
    let g = c.args.grove.now in
    let h = c.loop-y.grove in
    let line = all_at (IsOpenLine g) c.args.ys.now c.loop-y.y-index c.y-item.result c.loop-y-test.true c.y-item.is c.requires.ys in
    let put = c.in_ok-push_outside.ensures.terms ∙ ap (λ ts. opened_terms_in h c.loop-y.lines.items ++ ts) (over_one_grown g h c.laws.ensures c.loop-y.invariant.grown c.args.kind.0 c.args.p.now.entries c.args.x.now c.y-item.result c.requires.x line) in
    record {
      grown = grove_trans g h c.push_outside.new.grove c.loop-y.invariant.grown c.in_ok-push_outside.ensures.grown;
      made = c.in_ok-push_outside.ensures.made;
      lines = c.in_ok-push_outside.ensures.lines;
      terms =
          row_step (over_row g c.args.kind.0 c.args.p.now.entries c.args.x.now) (over_one g c.args.kind.0 c.args.p.now.entries c.args.x.now) (over_row_parts g c.args.kind.0 c.args.p.now.entries c.args.x.now) c.args.ys.now c.loop-y.y-index c.y-item.result
          (opened_terms_in h c.loop-y.lines.items) (opened_terms_in c.push_outside.new.grove c.push_outside.new.lines.items) _ c.loop-y-test.true c.y-item.is put c.loop-y.invariant.terms;
    }

pub returns-in_err-push_outside-clause-grown : goal.returns-in_err-push_outside-clause-grown
returns-in_err-push_outside-clause-grown c =
    grove_trans c.args.grove.now c.loop-y.grove c.push_outside.new.grove c.loop-y.invariant.grown c.in_err-push_outside.ensures.grown

pub returns-clause-terms : goal.returns-clause-terms
returns-clause-terms c =
    let g = c.args.grove.now in
    row_end (over_row g c.args.kind.0 c.args.p.now.entries c.args.x.now) c.args.ys.now c.loop-y.y-index (opened_terms_in c.loop-y.grove c.loop-y.lines.items) _ refl c.loop-y-test.false c.loop-y.invariant.terms
