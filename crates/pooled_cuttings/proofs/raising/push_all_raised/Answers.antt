use Rattle.std.proofs.Common.{◌≡◌, ◌∙◌, ◌++◌, ap, refl, List, ℕ}
use Rattle.pooled_cuttings.specs.Lines.{opened_terms_in, IsOpenLine, opened_in}
use Rattle.pooled_cuttings.specs.Products.{IsRaisedFit}
use Rattle.pooled_cuttings.proofs.Groves.{grove_trans}
use Rattle.pooled_cuttings.proofs.Means.{open_line_grown}
use Rattle.pooled_cuttings.proofs.Rows.{row_step, row_end, all_at}
use Rattle.pooled_cuttings.proofs.Loops.{raised_row, raised_one, raised_row_parts, raised_one_grown, raised_fit_grown}
use Rattle.pooled_cuttings.proofs.raising.push_all_raised.Goals as goal

pub push_raised-requires-clause-y : goal.push_raised-requires-clause-y
push_raised-requires-clause-y c =
    let g = c.args.grove.now in
    let h = c.loop-y.grove in
    let a = c.loop-y.invariant.grown in
    let line = all_at (IsOpenLine g) c.args.ys.now c.loop-y.y-index c.y-item.result c.loop-y-test.true c.y-item.is c.requires.ys in
    open_line_grown g h c.y-item.result a line

pub push_raised-requires-clause-lines : goal.push_raised-requires-clause-lines
push_raised-requires-clause-lines c =
    c.loop-y.invariant.lines

pub push_raised-requires-clause-fits : goal.push_raised-requires-clause-fits
push_raised-requires-clause-fits c =
    let g = c.args.grove.now in
    let h = c.loop-y.grove in
    let a = c.loop-y.invariant.grown in
    let line = all_at (IsOpenLine g) c.args.ys.now c.loop-y.y-index c.y-item.result c.loop-y-test.true c.y-item.is c.requires.ys in
    let fit = all_at (λ y. IsRaisedFit g.pool.types c.args.step.now c.args.s.now.entries (opened_in g y.0)) c.args.ys.now c.loop-y.y-index c.y-item.result c.loop-y-test.true c.y-item.is c.requires.fits in
    raised_fit_grown g h c.laws.ensures a c.args.step.now c.args.s.now.entries c.y-item.result line fit

pub loop-y-preserved : goal.loop-y-preserved
loop-y-preserved c =
    let g = c.args.grove.now in
    let h = c.loop-y.grove in
    let e = c.args.step.now in
    let s = c.args.s.now.entries in
    let line = all_at (IsOpenLine g) c.args.ys.now c.loop-y.y-index c.y-item.result c.loop-y-test.true c.y-item.is c.requires.ys in
    let put = c.in_ok-push_raised.ensures.terms ∙ ap (λ ts. opened_terms_in h c.loop-y.lines.items ++ ts) (raised_one_grown g h c.laws.ensures c.loop-y.invariant.grown e s c.y-item.result line) in
    record {
      grown = grove_trans g h c.push_raised.new.grove c.loop-y.invariant.grown c.in_ok-push_raised.ensures.grown;
      lines = c.in_ok-push_raised.ensures.lines;
      terms =
          row_step (raised_row g e s) (raised_one g e s) (raised_row_parts g e s) c.args.ys.now c.loop-y.y-index c.y-item.result
          (opened_terms_in h c.loop-y.lines.items) (opened_terms_in c.push_raised.new.grove c.push_raised.new.lines.items) _ c.loop-y-test.true c.y-item.is put c.loop-y.invariant.terms;
    }

pub returns-in_err-push_raised-clause-grown : goal.returns-in_err-push_raised-clause-grown
returns-in_err-push_raised-clause-grown c =
    grove_trans c.args.grove.now c.loop-y.grove c.push_raised.new.grove c.loop-y.invariant.grown c.in_err-push_raised.ensures.grown

pub returns-clause-terms : goal.returns-clause-terms
returns-clause-terms c =
    let g = c.args.grove.now in
    row_end (raised_row g c.args.step.now c.args.s.now.entries) c.args.ys.now c.loop-y.y-index (opened_terms_in c.loop-y.grove c.loop-y.lines.items) _ refl c.loop-y-test.false c.loop-y.invariant.terms
