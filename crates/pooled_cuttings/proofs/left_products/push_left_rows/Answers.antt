use Rattle.std.proofs.Common.{◌≡◌, ◌∙◌, ◌++◌, ◌≤◌, ap, refl, sum, List, ℕ}
use Rattle.std.specs.List.{AllByRecursion}
use Rattle.tree_pool.specs.Content.{tree_at}
use Rattle.tree_pool.proofs.Growth.{grown_trans}
use Rattle.pooled_cuttings.specs.Lines.{recentred_in, recentred_terms_in, IsRightLine}
use Rattle.pooled_cuttings.specs.RightProducts.{IsRightFit, left_product, right_product, AreRightFit}
use Rattle.pooled_cuttings.proofs.Loops.{shift_at, shift_is}
use Rattle.pooled_cuttings.proofs.Means.{right_line_grown, right_lines_grown}
use Rattle.pooled_cuttings.proofs.RightLoops.{left_row, left_rows, left_rows_parts, left_row_grown, left_fits_grown}
use Rattle.pooled_cuttings.proofs.Rows.{row_step, row_end, all_at}
use Rattle.pooled_cuttings.proofs.left_products.push_left_rows.Goals as goal

pub push_left_row-requires-clause-x : goal.push_left_row-requires-clause-x
push_left_row-requires-clause-x c =
    let p = c.args.pool.now in
    let q = c.loop-x.pool in
    let a = c.loop-x.invariant.grown in
    let e = c.args.edge.now in
    let line = all_at (IsRightLine p) c.args.xs.now c.loop-x.x-index c.x-item.result c.loop-x-test.true c.x-item.is c.requires.xs in
    right_line_grown p q c.x-item.result a line

pub push_left_row-requires-clause-ys : goal.push_left_row-requires-clause-ys
push_left_row-requires-clause-ys c =
    let p = c.args.pool.now in
    let q = c.loop-x.pool in
    let a = c.loop-x.invariant.grown in
    let e = c.args.edge.now in
    right_lines_grown p q c.args.ys.now a c.requires.ys

pub push_left_row-requires-clause-lines : goal.push_left_row-requires-clause-lines
push_left_row-requires-clause-lines c =
    let p = c.args.pool.now in
    let q = c.loop-x.pool in
    let a = c.loop-x.invariant.grown in
    let e = c.args.edge.now in
    c.loop-x.invariant.lines

pub push_left_row-requires-clause-fits : goal.push_left_row-requires-clause-fits
push_left_row-requires-clause-fits c =
    let p = c.args.pool.now in
    let q = c.loop-x.pool in
    let a = c.loop-x.invariant.grown in
    let e = c.args.edge.now in
    let line = all_at (IsRightLine p) c.args.xs.now c.loop-x.x-index c.x-item.result c.loop-x-test.true c.x-item.is c.requires.xs in
    let fit = all_at (λ x. AllByRecursion (λ y. IsRightFit p.types (left_product e (recentred_in p x.0) (recentred_in p y.0))) c.args.ys.now) c.args.xs.now c.loop-x.x-index c.x-item.result c.loop-x-test.true c.x-item.is c.requires.fits in
    left_fits_grown p q a e c.x-item.result c.args.ys.now line c.requires.ys fit

pub loop-x-preserved : goal.loop-x-preserved
loop-x-preserved c =
    let p = c.args.pool.now in
    let q = c.loop-x.pool in
    let a = c.loop-x.invariant.grown in
    let e = c.args.edge.now in
    let line = all_at (IsRightLine p) c.args.xs.now c.loop-x.x-index c.x-item.result c.loop-x-test.true c.x-item.is c.requires.xs in
    let put = c.in_ok-push_left_row.ensures.terms ∙ ap (λ ts. recentred_terms_in q c.loop-x.lines.items ++ ts) (left_row_grown p q a e c.x-item.result c.args.ys.now line c.requires.ys) in
    record {
      grown = grown_trans p q c.push_left_row.new.pool a c.in_ok-push_left_row.ensures.grown;
      lines = c.in_ok-push_left_row.ensures.lines;
      terms =
          row_step (left_rows p e c.args.ys.now) (λ x. left_row p e x c.args.ys.now) (left_rows_parts p e c.args.ys.now) c.args.xs.now c.loop-x.x-index c.x-item.result
          (recentred_terms_in q c.loop-x.lines.items) (recentred_terms_in c.push_left_row.new.pool c.push_left_row.new.lines.items) _ c.loop-x-test.true c.x-item.is put c.loop-x.invariant.terms;
    }

pub returns-in_err-push_left_row-clause-grown : goal.returns-in_err-push_left_row-clause-grown
returns-in_err-push_left_row-clause-grown c =
    grown_trans c.args.pool.now c.loop-x.pool c.push_left_row.new.pool c.loop-x.invariant.grown c.in_err-push_left_row.ensures.grown

pub returns-clause-terms : goal.returns-clause-terms
returns-clause-terms c =
    let p = c.args.pool.now in
    let e = c.args.edge.now in
    row_end (left_rows p e c.args.ys.now) c.args.xs.now c.loop-x.x-index (recentred_terms_in c.loop-x.pool c.loop-x.lines.items) _ refl c.loop-x-test.false c.loop-x.invariant.terms
