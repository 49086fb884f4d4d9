use Rattle.std.proofs.Common.{◌≡◌, ◌∙◌, ◌++◌, ◌≤◌, ap, refl, sum, List, ℕ}
use Rattle.std.specs.List.{AllByRecursion}
use Rattle.tree_pool.specs.Content.{tree_at}
use Rattle.tree_pool.proofs.Growth.{grown_trans}
use Rattle.pooled_cuttings.specs.Lines.{recentred_in, recentred_terms_in, IsRightLine}
use Rattle.pooled_cuttings.specs.RightProducts.{IsRightFit, left_product, right_product, AreRightFit}
use Rattle.pooled_cuttings.proofs.Loops.{shift_at, shift_is}
use Rattle.pooled_cuttings.proofs.Means.{right_line_grown, right_lines_grown}
use Rattle.pooled_cuttings.proofs.RightLoops.{left_row, left_one, left_row_parts, left_one_grown, left_fit_grown}
use Rattle.pooled_cuttings.proofs.Rows.{row_step, row_end, all_at}
use Rattle.pooled_cuttings.proofs.left_products.push_left_row.Goals as goal

pub push_left-requires-clause-x : goal.push_left-requires-clause-x
push_left-requires-clause-x c =
    let p = c.args.pool.now in
    let q = c.loop-y.pool in
    let a = c.loop-y.invariant.grown in
    let e = c.args.edge.now in
    right_line_grown p q c.args.x.now a c.requires.x

pub push_left-requires-clause-y : goal.push_left-requires-clause-y
push_left-requires-clause-y c =
    let p = c.args.pool.now in
    let q = c.loop-y.pool in
    let a = c.loop-y.invariant.grown in
    let e = c.args.edge.now in
    let line = all_at (IsRightLine p) c.args.ys.now c.loop-y.y-index c.y-item.result c.loop-y-test.true c.y-item.is c.requires.ys in
    right_line_grown p q c.y-item.result a line

pub push_left-requires-clause-lines : goal.push_left-requires-clause-lines
push_left-requires-clause-lines c =
    let p = c.args.pool.now in
    let q = c.loop-y.pool in
    let a = c.loop-y.invariant.grown in
    let e = c.args.edge.now in
    c.loop-y.invariant.lines

pub push_left-requires-clause-fits : goal.push_left-requires-clause-fits
push_left-requires-clause-fits c =
    let p = c.args.pool.now in
    let q = c.loop-y.pool in
    let a = c.loop-y.invariant.grown in
    let e = c.args.edge.now in
    let line = all_at (IsRightLine p) c.args.ys.now c.loop-y.y-index c.y-item.result c.loop-y-test.true c.y-item.is c.requires.ys in
    let fit = all_at (λ y. IsRightFit p.types (left_product e (recentred_in p c.args.x.now.0) (recentred_in p y.0))) c.args.ys.now c.loop-y.y-index c.y-item.result c.loop-y-test.true c.y-item.is c.requires.fits in
    left_fit_grown p q a e c.args.x.now c.y-item.result c.requires.x line fit

pub loop-y-preserved : goal.loop-y-preserved
loop-y-preserved c =
    let p = c.args.pool.now in
    let q = c.loop-y.pool in
    let a = c.loop-y.invariant.grown in
    let e = c.args.edge.now in
    let line = all_at (IsRightLine p) c.args.ys.now c.loop-y.y-index c.y-item.result c.loop-y-test.true c.y-item.is c.requires.ys in
    let put = c.in_ok-push_left.ensures.terms ∙ ap (λ ts. recentred_terms_in q c.loop-y.lines.items ++ ts) (left_one_grown p q a e c.args.x.now c.y-item.result c.requires.x line) in
    record {
      grown = grown_trans p q c.push_left.new.pool a c.in_ok-push_left.ensures.grown;
      lines = c.in_ok-push_left.ensures.lines;
      terms =
          row_step (left_row p e c.args.x.now) (left_one p e c.args.x.now) (left_row_parts p e c.args.x.now) c.args.ys.now c.loop-y.y-index c.y-item.result
          (recentred_terms_in q c.loop-y.lines.items) (recentred_terms_in c.push_left.new.pool c.push_left.new.lines.items) _ c.loop-y-test.true c.y-item.is put c.loop-y.invariant.terms;
    }

pub returns-in_err-push_left-clause-grown : goal.returns-in_err-push_left-clause-grown
returns-in_err-push_left-clause-grown c =
    grown_trans c.args.pool.now c.loop-y.pool c.push_left.new.pool c.loop-y.invariant.grown c.in_err-push_left.ensures.grown

pub returns-clause-terms : goal.returns-clause-terms
returns-clause-terms c =
    let p = c.args.pool.now in
    let e = c.args.edge.now in
    row_end (left_row p e c.args.x.now) c.args.ys.now c.loop-y.y-index (recentred_terms_in c.loop-y.pool c.loop-y.lines.items) _ refl c.loop-y-test.false c.loop-y.invariant.terms
