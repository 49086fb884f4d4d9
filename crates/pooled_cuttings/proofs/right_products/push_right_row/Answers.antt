use Rattle.std.proofs.Common.{◌≡◌, ◌∙◌, ◌++◌, ◌≤◌, ap, refl, sum, List, ℕ}
use Rattle.std.specs.List.{AllByRecursion}
use Rattle.tree_pool.specs.Content.{tree_at}
use Rattle.tree_pool.proofs.Growth.{grown_trans}
use Rattle.pooled_cuttings.specs.Lines.{recentred_in, recentred_terms_in, IsRightLine}
use Rattle.pooled_cuttings.specs.RightProducts.{IsRightFit, left_product, right_product, AreRightFit}
use Rattle.pooled_cuttings.proofs.Loops.{shift_at, shift_is}
use Rattle.pooled_cuttings.proofs.Means.{right_line_grown, right_lines_grown}
use Rattle.pooled_cuttings.proofs.RightLoops.{right_row, right_one, right_row_parts, right_one_grown, right_fit_grown, edge_grown}
use Rattle.pooled_cuttings.proofs.Rows.{row_step, row_end, all_at}
use Rattle.pooled_cuttings.proofs.right_products.push_right_row.Goals as goal

pub push_right-requires-clause-edge : goal.push_right-requires-clause-edge
push_right-requires-clause-edge c =
    let p = c.args.pool.now in
    let q = c.loop-y.pool in
    let a = c.loop-y.invariant.grown in
    let e = c.args.edge.now in
    edge_grown p q a e c.requires.edge

pub push_right-requires-clause-y : goal.push_right-requires-clause-y
push_right-requires-clause-y c =
    let p = c.args.pool.now in
    let q = c.loop-y.pool in
    let a = c.loop-y.invariant.grown in
    let e = c.args.edge.now in
    let line = all_at (IsRightLine p) c.args.ys.now c.loop-y.y-index c.y-item.result c.loop-y-test.true c.y-item.is c.requires.ys in
    right_line_grown p q c.y-item.result a line

pub push_right-requires-clause-lines : goal.push_right-requires-clause-lines
push_right-requires-clause-lines c =
    let p = c.args.pool.now in
    let q = c.loop-y.pool in
    let a = c.loop-y.invariant.grown in
    let e = c.args.edge.now in
    c.loop-y.invariant.lines

pub push_right-requires-clause-fits : goal.push_right-requires-clause-fits
push_right-requires-clause-fits c =
    let p = c.args.pool.now in
    let q = c.loop-y.pool in
    let a = c.loop-y.invariant.grown in
    let e = c.args.edge.now in
    let line = all_at (IsRightLine p) c.args.ys.now c.loop-y.y-index c.y-item.result c.loop-y-test.true c.y-item.is c.requires.ys in
    let fit = all_at (λ y. IsRightFit p.types (right_product e (tree_at p e.child.0) c.args.s.now.entries (recentred_in p y.0))) c.args.ys.now c.loop-y.y-index c.y-item.result c.loop-y-test.true c.y-item.is c.requires.fits in
    right_fit_grown p q a e c.requires.edge c.args.s.now.entries c.y-item.result line fit

pub loop-y-preserved : goal.loop-y-preserved
loop-y-preserved c =
    let p = c.args.pool.now in
    let q = c.loop-y.pool in
    let a = c.loop-y.invariant.grown in
    let e = c.args.edge.now in
    let line = all_at (IsRightLine p) c.args.ys.now c.loop-y.y-index c.y-item.result c.loop-y-test.true c.y-item.is c.requires.ys in
    let put = c.in_ok-push_right.ensures.terms ∙ ap (λ ts. recentred_terms_in q c.loop-y.lines.items ++ ts) (right_one_grown p q a e c.requires.edge c.args.s.now.entries c.y-item.result line) in
    record {
      grown = grown_trans p q c.push_right.new.pool a c.in_ok-push_right.ensures.grown;
      lines = c.in_ok-push_right.ensures.lines;
      terms =
          row_step (right_row p e c.args.s.now.entries) (right_one p e c.args.s.now.entries) (right_row_parts p e c.args.s.now.entries) c.args.ys.now c.loop-y.y-index c.y-item.result
          (recentred_terms_in q c.loop-y.lines.items) (recentred_terms_in c.push_right.new.pool c.push_right.new.lines.items) _ c.loop-y-test.true c.y-item.is put c.loop-y.invariant.terms;
    }

pub returns-in_err-push_right-clause-grown : goal.returns-in_err-push_right-clause-grown
returns-in_err-push_right-clause-grown c =
    grown_trans c.args.pool.now c.loop-y.pool c.push_right.new.pool c.loop-y.invariant.grown c.in_err-push_right.ensures.grown

pub returns-clause-terms : goal.returns-clause-terms
returns-clause-terms c =
    let p = c.args.pool.now in
    let e = c.args.edge.now in
    row_end (right_row p e c.args.s.now.entries) c.args.ys.now c.loop-y.y-index (recentred_terms_in c.loop-y.pool c.loop-y.lines.items) _ refl c.loop-y-test.false c.loop-y.invariant.terms
