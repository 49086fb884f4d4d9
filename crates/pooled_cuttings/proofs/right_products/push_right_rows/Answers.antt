use Rattle.std.proofs.Common.{◌≡◌, ◌∙◌, ◌++◌, ◌≤◌, ap, refl, sum, List, ℕ}
use Rattle.std.specs.List.{AllByRecursion}
use Rattle.tree_pool.specs.Content.{tree_at}
use Rattle.tree_pool.proofs.Growth.{grown_trans}
use Rattle.pooled_cuttings.specs.Lines.{recentred_in, recentred_terms_in, IsRightLine}
use Rattle.pooled_cuttings.specs.RightProducts.{IsRightFit, left_product, right_product, AreRightFit}
use Rattle.pooled_cuttings.proofs.Loops.{shift_at, shift_is}
use Rattle.pooled_cuttings.proofs.Means.{right_line_grown, right_lines_grown}
use Rattle.pooled_cuttings.proofs.RightLoops.{right_row, right_rows, right_rows_parts, right_row_grown, right_fits_grown, edge_grown}
use Rattle.pooled_cuttings.proofs.Rows.{row_step, row_end, all_at}
use Rattle.pooled_cuttings.proofs.right_products.push_right_rows.Goals as goal

pub push_right_row-requires-clause-edge : goal.push_right_row-requires-clause-edge
push_right_row-requires-clause-edge c =
    let p = c.args.pool.now in
    let q = c.loop-s.pool in
    let a = c.loop-s.invariant.grown in
    let e = c.args.edge.now in
    edge_grown p q a e c.requires.edge

pub push_right_row-requires-clause-shift : goal.push_right_row-requires-clause-shift
push_right_row-requires-clause-shift c =
    let p = c.args.pool.now in
    let q = c.loop-s.pool in
    let a = c.loop-s.invariant.grown in
    let e = c.args.edge.now in
    all_at (λ s. sum s.entries ≤ 8192) c.args.shifts.now c.loop-s.s-index (shift_at c.args.shifts.now c.loop-s.s-index) c.loop-s-test.true (shift_is c.args.shifts.now c.loop-s.s-index c.loop-s-test.true) c.requires.shifts

pub push_right_row-requires-clause-ys : goal.push_right_row-requires-clause-ys
push_right_row-requires-clause-ys c =
    let p = c.args.pool.now in
    let q = c.loop-s.pool in
    let a = c.loop-s.invariant.grown in
    let e = c.args.edge.now in
    right_lines_grown p q c.args.ys.now a c.requires.ys

pub push_right_row-requires-clause-lines : goal.push_right_row-requires-clause-lines
push_right_row-requires-clause-lines c =
    let p = c.args.pool.now in
    let q = c.loop-s.pool in
    let a = c.loop-s.invariant.grown in
    let e = c.args.edge.now in
    c.loop-s.invariant.lines

pub push_right_row-requires-clause-fits : goal.push_right_row-requires-clause-fits
push_right_row-requires-clause-fits c =
    let p = c.args.pool.now in
    let q = c.loop-s.pool in
    let a = c.loop-s.invariant.grown in
    let e = c.args.edge.now in
    let fit = all_at (λ s. AreRightFit p e s.entries c.args.ys.now) c.args.shifts.now c.loop-s.s-index (shift_at c.args.shifts.now c.loop-s.s-index) c.loop-s-test.true (shift_is c.args.shifts.now c.loop-s.s-index c.loop-s-test.true) c.requires.fits in
    right_fits_grown p q a e c.requires.edge (shift_at c.args.shifts.now c.loop-s.s-index).entries c.args.ys.now c.requires.ys fit

pub loop-s-preserved : goal.loop-s-preserved
loop-s-preserved c =
    let p = c.args.pool.now in
    let q = c.loop-s.pool in
    let a = c.loop-s.invariant.grown in
    let e = c.args.edge.now in
    let put = c.in_ok-push_right_row.ensures.terms ∙ ap (λ ts. recentred_terms_in q c.loop-s.lines.items ++ ts) (right_row_grown p q a e c.requires.edge (shift_at c.args.shifts.now c.loop-s.s-index).entries c.args.ys.now c.requires.ys) in
    record {
      grown = grown_trans p q c.push_right_row.new.pool a c.in_ok-push_right_row.ensures.grown;
      lines = c.in_ok-push_right_row.ensures.lines;
      terms =
          row_step (right_rows p e c.args.ys.now) (λ s. right_row p e s.entries c.args.ys.now) (right_rows_parts p e c.args.ys.now) c.args.shifts.now c.loop-s.s-index (shift_at c.args.shifts.now c.loop-s.s-index)
          (recentred_terms_in q c.loop-s.lines.items) (recentred_terms_in c.push_right_row.new.pool c.push_right_row.new.lines.items) _ c.loop-s-test.true (shift_is c.args.shifts.now c.loop-s.s-index c.loop-s-test.true) put c.loop-s.invariant.terms;
    }

pub returns-in_err-push_right_row-clause-grown : goal.returns-in_err-push_right_row-clause-grown
returns-in_err-push_right_row-clause-grown c =
    grown_trans c.args.pool.now c.loop-s.pool c.push_right_row.new.pool c.loop-s.invariant.grown c.in_err-push_right_row.ensures.grown

pub returns-clause-terms : goal.returns-clause-terms
returns-clause-terms c =
    let p = c.args.pool.now in
    let e = c.args.edge.now in
    row_end (right_rows p e c.args.ys.now) c.args.shifts.now c.loop-s.s-index (recentred_terms_in c.loop-s.pool c.loop-s.lines.items) _ refl c.loop-s-test.false c.loop-s.invariant.terms
