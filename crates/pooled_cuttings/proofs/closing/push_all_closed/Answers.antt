use Rattle.std.proofs.Common.{◌≡◌, ◌∙◌, ◌++◌, ap, refl, List, ℕ}
use Rattle.pooled_cuttings.specs.Lines.{extracted_terms_in, IsOpenLine, IsExtractLine, opened_in, extracted_in}
use Rattle.pooled_cuttings.proofs.Groves.{grove_refl, grove_trans}
use Rattle.pooled_cuttings.proofs.Means.{open_line_grown, extract_line_grown, open_lines_grown, extract_lines_grown}
use Rattle.pooled_cuttings.proofs.Rows.{row_step, row_end, all_at}
use Rattle.pooled_cuttings.proofs.Loops.{closed_row, closed_one, closed_row_parts, closed_one_grown}
use Rattle.pooled_cuttings.specs.Products.{IsInsideFit, IsOutsideFit, IsBesideFit, AreOutsideFit}
use Rattle.std.specs.List.{AllByRecursion}
use Rattle.std.proofs.Common.{sum, ◌≤◌}
use Rattle.pooled_cuttings.proofs.closing.push_all_closed.Goals as goal

pub push_closed-requires-clause-x : goal.push_closed-requires-clause-x
push_closed-requires-clause-x c =
    let g = c.args.grove.now in
    let h = c.loop-x.grove in
    let a = c.loop-x.invariant.grown in
    let line = all_at (IsOpenLine g) c.args.xs.now c.loop-x.x-index c.x-item.result c.loop-x-test.true c.x-item.is c.requires.xs in
    open_line_grown g h c.x-item.result a line

pub push_closed-requires-clause-lines : goal.push_closed-requires-clause-lines
push_closed-requires-clause-lines c =
    c.loop-x.invariant.lines

pub loop-x-preserved : goal.loop-x-preserved
loop-x-preserved c =
    let g = c.args.grove.now in
    let h = c.loop-x.grove in
    let line = all_at (IsOpenLine g) c.args.xs.now c.loop-x.x-index c.x-item.result c.loop-x-test.true c.x-item.is c.requires.xs in
    let put = c.in_ok-push_closed.ensures.terms ∙ ap (λ ts. extracted_terms_in h c.loop-x.lines.items ++ ts) (closed_one_grown g h c.x-item.result c.laws.ensures c.loop-x.invariant.grown line) in
    record {
      grown = grove_trans g h c.push_closed.new.grove c.loop-x.invariant.grown c.in_ok-push_closed.ensures.grown;
      lines = c.in_ok-push_closed.ensures.lines;
      terms =
          row_step (closed_row g) (closed_one g) (closed_row_parts g) c.args.xs.now c.loop-x.x-index c.x-item.result
          (extracted_terms_in h c.loop-x.lines.items) (extracted_terms_in c.push_closed.new.grove c.push_closed.new.lines.items) _ c.loop-x-test.true c.x-item.is put c.loop-x.invariant.terms;
    }

pub returns-in_err-push_closed-clause-grown : goal.returns-in_err-push_closed-clause-grown
returns-in_err-push_closed-clause-grown c =
    grove_trans c.args.grove.now c.loop-x.grove c.push_closed.new.grove c.loop-x.invariant.grown c.in_err-push_closed.ensures.grown

pub returns-clause-terms : goal.returns-clause-terms
returns-clause-terms c =
    let g = c.args.grove.now in
    row_end (closed_row g) c.args.xs.now c.loop-x.x-index (extracted_terms_in c.loop-x.grove c.loop-x.lines.items) _ refl c.loop-x-test.false c.loop-x.invariant.terms
