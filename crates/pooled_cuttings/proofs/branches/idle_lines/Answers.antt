use Rattle.std.proofs.Common.{ap}
use Rattle.exact_sums.specs.Keyed.{same_by, products}
use Rattle.plain_trees.specs.Coproducts.{extracted_order}
use Rattle.cutting_tables.specs.Keys.{beside}
use Rattle.pooled_cuttings.specs.Lines.{extracted_terms_in}
use Rattle.pooled_cuttings.proofs.SameSums.{after_collecting}
use Rattle.pooled_cuttings.proofs.branches.idle_lines.Goals as goal

pub returns-clause-sums : goal.returns-clause-sums
returns-clause-sums c =
    let g = c.args.grove.now in
    let h = c.push_beside_rows.new.grove in
    after_collecting (same_by extracted_order) (extracted_terms_in h c.collect_extracted.new.lines.items) (extracted_terms_in h c.push_beside_rows.new.lines.items)
    (extracted_terms_in g c.new-lines.result.items)
    (products (λ x y. 1) (beside c.args.step.now.kind.0 c.args.step.now.p.entries) (extracted_terms_in g c.args.closed.now) (extracted_terms_in g c.args.idle.now))
    c.collect_extracted.ensures.sums (ap (extracted_terms_in g) c.new-lines.ensures.items) c.in_ok-push_beside_rows.ensures.terms
