use Rattle.std.proofs.Common.{map, [], refl}
use Rattle.exact_sums.specs.Keyed.{same_by}
use Rattle.cutting_tables.specs.Keys.{opened_order}
use Rattle.pooled_cuttings.specs.Lines.{opened_terms_in, extracted_terms_in}
use Rattle.pooled_cuttings.specs.Products.{low_terms, touched_products}
use Rattle.pooled_cuttings.proofs.SameSums.{after_collecting}
use Rattle.pooled_cuttings.proofs.branches.touched_lines.Goals as goal

pub returns-clause-sums : goal.returns-clause-sums
returns-clause-sums c =
    let g = c.args.grove.now in
    let h = c.touched_rows.new.grove in
    after_collecting (same_by opened_order) (opened_terms_in h c.collect_opened.new.lines.items) (opened_terms_in h c.in_ok-lines.lines.items) []
    (low_terms g.pool.types c.args.step.now.most
    (touched_products c.args.step.now (map (λ m. m.entries) c.args.shifts.now) (opened_terms_in g c.args.above.now) (extracted_terms_in g c.args.closed.now) (opened_terms_in g c.args.touched.now)))
    c.collect_opened.ensures.sums refl c.in_ok-lines.ensures.terms
