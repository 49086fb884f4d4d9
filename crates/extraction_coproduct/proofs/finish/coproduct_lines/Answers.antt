use Rattle.std.proofs.Common.{◌∙◌}
use Rattle.tree_pool.specs.Content.{tree_at}
use Rattle.cutting_sizes.specs.Bounds.{most_shift}
use Rattle.cutting_sizes.proofs.Bounded.{shifts_bounded}
use Rattle.cutting_tables.proofs.Closing.{extraction_table_terms}
use Rattle.pooled_cuttings.specs.Lines.{extracted_terms_in}
use Rattle.extraction_coproduct.proofs.finish.coproduct_lines.Goals as goal

pub returns-clause-terms : goal.returns-clause-terms
returns-clause-terms c =
    let ty = c.args.grove.now.pool.types in
    let t = tree_at c.args.grove.now.pool c.args.id.0 in
    let types = c.laws.ensures.pooled.types in
    extraction_table_terms ty most_shift t (extracted_terms_in c.closed_table.new.grove c.collect_lines.new.lines.items) types (shifts_bounded ty t types c.requires.bounded)
    (λ k. c.collect_lines.ensures.sums k ∙ c.in_ok-lines.ensures.sums k) c.collect_lines.ensures.collected
