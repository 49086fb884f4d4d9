use Rattle.std.proofs.Common.{◌∙◌}
use Rattle.tree_pool.specs.Content.{tree_at}
use Rattle.cutting_sizes.specs.Bounds.{most_shift}
use Rattle.cutting_sizes.proofs.Recentred.{shifts_fit}
use Rattle.cutting_tables.proofs.Rooted.{recentring_table_terms}
use Rattle.pooled_cuttings.specs.Lines.{recentred_terms_in}
use Rattle.recentring_coproduct.proofs.finish.recentring_lines.Goals as goal

pub returns-clause-terms : goal.returns-clause-terms
returns-clause-terms c =
    let ty = c.args.pool.now.types in
    let t = tree_at c.args.pool.now c.args.id.0 in
    let types = c.laws.ensures.types in
    recentring_table_terms ty most_shift t (recentred_terms_in c.table_over.new.pool c.collect_lines.new.lines.items) types (shifts_fit ty t types c.requires.fit)
    (λ k. c.collect_lines.ensures.sums k ∙ rw c.table_over.ensures.grown.types at c.in_ok-lines.ensures.table.sums k) c.collect_lines.ensures.collected
