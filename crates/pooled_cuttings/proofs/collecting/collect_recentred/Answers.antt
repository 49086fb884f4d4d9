use Rattle.exact_sums.specs.Keyed.{same_by}
use Rattle.plain_trees.specs.Coproducts.{recentred_order}
use Rattle.cutting_tables.proofs.Sums.{same_rekeyed}
use Rattle.pooled_cuttings.specs.Lines.{IsRightKey, recentred_in}
use Rattle.pooled_cuttings.proofs.SameKeys.{right_test, exact_right}
use Rattle.pooled_cuttings.proofs.SameSums.{collected_lines, all_above}
use Rattle.pooled_cuttings.proofs.collecting.collect_recentred.Goals as goal

pub collect_terms-requires-clause-above : goal.collect_terms-requires-clause-above
collect_terms-requires-clause-above c = all_above (IsRightKey c.args.pool.now) c.args.lines.now.items c.requires

pub returns-clause-lines : goal.returns-clause-lines
returns-clause-lines c =
    collected_lines right_test exact_right (IsRightKey c.args.pool.now) c.collect_terms.new.terms.items c.args.lines.now.items c.collect_terms.ensures.sums
    c.collect_terms.ensures.collected.above c.requires

pub returns-clause-sums : goal.returns-clause-sums
returns-clause-sums c =
    same_rekeyed right_test exact_right (same_by recentred_order) (recentred_in c.args.pool.now) c.collect_terms.new.terms.items c.args.lines.now.items c.collect_terms.ensures.sums
