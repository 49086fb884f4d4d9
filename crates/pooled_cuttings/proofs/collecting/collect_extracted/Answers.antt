use Rattle.exact_sums.specs.Keyed.{same_by}
use Rattle.plain_trees.specs.Coproducts.{extracted_order}
use Rattle.cutting_tables.proofs.Sums.{same_rekeyed}
use Rattle.pooled_cuttings.specs.Lines.{IsExtractKey, extracted_in}
use Rattle.pooled_cuttings.proofs.SameKeys.{extract_test, exact_extract}
use Rattle.pooled_cuttings.proofs.SameSums.{collected_lines, all_above}
use Rattle.pooled_cuttings.proofs.collecting.collect_extracted.Goals as goal

pub collect_terms-requires-clause-above : goal.collect_terms-requires-clause-above
collect_terms-requires-clause-above c = all_above (IsExtractKey c.args.grove.now) c.args.lines.now.items c.requires

pub returns-clause-lines : goal.returns-clause-lines
returns-clause-lines c =
    collected_lines extract_test exact_extract (IsExtractKey c.args.grove.now) c.collect_terms.new.terms.items c.args.lines.now.items c.collect_terms.ensures.sums
    c.collect_terms.ensures.collected.above c.requires

pub returns-clause-sums : goal.returns-clause-sums
returns-clause-sums c =
    same_rekeyed extract_test exact_extract (same_by extracted_order) (extracted_in c.args.grove.now) c.collect_terms.new.terms.items c.args.lines.now.items c.collect_terms.ensures.sums
