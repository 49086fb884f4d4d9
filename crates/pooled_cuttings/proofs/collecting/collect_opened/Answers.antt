use Rattle.exact_sums.specs.Keyed.{same_by}
use Rattle.cutting_tables.specs.Keys.{opened_order}
use Rattle.cutting_tables.proofs.Sums.{same_rekeyed}
use Rattle.pooled_cuttings.specs.Lines.{IsOpenKey, opened_in}
use Rattle.pooled_cuttings.proofs.SameKeys.{open_test, exact_open}
use Rattle.pooled_cuttings.proofs.SameSums.{collected_lines, all_above}
use Rattle.pooled_cuttings.proofs.collecting.collect_opened.Goals as goal

pub collect_terms-requires-clause-above : goal.collect_terms-requires-clause-above
collect_terms-requires-clause-above c = all_above (IsOpenKey c.args.grove.now) c.args.lines.now.items c.requires

pub returns-clause-lines : goal.returns-clause-lines
returns-clause-lines c =
    collected_lines open_test exact_open (IsOpenKey c.args.grove.now) c.collect_terms.new.terms.items c.args.lines.now.items c.collect_terms.ensures.sums
    c.collect_terms.ensures.collected.above c.requires

pub returns-clause-sums : goal.returns-clause-sums
returns-clause-sums c =
    same_rekeyed open_test exact_open (same_by opened_order) (opened_in c.args.grove.now) c.collect_terms.new.terms.items c.args.lines.now.items c.collect_terms.ensures.sums
