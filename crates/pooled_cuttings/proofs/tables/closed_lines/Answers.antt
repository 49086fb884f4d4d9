use Rattle.std.proofs.Common.{◌∙◌, ◌++◌, ap, List, ℕ}
use Rattle.pooled_cuttings.specs.declared.keys.ExtractKey.{ExtractKey}
use Rattle.pooled_cuttings.specs.declared.keys.OpenKey.{OpenKey}
use Rattle.pooled_cuttings.specs.Lines.{opened_terms_in, extracted_terms_in}
use Rattle.pooled_cuttings.proofs.Loops.{closed_row}
use Rattle.pooled_cuttings.proofs.EdgeSteps.{closed_table}
use Rattle.pooled_cuttings.proofs.tables.closed_lines.Goals as goal

pub returns-clause-sums : goal.returns-clause-sums
returns-clause-sums c = λ b t tables enough.
    let g = c.args.grove.now in
    let h = c.push_all_closed.new.grove in
    let start = c.extend_from_slice.new.self.items in
    let first = c.in_ok-extend_from_slice.ensures.items ∙ ap (λ (ls : List (ExtractKey × ℕ)). ls ++ c.as_slice.result.now) c.new-lines.ensures.items ∙ c.as_slice.ensures.value in
    let terms = c.in_ok-push_all_closed.ensures.terms ∙ ap (λ (ls : List (OpenKey × ℕ)). extracted_terms_in g start ++ closed_row g ls) c.as_slice-2.ensures.value in
    closed_table g.pool.types b.excess t (extracted_terms_in h c.collect_extracted.new.lines.items) (extracted_terms_in h c.push_all_closed.new.lines.items)
    (extracted_terms_in g start) (extracted_terms_in g c.args.tables.now.idle.items) (opened_terms_in g c.args.tables.now.touched.items)
    c.collect_extracted.ensures.sums (ap (extracted_terms_in g) first) terms enough tables.idle tables.touched
