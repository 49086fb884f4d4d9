use Rattle.std.proofs.Common.{◌≡◌, ◌<◌, [], List, map, ap, ◌∙◌, subst}
use Rattle.std.specs.Prelude.{IfErr, OnOk}
use Rattle.exact_sums.specs.Saturating.{overflow}
use Rattle.signed_sums.specs.Signed.{size_of}
use Rattle.tree_pool.specs.Content.{Content}
use Rattle.extraction_coproduct.specs.Finished.{grove_of}
use Rattle.extraction_coproduct.specs.Terms.{terms_in}
use Rattle.character_tables.specs.Rows.{rows_over}
use Rattle.characters.specs.Asked.{Question, IsNotGiven, answers, answers_in, missing, missing_in, asked_in, left_question}
use Rattle.characters.proofs.act.left_lines.Goals as goal

pub returns-clause-given : goal.returns-clause-given
returns-clause-given c =
    let b = c.args.tables.now in
    let g = c.args.g.now.rows in
    let gs = rows_over b.pool g in
    let slice = c.as_slice.result.now in
    let asked : map (asked_in b.pool) slice ≡ map left_question (terms_in (grove_of b) c.args.terms.now) = ap (map (asked_in b.pool)) c.as_slice.ensures.value ∙
    c.in_ok-asked.ensures.questions in
    subst (λ (qs : List Question). OnOk c.lines.result ((missing gs gs qs ≡ []) × (size_of (answers gs gs qs) < overflow))) asked
    (subst (λ (p : Content). OnOk c.lines.result ((missing_in p g g slice ≡ []) × (size_of (answers_in p g g slice) < overflow))) c.pool.ensures c.lines.ensures.given)

pub returns-clause-refusal : goal.returns-clause-refusal
returns-clause-refusal c =
    let b = c.args.tables.now in
    let g = c.args.g.now.rows in
    let gs = rows_over b.pool g in
    let slice = c.as_slice.result.now in
    let asked : map (asked_in b.pool) slice ≡ map left_question (terms_in (grove_of b) c.args.terms.now) = ap (map (asked_in b.pool)) c.as_slice.ensures.value ∙
    c.in_ok-asked.ensures.questions in
    subst (λ (qs : List Question). IfErr c.lines.result (IsNotGiven b.pool (missing gs gs qs) (size_of (answers gs gs qs)))) asked
    (subst (λ (p : Content). IfErr c.lines.result (IsNotGiven p (missing_in p g g slice) (size_of (answers_in p g g slice)))) c.pool.ensures c.lines.ensures.refusal)
