use Rattle.std.proofs.Common.{◌≡◌, ◌<◌, [], List, map, ap, ◌∙◌, subst}
use Rattle.std.specs.Prelude.{IfErr, IfOk, OnOk}
use Rattle.exact_sums.specs.Saturating.{overflow}
use Rattle.signed_sums.specs.Signed.{size_of}
use Rattle.tree_pool.specs.Content.{Content}
use Rattle.extraction_coproduct.specs.Finished.{grove_of}
use Rattle.extraction_coproduct.specs.Terms.{terms_in}
use Rattle.character_tables.specs.Rows.{rows_over}
use Rattle.characters.specs.Asked.{Question, IsNotGiven, answers, answers_in, missing, missing_in, asked_in, question}
use Rattle.characters.specs.Sums.{sum_of}
use Rattle.characters.proofs.multiply.sum_over.Goals as goal

pub returns-clause-given : goal.returns-clause-given
returns-clause-given c =
    let b = c.args.tables.now in
    let g = c.args.g.now.rows in
    let h = c.args.h.now.rows in
    let gs = rows_over b.pool g in
    let hs = rows_over b.pool h in
    let slice = c.as_slice.result.now in
    let asked : map (asked_in b.pool) slice ≡ map question (terms_in (grove_of b) c.args.terms.now) = ap (map (asked_in b.pool)) c.as_slice.ensures.value ∙
    c.in_ok-asked.ensures.questions in
    subst (λ (qs : List Question). OnOk c.sum.result ((missing gs hs qs ≡ []) × (size_of (answers gs hs qs) < overflow))) asked
    (subst (λ (p : Content). OnOk c.sum.result ((missing_in p g h slice ≡ []) × (size_of (answers_in p g h slice) < overflow))) c.pool.ensures c.sum.ensures.given)

pub returns-clause-refusal : goal.returns-clause-refusal
returns-clause-refusal c =
    let b = c.args.tables.now in
    let g = c.args.g.now.rows in
    let h = c.args.h.now.rows in
    let gs = rows_over b.pool g in
    let hs = rows_over b.pool h in
    let slice = c.as_slice.result.now in
    let asked : map (asked_in b.pool) slice ≡ map question (terms_in (grove_of b) c.args.terms.now) = ap (map (asked_in b.pool)) c.as_slice.ensures.value ∙
    c.in_ok-asked.ensures.questions in
    subst (λ (qs : List Question). IfErr c.sum.result (IsNotGiven b.pool (missing gs hs qs) (size_of (answers gs hs qs)))) asked
    (subst (λ (p : Content). IfErr c.sum.result (IsNotGiven p (missing_in p g h slice) (size_of (answers_in p g h slice)))) c.pool.ensures c.sum.ensures.refusal)

pub returns-clause-sum : goal.returns-clause-sum
returns-clause-sum c =
    let b = c.args.tables.now in
    let g = c.args.g.now.rows in
    let h = c.args.h.now.rows in
    let gs = rows_over b.pool g in
    let hs = rows_over b.pool h in
    let slice = c.as_slice.result.now in
    let asked : map (asked_in b.pool) slice ≡ map question (terms_in (grove_of b) c.args.terms.now) = ap (map (asked_in b.pool)) c.as_slice.ensures.value ∙
    c.in_ok-asked.ensures.questions in
    subst (λ (qs : List Question). IfOk c.sum.result (λ z. z ≡ sum_of (answers gs hs qs))) asked
    (subst (λ (p : Content). IfOk c.sum.result (λ z. z ≡ sum_of (answers_in p g h slice))) c.pool.ensures c.sum.ensures.sum)
