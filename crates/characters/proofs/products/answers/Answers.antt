use Rattle.std.proofs.Common.{pos, [], get_or, inl, inr}
use Rattle.std.specs.Prelude.{None}
use Rattle.std.proofs.lemmas.List.{get_or_default}
use Rattle.character_tables.specs.Rows.{rows_over}
use Rattle.characters.specs.declared.asked.Asked.{Asked}
use Rattle.characters.specs.Asked.{answers_in}
use Rattle.characters.proofs.ProductTerms.{term_too_large}
use Rattle.characters.proofs.products.answers.Goals as goal

abbrev blank : Asked
blank = record { key = record { 0 = 0 }; coefficient = pos 0; first = record { ref_ptr = (0, 0); now = [] }; second = None }

pub returns-in-Err-clause-refusal : goal.returns-in-Err-clause-refusal
returns-in-Err-clause-refusal c =
    let p = c.args.pool.now in
    let asks = c.args.asked.now in
    let i = c.loop-one.one-index in
    let lt = c.loop-one-test.true in
    let a = get_or asks i blank in
    elim c.in-Err.ensures.refusal [
      | inl m ↦ inl m
      | inr t ↦
          inr (
            t.0,
            term_too_large p (rows_over p c.args.g.now.rows) (rows_over p c.args.h.now.rows) asks i a c.loop-one.terms.items (answers_in p c.args.g.now.rows c.args.h.now.rows
                asks) lt
                (get_or_default asks i blank a lt) c.loop-one.invariant.terms t.1,
          )
    ]
