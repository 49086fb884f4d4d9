use Rattle.std.proofs.Common.{◌≡◌, ◌⊎◌, List, IfOk, IfErr, Ok, Err, ◌∙◌, subst}
use Rattle.std.proofs.lemmas.Result.{err_from_is_err_and}
use Rattle.tree_pool.specs.Content.{tree_at}
use Rattle.character_tables.specs.Rows.{Row, rows_over}
use Rattle.character_tables.proofs.Tables.{rows_grown, character_grown}
use Rattle.workbench_core.specs.declared.refusal.Refusal.TheVariants.{Memory}
use Rattle.workbench_core.specs.Characters.{Multiplies}
use Rattle.workbench_core.proofs.GivenLemmas.{fit_grown, known_grown, no_table, table_in, table_in_refused}
use Rattle.workbench_core.proofs.multiply.multiply_by.Goals as goal

pub returns-in_err-character-clause-refused : goal.returns-in_err-character-clause-refused
returns-in_err-character-clause-refused c =
    let eq = c.args.eq.now in
    let p = err_from_is_err_and c.from_residual.result c.from_residual.ensures.1 in
    rw (p.1, p.2) (no_table (λ hs. Multiplies eq (rows_over c.args.pool c.args.first.now.rows) hs (tree_at c.args.pool c.args.id.0)) eq.types c.args.second.now _ c.in_err-character.ensures.refused)

pub multiply_in_pool-requires-clause-types : goal.multiply_in_pool-requires-clause-types
multiply_in_pool-requires-clause-types c = c.in_ok-character.ensures.grown.types ∙ c.requires.types

pub multiply_in_pool-requires-clause-known : goal.multiply_in_pool-requires-clause-known
multiply_in_pool-requires-clause-known c = known_grown c.args.pool c.given_table.new.pool c.args.id.0 c.in_ok-character.ensures.grown c.requires.known

pub multiply_in_pool-requires-clause-fit : goal.multiply_in_pool-requires-clause-fit
multiply_in_pool-requires-clause-fit c = fit_grown c.args.pool c.given_table.new.pool c.args.id.0 c.in_ok-character.ensures.grown c.requires.known c.requires.fit

pub multiply_in_pool-requires-clause-first : goal.multiply_in_pool-requires-clause-first
multiply_in_pool-requires-clause-first c = character_grown c.args.pool c.given_table.new.pool c.args.first.now.rows c.in_ok-character.ensures.grown c.requires.rows

pub returns-clause-text : goal.returns-clause-text
returns-clause-text c =
    let eq = c.args.eq.now in
    let new = c.given_table.new.pool in
    let e = c.in_ok-character.ensures in
    let gs = rows_over c.args.pool c.args.first.now.rows in
    let hs = rows_over new c.in_ok-character.character.rows in
    let rows = rows_grown c.args.pool new c.args.first.now.rows e.grown c.requires.rows.known in
    table_in (λ t hs. Multiplies eq gs hs t) eq.types c.args.second.now c.args.pool new c.args.id.0 c.in_ok-character.character.rows e.grown c.requires.known e.short e.rows (λ v. v.items)
    c.multiply_in_pool.result
    (subst (λ (qs : List Row). IfOk c.multiply_in_pool.result (λ v. Multiplies eq qs hs (tree_at new c.args.id.0) (Ok v.items))) rows c.multiply_in_pool.ensures.text)

pub returns-clause-refused : goal.returns-clause-refused
returns-clause-refused c =
    let eq = c.args.eq.now in
    let new = c.given_table.new.pool in
    let e = c.in_ok-character.ensures in
    let gs = rows_over c.args.pool c.args.first.now.rows in
    let hs = rows_over new c.in_ok-character.character.rows in
    let rows = rows_grown c.args.pool new c.args.first.now.rows e.grown c.requires.rows.known in
    table_in_refused (λ t hs. Multiplies eq gs hs t) eq.types c.args.second.now c.args.pool new c.args.id.0 c.in_ok-character.character.rows e.grown c.requires.known e.short e.rows
    c.multiply_in_pool.result
    (subst (λ (qs : List Row). IfErr c.multiply_in_pool.result (λ e. (e ≡ Memory) ⊎ Multiplies eq qs hs (tree_at new c.args.id.0) (Err e))) rows c.multiply_in_pool.ensures.refused)
