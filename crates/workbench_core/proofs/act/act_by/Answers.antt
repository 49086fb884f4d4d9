use Rattle.std.proofs.Common.{◌∙◌}
use Rattle.std.proofs.lemmas.Result.{err_from_is_err_and}
use Rattle.tree_pool.specs.Content.{tree_at}
use Rattle.workbench_core.specs.Characters.{Acts}
use Rattle.workbench_core.proofs.GivenLemmas.{fit_grown, known_grown, no_table, table_in, table_in_refused}
use Rattle.workbench_core.proofs.act.act_by.Goals as goal

pub returns-in_err-character-clause-refused : goal.returns-in_err-character-clause-refused
returns-in_err-character-clause-refused c =
    let eq = c.args.eq.now in
    let p = err_from_is_err_and c.from_residual.result c.from_residual.ensures.1 in
    rw (p.1, p.2) (no_table (λ rows. Acts eq c.args.recentre rows (tree_at c.args.pool c.args.id.0)) eq.types c.args.table.now _ c.in_err-character.ensures.refused)

pub act_in_pool-requires-clause-types : goal.act_in_pool-requires-clause-types
act_in_pool-requires-clause-types c = c.in_ok-character.ensures.grown.types ∙ c.requires.types

pub act_in_pool-requires-clause-known : goal.act_in_pool-requires-clause-known
act_in_pool-requires-clause-known c = known_grown c.args.pool c.given_table.new.pool c.args.id.0 c.in_ok-character.ensures.grown c.requires.known

pub act_in_pool-requires-clause-fit : goal.act_in_pool-requires-clause-fit
act_in_pool-requires-clause-fit c = fit_grown c.args.pool c.given_table.new.pool c.args.id.0 c.in_ok-character.ensures.grown c.requires.known c.requires.fit

pub returns-clause-text : goal.returns-clause-text
returns-clause-text c =
    let eq = c.args.eq.now in
    let e = c.in_ok-character.ensures in
    table_in (λ t rows. Acts eq c.args.recentre rows t) eq.types c.args.table.now c.args.pool c.given_table.new.pool c.args.id.0 c.in_ok-character.character.rows e.grown c.requires.known e.short e.rows (λ v. v.items) c.act_in_pool.result
    c.act_in_pool.ensures.text

pub returns-clause-refused : goal.returns-clause-refused
returns-clause-refused c =
    let eq = c.args.eq.now in
    let e = c.in_ok-character.ensures in
    table_in_refused (λ t rows. Acts eq c.args.recentre rows t) eq.types c.args.table.now c.args.pool c.given_table.new.pool c.args.id.0 c.in_ok-character.character.rows e.grown c.requires.known e.short e.rows c.act_in_pool.result
    c.act_in_pool.ensures.refused
