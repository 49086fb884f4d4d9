use Rattle.std.proofs.Common.{◌≡◌, ◌<◌, List, length, Err, IfOk, sym, subst}
use Rattle.tree_pool.specs.Content.{Content, tree_at}
use Rattle.cutting_sizes.specs.Bounds.{IsBounded}
use Rattle.cutting_sizes.proofs.Recentred.{fit_bounded}
use Rattle.signed_sums.specs.Signed.{size_of}
use Rattle.extraction_coproduct.specs.Finished.{coproduct_of}
use Rattle.character_tables.specs.Rows.{rows_over, IsCharacter}
use Rattle.characters.specs.declared.line.Line.{Line}
use Rattle.characters.specs.Sums.{AreKnownLines, lacking_left, left_products, lines_over}
use Rattle.workbench_core.specs.Characters.{act_text, ActsFromLeft}
use Rattle.workbench_core.proofs.GivenLemmas.{known_grown}
use Rattle.workbench_core.proofs.SumLemmas.{acts_left, left_refused, missing_known, only_memory}
use Rattle.workbench_core.proofs.act.act_from_left.Goals as goal

pub act_left-requires-clause-known : goal.act_left-requires-clause-known
act_left-requires-clause-known c = subst (λ (p : Content). c.args.id.0 < length p.trees) (sym c.in_ok-tables.ensures.pool) c.requires.known

pub act_left-requires-clause-bounded : goal.act_left-requires-clause-bounded
act_left-requires-clause-bounded c =
    subst (λ (p : Content). IsBounded (tree_at p c.args.id.0)) (sym c.in_ok-tables.ensures.pool) (fit_bounded (tree_at c.args.pool c.args.id.0) c.requires.fit)

pub act_left-requires-clause-rows : goal.act_left-requires-clause-rows
act_left-requires-clause-rows c = subst (λ (p : Content). IsCharacter p c.args.character.now.rows) (sym c.in_ok-tables.ensures.pool) c.requires.rows

pub act_text-requires : goal.act_text-requires
act_text-requires c = subst (λ (p : Content). AreKnownLines p c.as_slice.result.now) (sym c.pool.ensures) (subst (λ (ls : List Line). AreKnownLines c.act_left.new.tables.pool ls) (sym c.as_slice.ensures.value) c.in-Ok.ensures.known)

pub returns-in-Ok-clause-text : goal.returns-in-Ok-clause-text
returns-in-Ok-clause-text c =
    let tables = c.in_ok-tables.tables.pool in
    let new = c.act_left.new.tables.pool in
    let e = c.in-Ok.ensures in
    acts_left c.args.eq.now c.args.pool tables c.args.id.0 c.args.character.now.rows new c.in-Ok.lines.items (λ v. v.items) c.act_text.result c.requires.types c.in_ok-tables.ensures.pool e.grown.pool e.given e.lines
    (subst (λ (ls : List Line). IfOk c.act_text.result (λ v. v.items ≡ act_text new.types (lines_over new ls))) c.as_slice.ensures.value
    (subst (λ (p : Content). IfOk c.act_text.result (λ v. v.items ≡ act_text p.types (lines_over p c.as_slice.result.now))) c.pool.ensures c.act_text.ensures.text))

pub returns-in-Ok-clause-refused : goal.returns-in-Ok-clause-refused
returns-in-Ok-clause-refused c =
    only_memory (λ e. ActsFromLeft c.args.eq.now (rows_over c.args.pool c.args.character.now.rows) (tree_at c.args.pool c.args.id.0) (Err e)) c.act_text.result c.act_text.ensures.memory

pub sum_refusal-requires-clause-known : goal.sum_refusal-requires-clause-known
sum_refusal-requires-clause-known c =
    let tables = c.in_ok-tables.tables.pool in
    let new = c.act_left.new.tables.pool in
    let there = subst (λ (p : Content). c.args.id.0 < length p.trees) (sym c.in_ok-tables.ensures.pool) c.requires.known in
    subst (λ (p : Content). c.args.id.0 < length p.trees) (sym c.pool-in-Err.ensures) (known_grown tables new c.args.id.0 c.in-Err.ensures.grown.pool there)

pub sum_refusal-requires-clause-missing : goal.sum_refusal-requires-clause-missing
sum_refusal-requires-clause-missing c =
    let tables = c.in_ok-tables.tables.pool in
    let new = c.act_left.new.tables.pool in
    let xs = coproduct_of tables c.args.id.0 in
    let gs = rows_over tables c.args.character.now.rows in
    missing_known new c.pool-in-Err.result.now xs (lacking_left gs xs) (size_of (left_products gs xs)) c.in-Err.error c.in-Err.ensures.refusal c.pool-in-Err.ensures

pub returns-clause-refused : goal.returns-clause-refused
returns-clause-refused c =
    let tables = c.in_ok-tables.tables.pool in
    let new = c.act_left.new.tables.pool in
    left_refused c.args.eq.now.types c.args.pool tables c.args.id.0 c.args.character.now.rows new c.pool-in-Err.result.now c.in-Err.error c.sum_refusal.result c.requires.types c.in_ok-tables.ensures.pool
    c.in-Err.ensures.grown.pool c.requires.known c.in-Err.ensures.refusal c.pool-in-Err.ensures c.sum_refusal.ensures.refusal
