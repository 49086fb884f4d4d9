use mir.Syntax.{w128}
use mir.Val.{SFits}
use Rattle.std.proofs.Common.{◌≡◌, ◌<◌, ℤ, length, IfOk, sym, subst, rules}
use Rattle.std.proofs.lemmas.Int.{to_z-of_z}
use Rattle.tree_pool.specs.Content.{Content, tree_at}
use Rattle.cutting_sizes.specs.Bounds.{IsBounded}
use Rattle.cutting_sizes.proofs.Recentred.{fit_bounded}
use Rattle.signed_sums.specs.Signed.{size_of}
use Rattle.extraction_coproduct.specs.Finished.{coproduct_of}
use Rattle.character_tables.specs.Rows.{rows_over, IsCharacter}
use Rattle.characters.specs.Sums.{lacking_both, products}
use Rattle.workbench_core.specs.Characters.{product_text}
use Rattle.workbench_core.proofs.GivenLemmas.{known_grown}
use Rattle.workbench_core.proofs.SumLemmas.{multiplies, product_refused, missing_known}
use Rattle.workbench_core.proofs.multiply.multiply_in_pool.Goals as goal

pub product-requires-clause-known : goal.product-requires-clause-known
product-requires-clause-known c = subst (λ (p : Content). c.args.id.0 < length p.trees) (sym c.in_ok-tables.ensures.pool) c.requires.known

pub product-requires-clause-bounded : goal.product-requires-clause-bounded
product-requires-clause-bounded c =
    subst (λ (p : Content). IsBounded (tree_at p c.args.id.0)) (sym c.in_ok-tables.ensures.pool) (fit_bounded (tree_at c.args.pool c.args.id.0) c.requires.fit)

pub product-requires-clause-first : goal.product-requires-clause-first
product-requires-clause-first c = subst (λ (p : Content). IsCharacter p c.args.first.now.rows) (sym c.in_ok-tables.ensures.pool) c.requires.first

pub product-requires-clause-second : goal.product-requires-clause-second
product-requires-clause-second c = subst (λ (p : Content). IsCharacter p c.args.second.now.rows) (sym c.in_ok-tables.ensures.pool) c.requires.second

pub returns-in-Ok-clause-text : goal.returns-in-Ok-clause-text
returns-in-Ok-clause-text c =
    let e = c.in-Ok.ensures in
    let z = c.in-Ok.sum in
    let fits : SFits w128 z = search rules in
    multiplies c.args.eq.now c.args.pool c.in_ok-tables.tables.pool c.args.id.0 c.args.first.now.rows c.args.second.now.rows z (λ v. v.items) c.product_text.result c.requires.types
    c.in_ok-tables.ensures.pool e.given e.sum
    (subst (λ (x : ℤ). IfOk c.product_text.result (λ v. v.items ≡ product_text x)) (to_z-of_z w128 z fits) c.product_text.ensures.text)

pub sum_refusal-requires-clause-known : goal.sum_refusal-requires-clause-known
sum_refusal-requires-clause-known c =
    let tables = c.in_ok-tables.tables.pool in
    let new = c.product.new.tables.pool in
    let there = subst (λ (p : Content). c.args.id.0 < length p.trees) (sym c.in_ok-tables.ensures.pool) c.requires.known in
    subst (λ (p : Content). c.args.id.0 < length p.trees) (sym c.pool.ensures) (known_grown tables new c.args.id.0 c.in-Err.ensures.grown.pool there)

pub sum_refusal-requires-clause-missing : goal.sum_refusal-requires-clause-missing
sum_refusal-requires-clause-missing c =
    let tables = c.in_ok-tables.tables.pool in
    let new = c.product.new.tables.pool in
    let xs = coproduct_of tables c.args.id.0 in
    let gs = rows_over tables c.args.first.now.rows in
    let hs = rows_over tables c.args.second.now.rows in
    missing_known new c.pool.result.now xs (lacking_both gs hs xs) (size_of (products gs hs xs)) c.in-Err.error c.in-Err.ensures.refusal c.pool.ensures

pub returns-clause-refused : goal.returns-clause-refused
returns-clause-refused c =
    let tables = c.in_ok-tables.tables.pool in
    let new = c.product.new.tables.pool in
    product_refused c.args.eq.now.types c.args.pool tables c.args.id.0 c.args.first.now.rows c.args.second.now.rows new c.pool.result.now c.in-Err.error c.sum_refusal.result c.requires.types
    c.in_ok-tables.ensures.pool c.in-Err.ensures.grown.pool c.requires.known c.in-Err.ensures.refusal c.pool.ensures c.sum_refusal.ensures.refusal
