use Rattle.std.proofs.Common.{◌≡◌, ℤ, List, subst, inl}
use Rattle.std.specs.Prelude.{IfOk}
use Rattle.plain_trees.specs.Plain.{Plain}
use Rattle.signed_sums.specs.Signed.{size_of}
use Rattle.extraction_coproduct.specs.Finished.{coproduct_of, grove_of}
use Rattle.extraction_coproduct.specs.Terms.{terms_in}
use Rattle.character_tables.specs.Rows.{rows_over}
use Rattle.character_tables.proofs.Tables.{known_grown}
use Rattle.characters.specs.Asked.{both_answers, both_missing}
use Rattle.characters.specs.Sums.{products, lacking_both, sum_of}
use Rattle.characters.proofs.ThreeSums.{both_sum, both_lacks, given_is, refused_is, coproduct_refused, asked_once}
use Rattle.characters.proofs.multiply.product.Goals as goal

pub returns-in-Err-clause-refusal : goal.returns-in-Err-clause-refusal
returns-in-Err-clause-refusal c =
    let old = c.args.tables.now in
    let xs = coproduct_of old.pool c.args.id.0 in
    let gs = rows_over old.pool c.args.g.now.rows in
    let hs = rows_over old.pool c.args.h.now.rows in
    coproduct_refused c.coproduct.new.self.pool xs (lacking_both gs hs xs) (size_of (products gs hs xs)) c.in-Err.e c.extraction_refusal.result c.extraction_refusal.ensures
    c.in-Err.ensures.refusal

pub returns-in-Err-clause-counted : goal.returns-in-Err-clause-counted
returns-in-Err-clause-counted c = inl c.in-Err.ensures.counted

pub sum_over-requires-clause-first : goal.sum_over-requires-clause-first
sum_over-requires-clause-first c = known_grown c.args.tables.now.pool c.coproduct.new.self.pool c.args.g.now.rows c.in-Ok.ensures.grown.pool c.requires.first.known

pub sum_over-requires-clause-second : goal.sum_over-requires-clause-second
sum_over-requires-clause-second c = known_grown c.args.tables.now.pool c.coproduct.new.self.pool c.args.h.now.rows c.in-Ok.ensures.grown.pool c.requires.second.known

pub returns-clause-sum : goal.returns-clause-sum
returns-clause-sum c =
    let old = c.args.tables.now.pool in
    let new = c.coproduct.new.self in
    let sums =
    both_sum old new.pool c.in-Ok.ensures.grown.pool c.args.g.now.rows c.requires.first.known c.args.h.now.rows c.requires.second.known (terms_in (grove_of new) c.in-Ok.terms.now)
    (coproduct_of old c.args.id.0) c.in-Ok.ensures.terms
    in
    subst (λ (ps : List (Plain × ℤ)). IfOk c.sum_over.result (λ z. z ≡ sum_of ps)) sums c.sum_over.ensures.sum

pub returns-clause-given : goal.returns-clause-given
returns-clause-given c =
    let old = c.args.tables.now.pool in
    let new = c.coproduct.new.self in
    let g = c.args.g.now.rows in
    let h = c.args.h.now.rows in
    let ts = terms_in (grove_of new) c.in-Ok.terms.now in
    let xs = coproduct_of old c.args.id.0 in
    let grown = c.in-Ok.ensures.grown.pool in
    let known_g = c.requires.first.known in
    let known_h = c.requires.second.known in
    given_is new.pool xs c.in-Ok.ensures.fits (both_missing (rows_over new.pool g) (rows_over new.pool h) ts) (lacking_both (rows_over old g) (rows_over old h) xs)
    (both_answers (rows_over new.pool g) (rows_over new.pool h) ts) (products (rows_over old g) (rows_over old h) xs) (both_lacks old new.pool grown g known_g h known_h ts xs
    c.in-Ok.ensures.terms)
    (both_sum old new.pool grown g known_g h known_h ts xs c.in-Ok.ensures.terms) c.sum_over.result c.sum_over.ensures.given

pub returns-clause-refusal : goal.returns-clause-refusal
returns-clause-refusal c =
    let old = c.args.tables.now.pool in
    let new = c.coproduct.new.self in
    let g = c.args.g.now.rows in
    let h = c.args.h.now.rows in
    let ts = terms_in (grove_of new) c.in-Ok.terms.now in
    let xs = coproduct_of old c.args.id.0 in
    let grown = c.in-Ok.ensures.grown.pool in
    let known_g = c.requires.first.known in
    let known_h = c.requires.second.known in
    refused_is new.pool xs c.in-Ok.ensures.fits (both_missing (rows_over new.pool g) (rows_over new.pool h) ts) (lacking_both (rows_over old g) (rows_over old h) xs)
    (both_answers (rows_over new.pool g) (rows_over new.pool h) ts) (products (rows_over old g) (rows_over old h) xs) (both_lacks old new.pool grown g known_g h known_h ts xs
    c.in-Ok.ensures.terms)
    (both_sum old new.pool grown g known_g h known_h ts xs c.in-Ok.ensures.terms) c.sum_over.result c.sum_over.ensures.refusal

pub returns-clause-counted : goal.returns-clause-counted
returns-clause-counted c = asked_once c.args.tables.now c.coproduct.new.self c.args.id.0 c.args.work.now.tables c.coproduct.new.work.tables c.in-Ok.ensures.counted
