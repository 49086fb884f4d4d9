use Rattle.std.proofs.Common.{ℤ, List, subst, inl}
use Rattle.std.specs.Prelude.{IfOk}
use Rattle.plain_trees.specs.Plain.{Plain, tree_order}
use Rattle.signed_sums.specs.Signed.{size_of, IsSumOf}
use Rattle.extraction_coproduct.specs.Finished.{coproduct_of, grove_of}
use Rattle.extraction_coproduct.specs.Terms.{terms_in}
use Rattle.character_tables.specs.Rows.{rows_over}
use Rattle.character_tables.proofs.Tables.{known_grown}
use Rattle.characters.specs.Asked.{left_answers, left_missing}
use Rattle.characters.specs.Sums.{left_products, lacking_left, lines_over}
use Rattle.characters.proofs.ThreeSums.{left_sum, left_lacks, given_is, refused_is, coproduct_refused, asked_once}
use Rattle.characters.proofs.act.act_left.Goals as goal

pub returns-in-Err-clause-refusal : goal.returns-in-Err-clause-refusal
returns-in-Err-clause-refusal c =
    let old = c.args.tables.now in
    let xs = coproduct_of old.pool c.args.id.0 in
    let gs = rows_over old.pool c.args.g.now.rows in
    coproduct_refused c.coproduct.new.self.pool xs (lacking_left gs xs) (size_of (left_products gs xs)) c.in-Err.e c.extraction_refusal.result c.extraction_refusal.ensures
    c.in-Err.ensures.refusal

pub returns-in-Err-clause-counted : goal.returns-in-Err-clause-counted
returns-in-Err-clause-counted c = inl c.in-Err.ensures.counted

pub left_lines-requires-clause-rows : goal.left_lines-requires-clause-rows
left_lines-requires-clause-rows c = known_grown c.args.tables.now.pool c.coproduct.new.self.pool c.args.g.now.rows c.in-Ok.ensures.grown.pool c.requires.rows.known

pub returns-clause-lines : goal.returns-clause-lines
returns-clause-lines c =
    let old = c.args.tables.now.pool in
    let new = c.coproduct.new.self in
    let sums = left_sum old new.pool c.in-Ok.ensures.grown.pool c.args.g.now.rows c.requires.rows.known (terms_in (grove_of new) c.in-Ok.terms.now) (coproduct_of old
    c.args.id.0) c.in-Ok.ensures.terms in
    subst (λ (ps : List (Plain × ℤ)). IfOk c.left_lines.result (λ v. IsSumOf tree_order ps (lines_over new.pool v.items))) sums c.left_lines.ensures.sum

pub returns-clause-given : goal.returns-clause-given
returns-clause-given c =
    let old = c.args.tables.now.pool in
    let new = c.coproduct.new.self in
    let g = c.args.g.now.rows in
    let ts = terms_in (grove_of new) c.in-Ok.terms.now in
    let xs = coproduct_of old c.args.id.0 in
    let grown = c.in-Ok.ensures.grown.pool in
    let known = c.requires.rows.known in
    given_is new.pool xs c.in-Ok.ensures.fits (left_missing (rows_over new.pool g) ts) (lacking_left (rows_over old g) xs) (left_answers (rows_over new.pool g) ts)
    (left_products (rows_over old g) xs)
    (left_lacks old new.pool grown g known ts xs c.in-Ok.ensures.terms) (left_sum old new.pool grown g known ts xs c.in-Ok.ensures.terms) c.left_lines.result
    c.left_lines.ensures.given

pub returns-clause-refusal : goal.returns-clause-refusal
returns-clause-refusal c =
    let old = c.args.tables.now.pool in
    let new = c.coproduct.new.self in
    let g = c.args.g.now.rows in
    let ts = terms_in (grove_of new) c.in-Ok.terms.now in
    let xs = coproduct_of old c.args.id.0 in
    let grown = c.in-Ok.ensures.grown.pool in
    let known = c.requires.rows.known in
    refused_is new.pool xs c.in-Ok.ensures.fits (left_missing (rows_over new.pool g) ts) (lacking_left (rows_over old g) xs) (left_answers (rows_over new.pool g) ts)
    (left_products (rows_over old g) xs)
    (left_lacks old new.pool grown g known ts xs c.in-Ok.ensures.terms) (left_sum old new.pool grown g known ts xs c.in-Ok.ensures.terms) c.left_lines.result
    c.left_lines.ensures.refusal

pub returns-clause-counted : goal.returns-clause-counted
returns-clause-counted c = asked_once c.args.tables.now c.coproduct.new.self c.args.id.0 c.args.work.now.tables c.coproduct.new.work.tables c.in-Ok.ensures.counted
