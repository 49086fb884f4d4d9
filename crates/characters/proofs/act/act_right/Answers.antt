use Rattle.std.proofs.Common.{ℤ, List, subst}
use Rattle.std.specs.Prelude.{IfOk}
use Rattle.plain_trees.specs.Plain.{Plain, tree_order}
use Rattle.signed_sums.specs.Signed.{size_of, IsSumOf}
use Rattle.recentring_coproduct.specs.Held.{recentring_of}
use Rattle.recentring_coproduct.specs.Terms.{right_terms_in}
use Rattle.character_tables.specs.Rows.{rows_over}
use Rattle.character_tables.proofs.Tables.{known_grown}
use Rattle.characters.specs.Asked.{right_answers, right_missing}
use Rattle.characters.specs.Sums.{right_products, lacking_right, lines_over}
use Rattle.characters.proofs.ThreeSums.{right_sum, right_lacks, given_is, refused_is, recentring_refused}
use Rattle.characters.proofs.act.act_right.Goals as goal

pub returns-in-Err-clause-refusal : goal.returns-in-Err-clause-refusal
returns-in-Err-clause-refusal c =
    let old = c.args.pool.now in
    let xs = recentring_of old c.args.id.0 in
    let fs = rows_over old c.args.f.now.rows in
    recentring_refused c.recentre.new.pool xs (lacking_right fs xs) (size_of (right_products fs xs)) c.in-Err.e c.recentring_refusal.result c.recentring_refusal.ensures
    c.in-Err.ensures.refusal

pub right_lines-requires-clause-rows : goal.right_lines-requires-clause-rows
right_lines-requires-clause-rows c = known_grown c.args.pool.now c.recentre.new.pool c.args.f.now.rows c.in-Ok.ensures.grown c.requires.rows.known

pub returns-clause-lines : goal.returns-clause-lines
returns-clause-lines c =
    let old = c.args.pool.now in
    let new = c.recentre.new.pool in
    let sums = right_sum old new c.in-Ok.ensures.grown c.args.f.now.rows c.requires.rows.known (right_terms_in new c.in-Ok.terms.now) (recentring_of old c.args.id.0)
    c.in-Ok.ensures.terms in
    subst (λ (ps : List (Plain × ℤ)). IfOk c.right_lines.result (λ v. IsSumOf tree_order ps (lines_over new v.items))) sums c.right_lines.ensures.sum

pub returns-clause-given : goal.returns-clause-given
returns-clause-given c =
    let old = c.args.pool.now in
    let new = c.recentre.new.pool in
    let f = c.args.f.now.rows in
    let ts = right_terms_in new c.in-Ok.terms.now in
    let xs = recentring_of old c.args.id.0 in
    let grown = c.in-Ok.ensures.grown in
    let known = c.requires.rows.known in
    given_is new xs c.in-Ok.ensures.range (right_missing (rows_over new f) ts) (lacking_right (rows_over old f) xs) (right_answers (rows_over new f) ts) (right_products
    (rows_over old f) xs)
    (right_lacks old new grown f known ts xs c.in-Ok.ensures.terms) (right_sum old new grown f known ts xs c.in-Ok.ensures.terms) c.right_lines.result c.right_lines.ensures.given

pub returns-clause-refusal : goal.returns-clause-refusal
returns-clause-refusal c =
    let old = c.args.pool.now in
    let new = c.recentre.new.pool in
    let f = c.args.f.now.rows in
    let ts = right_terms_in new c.in-Ok.terms.now in
    let xs = recentring_of old c.args.id.0 in
    let grown = c.in-Ok.ensures.grown in
    let known = c.requires.rows.known in
    refused_is new xs c.in-Ok.ensures.range (right_missing (rows_over new f) ts) (lacking_right (rows_over old f) xs) (right_answers (rows_over new f) ts) (right_products
    (rows_over old f) xs)
    (right_lacks old new grown f known ts xs c.in-Ok.ensures.terms) (right_sum old new grown f known ts xs c.in-Ok.ensures.terms) c.right_lines.result c.right_lines.ensures.refusal
