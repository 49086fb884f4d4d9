use Rattle.std.proofs.Common.{◌≡◌, List, IfOk, refl, sym, subst}
use Rattle.signed_sums.specs.Signed.{size_of}
use Rattle.recentring_coproduct.specs.Held.{recentring_of}
use Rattle.character_tables.specs.Rows.{rows_over}
use Rattle.characters.specs.declared.line.Line.{Line}
use Rattle.characters.specs.Sums.{AreKnownLines, lacking_right, right_products, lines_over}
use Rattle.workbench_core.specs.Characters.{act_text}
use Rattle.workbench_core.proofs.GivenLemmas.{known_grown}
use Rattle.workbench_core.proofs.SumLemmas.{acts_right, right_refused, missing_known}
use Rattle.workbench_core.proofs.act.act_from_right.Goals as goal

pub act_right-requires-clause-fits : goal.act_right-requires-clause-fits
act_right-requires-clause-fits c = c.in_ok-recentrer.ensures.fits c.args.pool

pub act_text-requires : goal.act_text-requires
act_text-requires c = subst (λ (ls : List Line). AreKnownLines c.act_right.new.pool ls) (sym c.as_slice.ensures.value) c.in-Ok.ensures.known

pub returns-in-Ok-clause-text : goal.returns-in-Ok-clause-text
returns-in-Ok-clause-text c =
    let new = c.act_right.new.pool in
    let e = c.in-Ok.ensures in
    acts_right c.args.eq.now c.args.pool c.args.id.0 c.args.character.now.rows new c.in-Ok.lines.items (λ v. v.items) c.act_text.result c.requires.types e.grown e.given e.lines
    (subst (λ (ls : List Line). IfOk c.act_text.result (λ v. v.items ≡ act_text new.types (lines_over new ls))) c.as_slice.ensures.value c.act_text.ensures.text)

pub sum_refusal-requires-clause-known : goal.sum_refusal-requires-clause-known
sum_refusal-requires-clause-known c = known_grown c.args.pool c.act_right.new.pool c.args.id.0 c.in-Err.ensures.grown c.requires.known

pub sum_refusal-requires-clause-missing : goal.sum_refusal-requires-clause-missing
sum_refusal-requires-clause-missing c =
    let new = c.act_right.new.pool in
    let xs = recentring_of c.args.pool c.args.id.0 in
    let fs = rows_over c.args.pool c.args.character.now.rows in
    missing_known new new xs (lacking_right fs xs) (size_of (right_products fs xs)) c.in-Err.error c.in-Err.ensures.refusal refl

pub returns-clause-refused : goal.returns-clause-refused
returns-clause-refused c =
    let new = c.act_right.new.pool in
    right_refused c.args.eq.now.types c.args.pool c.args.id.0 c.args.character.now.rows new new c.in-Err.error c.sum_refusal.result c.requires.types c.in-Err.ensures.grown c.requires.known
    c.in-Err.ensures.refusal refl c.sum_refusal.ensures.refusal
