use mir.Syntax.{w128}
use mir.Val.{SFits}
use Rattle.std.proofs.Common.{◌∙◌, pos, Some, get_or, sym, ap, subst, rules, List}
use Rattle.std.proofs.lemmas.Int.{to_z-of_z}
use Rattle.std.proofs.lemmas.List.{get_or_default}
use Rattle.character_tables.specs.declared.CharacterRow.{CharacterRow}
use Rattle.character_tables.specs.Rows.{AreKnownRows}
use Rattle.characters.proofs.Pooled.{row_here, row_further}
use Rattle.characters.proofs.lookup.row_of.Goals as goal

abbrev blank : CharacterRow
blank = record { tree = record { 0 = 0 }; value = pos 0 }

pub returns-then-eq : goal.returns-then-eq
returns-then-eq c =
    let items = c.as_slice-row-items.result.now in
    let i = c.loop-row.row-index in
    let lt = c.loop-row-test.true in
    let r = get_or items i blank in
    let fits : SFits w128 r.value = search rules in
    let cast = to_z-of_z w128 r.value fits in
    let known = subst (λ (rs : List CharacterRow). AreKnownRows c.args.pool.now rs) (sym c.as_slice-row-items.ensures) c.requires.rows in
    let here = row_here c.args.pool.now c.laws.ensures items known c.args.id.0 i r c.requires.known lt (get_or_default items i blank r lt) (sym c.eq.ensures ∙ c.if-eq.true) in
    ap Some cast ∙ sym here ∙ c.loop-row.invariant

pub loop-row-preserved : goal.loop-row-preserved
loop-row-preserved c =
    let items = c.as_slice-row-items.result.now in
    let i = c.loop-row.row-index in
    let lt = c.loop-row-test.true in
    let r = get_or items i blank in
    let known = subst (λ (rs : List CharacterRow). AreKnownRows c.args.pool.now rs) (sym c.as_slice-row-items.ensures) c.requires.rows in
    row_further c.args.pool.now c.laws.ensures items known c.args.id.0 i r c.requires.known lt (get_or_default items i blank r lt) _ (sym c.eq.ensures ∙ c.if-eq.false)
    c.loop-row.invariant
