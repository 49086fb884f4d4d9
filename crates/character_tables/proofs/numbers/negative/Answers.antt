use mir.Syntax.{w128}
use mir.Val.{SFits}
use Rattle.std.proofs.Common.{◌≡◌, ◌∙◌, ℤ, neg_ℤ, Some, sym, ap, subst, rules}
use Rattle.std.proofs.lemmas.Int.{to_z-of_z}
use Rattle.character_tables.proofs.NumberTexts.{none_negative, negative_read}
use Rattle.character_tables.proofs.numbers.negative.Goals as goal

pub returns-in_default-clause-back : goal.returns-in_default-clause-back
returns-in_default-clause-back c = λ z v e. absurd (none_negative c.args.digits.now c.in_default.ensures.back z v e)

pub returns-clause-back : goal.returns-clause-back
returns-clause-back c = λ z v e.
    let fits : SFits w128 c.opposite.result = search rules in
    let fits_number : SFits w128 c.in-Some.number = search rules in
    let cast = to_z-of_z w128 c.opposite.result fits in
    let number = to_z-of_z w128 c.in-Some.number fits_number in
    subst (λ (x : ℤ). Some x ≡ Some z) (sym (cast ∙ c.opposite.ensures ∙ ap neg_ℤ number)) (negative_read c.args.digits.now c.in-Some.number z c.in-Some.ensures.back v e)
