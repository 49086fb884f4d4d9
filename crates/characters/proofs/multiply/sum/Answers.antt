use mir.Syntax.{w128}
use mir.Val.{SFits}
use Rattle.std.proofs.Common.{◌∙◌, sym, ap, rules, arith}
use Rattle.std.proofs.lemmas.Int.{to_z-of_z}
use Rattle.characters.specs.Asked.{answers_in}
use Rattle.characters.specs.Sums.{sum_of}
use Rattle.characters.proofs.ProductTerms.{size_is}
use Rattle.characters.proofs.Summed.{sum_over}
use Rattle.characters.proofs.multiply.sum.Goals as goal

pub sum_of-requires : goal.sum_of-requires
sum_of-requires c =
    let p = c.args.pool.now in
    let ps = answers_in p c.args.g.now.rows c.args.h.now.rows c.args.asked.now in
    rw c.as_slice.ensures.value (omega (arith, size_is p c.in-Ok.terms.items ps c.in-Ok.ensures.terms, c.in-Ok.ensures.range))

pub returns-in-Ok-clause-sum : goal.returns-in-Ok-clause-sum
returns-in-Ok-clause-sum c =
    let p = c.args.pool.now in
    let z = c.sum_of.result in
    let fits : SFits w128 z = search rules in
    to_z-of_z w128 z fits ∙ c.sum_of.ensures ∙ ap sum_of c.as_slice.ensures.value ∙ sym (sum_over p c.in-Ok.terms.items) ∙ ap sum_of c.in-Ok.ensures.terms
