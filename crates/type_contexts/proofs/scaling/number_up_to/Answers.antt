use Rattle.std.proofs.Common.{ap, Some, arith, ◌∙◌}
use Rattle.type_contexts.proofs.Scalings.{number_read, same_number}
use Rattle.type_contexts.proofs.scaling.number_up_to.Goals as goal

pub returns-in_err-number-clause-value : goal.returns-in_err-number-clause-value
returns-in_err-number-clause-value c n le is = let e = c.in_err-number.ensures.value ∙ number_read c.args.text.now n (omega (arith, c, le)) is in absurd cc

pub returns-then-number-most-clause-value : goal.returns-then-number-most-clause-value
returns-then-number-most-clause-value c n le is =
    let same = same_number c.in_ok-number.number n c.in_ok-number.field-0-1.now c.args.text.now c.in_ok-number.ensures.value (number_read c.args.text.now n (omega (arith, c, le)) is) in
    absurd (omega (arith, same, le, c.if-number-most.true))

pub returns-clause-value : goal.returns-clause-value
returns-clause-value c n le is = ap Some (same_number c.in_ok-number.number n c.in_ok-number.field-0-1.now c.args.text.now c.in_ok-number.ensures.value (number_read c.args.text.now n (omega (arith, c, le)) is))
