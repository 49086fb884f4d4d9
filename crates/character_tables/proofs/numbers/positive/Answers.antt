use Rattle.std.proofs.Common.{sym, ◌∙◌}
use Rattle.character_tables.proofs.NumberTexts.{none_back, value_is, value_back}
use Rattle.character_tables.proofs.numbers.positive.Goals as goal

pub returns-then-not-is_numeral-clause-back : goal.returns-then-not-is_numeral-clause-back
returns-then-not-is_numeral-clause-back c = λ n some lt h. absurd (none_back c.args.digits.now n (sym c.is_numeral.ensures ∙ c.if-not-is_numeral.true) some h)

pub returns-clause-value : goal.returns-clause-value
returns-clause-value c = value_is c.args.digits.now c.magnitude.result c.in_range.result (sym c.is_numeral.ensures ∙ c.if-not-is_numeral.false) c.magnitude.ensures
    c.in_range.ensures.value c.in_range.ensures.fits

pub returns-clause-back : goal.returns-clause-back
returns-clause-back c = λ n some lt h. value_back c.args.digits.now c.magnitude.result c.in_range.result n c.magnitude.ensures c.in_range.ensures.value lt h
