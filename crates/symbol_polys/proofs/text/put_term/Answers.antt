use Rattle.std.proofs.Common.{arith, rules, sym, ◌∙◌}
use Rattle.numerals.proofs.Numerals.{numeral_decimal}
use Rattle.symbol_polys.proofs.text.put_term.Goals as goal

pub returns : goal.returns
returns c =
    let digits = c.as_bytes-digits.ensures.value ∙ c.format.ensures.text ∙ sym (numeral_decimal c.size.result (omega (arith, c.size.ensures.fits))) in
    rw (← c.size.ensures.size, ← digits) (search rules)
