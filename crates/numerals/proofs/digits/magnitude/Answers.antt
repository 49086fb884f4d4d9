use Rattle.numerals.proofs.Magnitudes.{numeral_at, magnitude_push}
use Rattle.numerals.proofs.digits.magnitude.Goals as goal

pub loop-digit-preserved : goal.loop-digit-preserved
loop-digit-preserved c =
    let ds = c.args.digits.now in
    let i = c.loop-digit.digit-index in
    magnitude_push ds i c.loop-digit.number c.with_digit-number.result c.loop-digit-test.true (numeral_at ds i c.requires c.loop-digit-test.true) c.loop-digit.invariant c.with_digit-number.ensures
