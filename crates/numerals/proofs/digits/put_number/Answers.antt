use Rattle.std.proofs.Common.{arith, rules}
use Rattle.numerals.proofs.Numerals.{numeral_decimal}
use Rattle.numerals.proofs.digits.put_number.Goals as goal

pub returns : goal.returns
returns c = rw (numeral_decimal c.args.n (omega (arith, c.ranges.n.fits))) (search rules)
