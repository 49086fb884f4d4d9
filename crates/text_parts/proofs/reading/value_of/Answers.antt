use Rattle.std.proofs.Common.{arith}
use Rattle.text_parts.proofs.Digits.{value_push}
use Rattle.text_parts.proofs.reading.value_of.Goals as goal

pub loop-digit-preserved : goal.loop-digit-preserved
loop-digit-preserved c =
    value_push c.args.digits.now c.loop-digit.digit-index _ _ (omega arith) (c.requires _ 0 (omega arith)) c.loop-digit.invariant c.with_digit-number.ensures
