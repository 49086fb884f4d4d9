use Rattle.std.proofs.Common.{arith}
use Rattle.std.specs.Char.{is_ascii_digit}
use Rattle.std.proofs.lemmas.List.Sums.{prefix_len-le-length}
use Rattle.text_parts.proofs.Digits.{digits_pass}
use Rattle.text_parts.proofs.reading.number_of.Goals as goal

pub split_at-requires : goal.split_at-requires
split_at-requires c =
    omega (arith, c.digits_len-count.ensures, prefix_len-le-length is_ascii_digit c.args.text.now)

pub value_of-requires : goal.value_of-requires
value_of-requires c =
    rw (c.split_at.ensures.front, c.digits_len-count.ensures) (digits_pass c.args.text.now)
