use Rattle.std.proofs.Common.{arith, ◌==◌}
use Rattle.std.proofs.lemmas.List.Sums.{prefix_len-le-length}
use Rattle.text_parts.proofs.reading.skip.Goals as goal

pub split_at-requires : goal.split_at-requires
split_at-requires c = omega (arith, c.spaces_len.ensures, prefix_len-le-length (λ b. b == 32) c.args.text.now)
