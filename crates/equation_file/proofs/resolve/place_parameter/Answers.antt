use Rattle.std.proofs.Common.{arith, not}
use Rattle.std.specs.Ordering.{nat_cmp, is_gt}
use Rattle.std.proofs.lemmas.List.Sums.{prefix_len-le-length}
use Rattle.equation_file.proofs.resolve.place_parameter.Goals as goal

pub insert-requires : goal.insert-requires
insert-requires c = omega (arith, c.parameter_place-place.ensures, c.deref.ensures.len, c.deref.ensures.value, prefix_len-le-length (λ p. not (is_gt (nat_cmp p c.args.parameter))) c.deref.result.now)
