use Rattle.std.proofs.Common.{arith, not}
use Rattle.std.specs.Ordering.{is_gt}
use Rattle.std.proofs.lemmas.List.Sums.{prefix_len-le-length}
use Rattle.equations.specs.EdgeTypes.{edge_type_order}
use Rattle.equation_file.proofs.resolve.place_factor.Goals as goal

pub insert-requires : goal.insert-requires
insert-requires c = omega (arith, c.factor_place-place.ensures, c.deref.ensures.len, c.deref.ensures.value, prefix_len-le-length (λ f. not (is_gt (edge_type_order f c.args.factor))) c.deref.result.now)
