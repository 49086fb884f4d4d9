use Rattle.std.proofs.Common.{◌≤◌, ◌*◌, sum, arith}
use Rattle.degree_numbers.proofs.TypeBounds.{scaling_within}
use Rattle.large_trees.proofs.Bounds.{fine_product}
use Rattle.large_trees.proofs.charges.fine_size.Goals as goal

pub scaled_size-requires : goal.scaled_size-requires
scaled_size-requires c = record { scaling = scaling_within c.args.types.now c.requires.types }

product : (c : goal.After-scaled_size) → c.denominator.result * c.scaled_size.result ≤ 10000000000
product c = fine_product c.denominator.result c.scaled_size.result (sum c.args.p.now.entries) c.denominator.ensures.small c.scaled_size.ensures.most c.requires.low

pub overflow_mul-result : goal.overflow_mul-result
overflow_mul-result c = let small = product c in omega (arith, small)

pub returns-clause-small : goal.returns-clause-small
returns-clause-small c = let small = product c in omega (arith, small)
