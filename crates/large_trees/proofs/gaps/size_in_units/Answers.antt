use Rattle.std.proofs.Common.{◌≤◌, ◌*◌, sum, arith}
use Rattle.degree_numbers.proofs.TypeBounds.{scaling_within, den_small}
use Rattle.large_trees.proofs.Bounds.{units_product}
use Rattle.large_trees.proofs.gaps.size_in_units.Goals as goal

pub scaled_size-requires : goal.scaled_size-requires
scaled_size-requires c = record { scaling = scaling_within c.args.eq.now.types c.requires.types }

product : (c : goal.After-scaled_size) → c.denominator.result * c.scaled_size.result ≤ 500000000000000000
product c =
    let den : c.denominator.result ≤ 1000000 = rw c.denominator.ensures (den_small c.args.eq.now.types c.requires.types) in
    let most : sum c.args.p.now.entries ≤ 50000000000 = rw (← c.weight-entries.ensures.value) c.weight-entries.ensures.most in
    units_product c.denominator.result c.scaled_size.result (sum c.args.p.now.entries) den c.scaled_size.ensures.most most

pub overflow_mul-result : goal.overflow_mul-result
overflow_mul-result c = let small = product c in omega (arith, small)

pub returns-clause-small : goal.returns-clause-small
returns-clause-small c = product c
