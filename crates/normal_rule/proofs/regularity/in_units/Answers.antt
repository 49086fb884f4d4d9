use Rattle.std.proofs.Common.{arith}
use Rattle.normal_rule.proofs.Sizes.{units_small}
use Rattle.normal_rule.proofs.regularity.in_units.Goals as goal

pub overflow_mul-result : goal.overflow_mul-result
overflow_mul-result c =
    let small = units_small c.args.eq.now c.args.p.now.entries c.requires.equation c.requires.entries in
    rw (c.denominator.ensures, c.scaled_size.ensures.value) (omega (arith, small))

pub returns-clause-small : goal.returns-clause-small
returns-clause-small c = rw (c.denominator.ensures, c.scaled_size.ensures.value) (units_small c.args.eq.now c.args.p.now.entries c.requires.equation c.requires.entries)
