use Rattle.std.proofs.Common.{arith}
use Rattle.std.proofs.lemmas.Int.{ints, to_z-of_z}
use Rattle.degree_numbers.specs.Degree.{IsWithin}
use Rattle.normal_rule.proofs.Sizes.{regularity_within, right_within}
use Rattle.normal_rule.proofs.regularity.margin.Goals as goal

pub overflow_sub-result : goal.overflow_sub-result
overflow_sub-result c =
    let left : IsWithin c.regularity_of-left.result.a 20000000 = rw c.regularity_of-left.ensures (regularity_within c.args.eq.now c.args.kernel.0 c.requires.equation) in
    let right : IsWithin c.right_side-right.result.a 4920020000000 = rw c.right_side-right.ensures (right_within c.args.eq.now c.args.kernel.0 c.args.node.now c.requires.equation c.requires.measured) in
    grind (arith, ints, to_z-of_z)

pub returns-then-left-right-clause-difference : goal.returns-then-left-right-clause-difference
returns-then-left-right-clause-difference c =
    let left : IsWithin c.regularity_of-left.result.a 20000000 = rw c.regularity_of-left.ensures (regularity_within c.args.eq.now c.args.kernel.0 c.requires.equation) in
    let right : IsWithin c.right_side-right.result.a 4920020000000 = rw c.right_side-right.ensures (right_within c.args.eq.now c.args.kernel.0 c.args.node.now c.requires.equation c.requires.measured) in
    grind (arith, ints, to_z-of_z)
