use Rattle.std.proofs.Common.{arith}
use Rattle.normal_rule.specs.Regularity.{node_regularity}
use Rattle.degree_numbers.specs.Types.{type_degree}
use Rattle.normal_rule.proofs.Sizes.{sum_fits, degree_within, node_within}
use Rattle.normal_rule.proofs.regularity.right_side.Goals as goal

pub plus-requires-clause-a_fits : goal.plus-requires-clause-a_fits
plus-requires-clause-a_fits c =
    rw (c.degree.ensures, c.node_regularity.ensures)
    (sum_fits (type_degree c.args.eq.now.types c.args.kernel.0).a (node_regularity c.args.eq.now c.args.node.now) 20000000 4920000000000 (degree_within c.args.eq.now c.args.kernel.0 c.requires.equation) (node_within c.args.eq.now c.args.node.now c.requires.equation c.requires.measured) (omega arith))
