use Rattle.std.proofs.Common.{arith, ap}
use Rattle.std.specs.Prelude.{◌-ℤ◌}
use Rattle.degree_numbers.specs.Degree.{IsWithin}
use Rattle.degree_numbers.proofs.TypeBounds.{type_a_within, type_b_within}
use Rattle.large_trees.specs.declared.excess.Excess.{Excess}
use Rattle.large_trees.proofs.Bounds.{sum_small, gap_small, within_plus, within_minus, within_fits}
use Rattle.large_trees.proofs.gaps.gap_of.Goals as goal

pub plus-requires-clause-a_fits : goal.plus-requires-clause-a_fits
plus-requires-clause-a_fits c =
    let degree : IsWithin c.type_degree.result.a 20000000 = rw c.type_degree.ensures (type_a_within c.args.eq.now.types c.args.kernel.0 c.requires.types) in
    sum_small c.type_degree.result.a c.node_regularity.result.a 20000000 20000000000000000000000000000000000000 degree c.node_regularity.ensures.small (omega arith)

pub minus-requires-clause-a_fits : goal.minus-requires-clause-a_fits
minus-requires-clause-a_fits c =
    let degree : IsWithin c.type_degree.result.a 20000000 = rw c.type_degree.ensures (type_a_within c.args.eq.now.types c.args.kernel.0 c.requires.types) in
    let sum : IsWithin c.plus.result.a 30000000000000000000000000000000000000 =
    rw c.plus.ensures (within_plus c.type_degree.result.a c.node_regularity.result.a 20000000 20000000000000000000000000000000000000 30000000000000000000000000000000000000 degree c.node_regularity.ensures.small (omega arith)) in
    within_fits (c.plus.result.a -ℤ c.regularity.result.a) 40000000000000000000000000000000000000
    (within_minus c.plus.result.a c.regularity.result.a 30000000000000000000000000000000000000 20000000 40000000000000000000000000000000000000 sum c.regularity.ensures.small (omega arith)) (omega arith)

pub returns-clause-small : goal.returns-clause-small
returns-clause-small c =
    let degree : IsWithin c.type_degree.result.a 20000000 = rw c.type_degree.ensures (type_a_within c.args.eq.now.types c.args.kernel.0 c.requires.types) in
    let coefficient : IsWithin c.type_degree.result.b 20000000 = rw c.type_degree.ensures (type_b_within c.args.eq.now.types c.args.kernel.0 c.requires.types) in
    rw (c.minus.ensures, c.plus.ensures)
    (gap_small c.type_degree.result.a c.node_regularity.result.a c.regularity.result.a c.type_degree.result.b c.node_regularity.result.b c.regularity.result.b degree c.node_regularity.ensures.small c.regularity.ensures.small coefficient
    (ap (λ (x : Excess). x.b) c.node_regularity.ensures.value) (ap (λ (x : Excess). x.b) c.regularity.ensures.value))
