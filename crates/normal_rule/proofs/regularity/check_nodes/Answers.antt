use Rattle.std.proofs.Common.{arith, true, false, below_more, refl, ap, ◌∙◌}
use Rattle.std.specs.Int.{int_min}
use Rattle.std.proofs.lemmas.List.Sums.{prefix_len_is}
use Rattle.degree_numbers.specs.declared.degree.Degree.{Degree}
use Rattle.ordered_lists.proofs.Places.{test_at, fails_at}
use Rattle.normal_rule.specs.Gaps.{least_difference, greatest}
use Rattle.normal_rule.specs.Order.{empty_node}
use Rattle.normal_rule.specs.Regularity.{holds, standard}
use Rattle.normal_rule.proofs.Gaps.{step_gap}
use Rattle.normal_rule.proofs.regularity.check_nodes.Goals as goal

pub returns-in-Err-clause-node : goal.returns-in-Err-clause-node
returns-in-Err-clause-node c =
    let p = holds c.args.eq.now c.args.kernel.0 in
    fails_at p c.args.nodes.now _ empty_node c.loop-i-test.true c.loop-i.invariant.1
    (test_at p c.args.nodes.now c.loop-i.i _ _ empty_node false c.loop-i-test.true c.index-nodes-i.is refl c.in-Err.ensures.fails)

pub loop-i-preserved : goal.loop-i-preserved
loop-i-preserved c =
    let p = holds c.args.eq.now c.args.kernel.0 in (
      step_gap (least_difference c.args.eq.now c.args.kernel.0) greatest c.args.nodes.now c.loop-i.i c.index-nodes-i.result c.loop-i.gap c.least-gap.result c.loop-i-test.true c.index-nodes-i.is c.loop-i.invariant.0
          (c.least-gap.ensures ∙ ap (λ (d : Degree). standard (int_min c.loop-i.gap.a d.a)) c.in-Ok.ensures.difference),
      below_more _ _ c.loop-i.invariant.1 (test_at p c.args.nodes.now c.loop-i.i _ _ empty_node true c.loop-i-test.true c.index-nodes-i.is refl c.in-Ok.ensures.holds),
    )

pub returns-clause-hold : goal.returns-clause-hold
returns-clause-hold c =
    prefix_len_is (holds c.args.eq.now c.args.kernel.0) c.args.nodes.now _ empty_node (omega arith) (λ k lt. c.loop-i.invariant.1 k (omega arith)) (λ lt. absurd (omega arith))
