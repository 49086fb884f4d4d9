use Rattle.std.proofs.Common.{rules, ◌≡◌, arith}
use Rattle.tree_pool.specs.Content.{tree_at}
use Rattle.normal_rule.specs.declared.rule.RuleRefusal.TheVariants.{RuleTooLarge}
use Rattle.rule_steps.specs.Sets.{HasMany}
use Rattle.rule_steps.proofs.AboveSets.{IsAbove, above_end, above_step, above_whole, below_before, edge_conforms, many_at, many_child, many_inner, many_all}
use Rattle.rule_steps.proofs.sums.+additions_above.Goals as goal

pub loop-i-init : goal.loop-i-init
loop-i-init t c = record { within = omega arith; set = λ n. above_end c.args.eq.now.types c.args.rule.now c.args.pool.now n c.node.result.1.now c.in_ok-all.all.items c.in_ok-all.ensures }

pub additions_at_root-requires-clause-known : goal.additions_at_root-requires-clause-known
additions_at_root-requires-clause-known t c =
    omega (arith, below_before c.args.id.0 c.node.result.1.now c.loop-i.i c.node.ensures.below c.loop-i-test.true c.loop-i.invariant.within, c.requires.known)

pub returns-in_err-at-clause-large : goal.returns-in_err-at-clause-large
returns-in_err-at-clause-large t c =
    let more : c.in_err-at.field-0.0 ≡ RuleTooLarge → HasMany (IsAbove c.args.eq.now.types c.args.rule.now (tree_at c.args.pool.now c.args.id.0)) =
    λ e. many_at c.args.eq.now c.args.rule.now c.requires.equation c.requires.rule c.args.pool.now c.args.id.0 c.node.result.0.entries c.node.result.1.now c.loop-i.i c.node.ensures.tree c.requires.conforms c.loop-i-test.true c.loop-i.invariant.within (c.in_err-at.ensures.large e) in
    search rules

pub additions_above-requires : goal.additions_above-requires
additions_above-requires t c =
    let below = below_before c.args.id.0 c.node.result.1.now c.loop-i.i c.node.ensures.below c.loop-i-test.true c.loop-i.invariant.within in
    let conforms = edge_conforms c.args.eq.now c.args.rule.now c.requires.equation c.requires.rule c.args.pool.now c.args.id.0 c.node.result.0.entries c.node.result.1.now c.loop-i.i c.node.ensures.tree c.requires.conforms c.loop-i-test.true c.loop-i.invariant.within in
    (omega (arith, below), (c.requires.equation, (c.requires.rule, (c.requires.small, (c.requires.types, (omega (arith, below, c.requires.known), conforms.1))))))

pub returns-in_err-above-clause-large : goal.returns-in_err-above-clause-large
returns-in_err-above-clause-large t c =
    let more : c.in_err-above.field-0.0 ≡ RuleTooLarge → HasMany (IsAbove c.args.eq.now.types c.args.rule.now (tree_at c.args.pool.now c.args.id.0)) =
    λ e. many_child c.args.eq.now c.args.rule.now c.requires.equation c.requires.rule c.args.pool.now c.args.id.0 c.node.result.0.entries c.node.result.1.now c.loop-i.i c.node.ensures.tree c.requires.conforms c.loop-i-test.true c.loop-i.invariant.within (c.in_err-above.ensures.large e) in
    search rules

pub sums_with-requires : goal.sums_with-requires
sums_with-requires t c = (c.loop-i.invariant.set c.node.result.0.entries).ascending

pub returns-in_err-inner-clause-large : goal.returns-in_err-inner-clause-large
returns-in_err-inner-clause-large t c =
    let more : c.in_err-inner.field-0.0 ≡ RuleTooLarge → HasMany (IsAbove c.args.eq.now.types c.args.rule.now (tree_at c.args.pool.now c.args.id.0)) =
    λ e. many_inner c.args.eq.now c.args.rule.now c.requires.equation c.requires.rule c.args.pool.now c.args.id.0 c.node.result.0.entries c.node.result.1.now c.loop-i.i c.node.ensures.tree c.requires.conforms c.loop-i-test.true c.loop-i.invariant.within c.in_ok-above.above.items c.loop-i.all.items c.in_ok-above.ensures.set (c.loop-i.invariant.set c.node.result.0.entries) (rw c.as_slice.ensures.value at (c.in_err-inner.ensures.large e)) in
    search rules

pub sums_with-requires-in-loop-i : goal.sums_with-requires-in-loop-i
sums_with-requires-in-loop-i t c = c.in_ok-inner.ensures.set.ascending

pub returns-in_err-all-2-clause-large : goal.returns-in_err-all-2-clause-large
returns-in_err-all-2-clause-large t c =
    let more : c.in_err-all-2.field-0.0 ≡ RuleTooLarge → HasMany (IsAbove c.args.eq.now.types c.args.rule.now (tree_at c.args.pool.now c.args.id.0)) =
    λ e. many_all c.args.eq.now c.args.rule.now c.requires.equation c.requires.rule c.args.pool.now c.args.id.0 c.node.result.0.entries c.node.result.1.now c.loop-i.i c.node.ensures.tree c.requires.conforms c.loop-i-test.true c.loop-i.invariant.within c.in_ok-at.at.items c.in_ok-above.above.items c.loop-i.all.items c.in_ok-inner.inner.items c.in_ok-at.ensures.set c.in_ok-above.ensures.set (c.loop-i.invariant.set c.node.result.0.entries) (rw c.as_slice.ensures.value at c.in_ok-inner.ensures.set) (rw c.as_slice-in-loop-i.ensures.value at (c.in_err-all-2.ensures.large e)) in
    search rules

pub loop-i-preserved : goal.loop-i-preserved
loop-i-preserved t c = record {
  within = omega (arith, c.loop-i.invariant.within);
  set = λ n.
      above_step c.args.eq.now.types c.args.rule.now c.args.pool.now n c.node.result.1.now c.loop-i.i c.in_ok-at.at.items c.in_ok-above.above.items c.loop-i.all.items c.in_ok-inner.inner.items c.in_ok-all-2.all.items c.loop-i-test.true c.loop-i.invariant.within
      c.in_ok-at.ensures.set c.in_ok-above.ensures.set (c.loop-i.invariant.set n) (rw c.as_slice.ensures.value at c.in_ok-inner.ensures.set)
      (rw c.as_slice-in-loop-i.ensures.value at c.in_ok-all-2.ensures.set);
}

pub returns-clause-set : goal.returns-clause-set
returns-clause-set t c =
    let n = c.node.result.0.entries in
    above_whole c.args.eq.now.types c.args.rule.now c.args.pool.now c.args.id.0 n c.node.result.1.now c.loop-i.i c.loop-i.all.items c.node.ensures.tree c.loop-i-test.false (c.loop-i.invariant.set n)
