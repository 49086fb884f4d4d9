use Rattle.std.proofs.Common.{◌≡◌, ◌-◌, ◌<◌, Bool, cond, length, ap, ◌∙◌, arith, rules}
use Rattle.symbol_polys.specs.declared.error.PolyError.TheVariants.{Memory}
use Rattle.tree_pool.proofs.Walks.{no_edge, below_at}
use Rattle.elementary_diff.specs.Differentials.{right_terms}
use Rattle.elementary_diff.specs.Within.{IsSumWithin}
use Rattle.elementary_diff.proofs.FactorWalks.{child_mass, child_factor}
use Rattle.elementary_diff.proofs.ProductSteps.{mass-at, memory_at, product-kernel, product-other, product-skipped, product-repeated, answer_whole, memory_answer}
use Rattle.elementary_diff.proofs.products.+product.Goals as goal
use Rattle.elementary_diff.proofs.products.+product.Goals.{then-not-is_repeated+in_ok-factor-2, else-not-is_repeated}

pub product-requires : goal.product-requires
product-requires t c =
    let eq = c.args.eq.now in
    let es = c.node.result.1.now in
    let l = c.loop-left.left in
    let lt : l - 1 < length es = omega (arith, c.loop-left-test.true, c.loop-left.invariant.within) in
    let below = below_at c.args.id.0 es (l - 1) no_edge c.node.ensures.below lt in
    let mass = mass-at eq.types (right_terms eq) c.args.kernel.0 c.args.pool.now c.args.id.0 c.node.result.0.entries es (l - 1) c.node.ensures.tree c.requires.some c.requires.fits lt
    (c.is_kernel.ensures ∙ ap (λ (b : Bool). cond b 1 0) c.if-is_kernel.true) in
    (omega (arith, below), (c.requires.equation, (omega (arith, below, c.requires.known), (mass.some, mass.fits))))

pub returns-in_err-above-2-clause-memory : goal.returns-in_err-above-2-clause-memory
returns-in_err-above-2-clause-memory t c =
    let eq = c.args.eq.now in
    let es = c.node.result.1.now in
    let l = c.loop-left.left in
    let is = c.is_kernel.ensures ∙ ap (λ (b : Bool). cond b 1 0) c.if-is_kernel.true in
    let lt : l - 1 < length es = omega (arith, c.loop-left-test.true, c.loop-left.invariant.within) in
    let mass = mass-at eq.types (right_terms eq) c.args.kernel.0 c.args.pool.now c.args.id.0 c.node.result.0.entries es (l - 1) c.node.ensures.tree c.requires.some c.requires.fits lt is in
    let factor : IsSumWithin (child_factor eq.types (right_terms eq) c.args.pool.now es (l - 1)) (child_mass eq.types (right_terms eq) c.args.pool.now es (l - 1)) c.if-not-is_repeated.factor =
    elim c.if-not-is_repeated.branch [
      | then-not-is_repeated+in_ok-factor-2 w ↦ rw w.factor-is w.in_ok-factor-2.ensures.value
      | else-not-is_repeated w ↦ rw w.factor-is (product-repeated eq.types (right_terms eq) c.args.pool.now es l c.loop-left.factor c.loop-left-test.true (c.is_repeated.ensures w.if-not-is_repeated.false) is c.loop-left.invariant.factor)
    ] in
    let memory : c.in_err-above-2.field-0.0 ≡ Memory =
    memory_at eq.types (right_terms eq) c.args.pool.now es l c.if-not-is_repeated.factor c.loop-left.above c.in_err-above-2.field-0.0 c.loop-left-test.true mass factor c.loop-left.invariant.above c.in_err-above-2.ensures.refusal in
    search rules

pub loop-left-preserved-then-is_kernel : goal.loop-left-preserved-then-is_kernel
loop-left-preserved-then-is_kernel t c =
    let eq = c.args.eq.now in
    let es = c.node.result.1.now in
    let l = c.loop-left.left in
    let is = c.is_kernel.ensures ∙ ap (λ (b : Bool). cond b 1 0) c.if-is_kernel.true in
    let factor : IsSumWithin (child_factor eq.types (right_terms eq) c.args.pool.now es (l - 1)) (child_mass eq.types (right_terms eq) c.args.pool.now es (l - 1)) c.if-not-is_repeated.factor =
    elim c.if-not-is_repeated.branch [
      | then-not-is_repeated+in_ok-factor-2 w ↦ rw w.factor-is w.in_ok-factor-2.ensures.value
      | else-not-is_repeated w ↦ rw w.factor-is (product-repeated eq.types (right_terms eq) c.args.pool.now es l c.loop-left.factor c.loop-left-test.true (c.is_repeated.ensures w.if-not-is_repeated.false) is c.loop-left.invariant.factor)
    ] in
    record {
      within = omega (arith, c.loop-left.invariant.within);
      above = product-kernel eq.types (right_terms eq) c.args.pool.now es l c.if-not-is_repeated.factor c.loop-left.above c.in_ok-above-2.above c.loop-left-test.true c.loop-left.invariant.within is factor
          c.loop-left.invariant.above c.in_ok-above-2.ensures.poly c.in_ok-above-2.ensures.coefficients c.in_ok-above-2.ensures.mass;
      factor = λ _ _. factor;
    }

pub loop-left-preserved : goal.loop-left-preserved
loop-left-preserved t c =
    let eq = c.args.eq.now in
    let es = c.node.result.1.now in
    let l = c.loop-left.left in
    let is = c.is_kernel.ensures ∙ ap (λ (b : Bool). cond b 1 0) c.if-is_kernel.false in
    record {
      within = omega (arith, c.loop-left.invariant.within);
      above = product-other eq.types (right_terms eq) c.args.pool.now es l c.loop-left.above c.loop-left-test.true c.loop-left.invariant.within is c.loop-left.invariant.above;
      factor = product-skipped eq.types (right_terms eq) c.args.pool.now es (l - 1) c.loop-left.factor is;
    }

pub returns-clause-value : goal.returns-clause-value
returns-clause-value t c =
    let eq = c.args.eq.now in
    let none : c.loop-left.left ≡ 0 = omega (arith, c.loop-left-test.false) in
    answer_whole eq.types (right_terms eq) c.args.kernel.0 c.args.pool.now c.args.id.0 c.node.result.0.entries c.node.result.1.now c.in_ok-root.root c.loop-left.above c.mul-2.result c.node.ensures.tree
    (record { poly = c.in_ok-root.ensures.poly; coefficients = c.in_ok-root.ensures.coefficients; mass = c.in_ok-root.ensures.mass }) (rw none at c.loop-left.invariant.above) c.mul-2.ensures.poly c.mul-2.ensures.coefficients c.mul-2.ensures.mass

pub returns-clause-memory : goal.returns-clause-memory
returns-clause-memory t c =
    let eq = c.args.eq.now in
    let none : c.loop-left.left ≡ 0 = omega (arith, c.loop-left-test.false) in
    memory_answer eq.types (right_terms eq) c.args.kernel.0 c.args.pool.now c.args.id.0 c.node.result.0.entries c.node.result.1.now c.in_ok-root.root c.loop-left.above c.mul-2.result c.node.ensures.tree
    (record { poly = c.in_ok-root.ensures.poly; coefficients = c.in_ok-root.ensures.coefficients; mass = c.in_ok-root.ensures.mass }) (rw none at c.loop-left.invariant.above) c.requires.fits c.mul-2.ensures.refusal
