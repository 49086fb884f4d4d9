use Rattle.std.proofs.Common.{Bool, cond, ap, ◌∙◌, arith}
use Rattle.tree_pool.specs.Content.{tree_at}
use Rattle.tree_pool.proofs.Walks.{no_edge, below_at}
use Rattle.elementary_diff.specs.Differentials.{right_terms}
use Rattle.elementary_diff.specs.Masses.{mass_of}
use Rattle.elementary_diff.proofs.NodeWalks.{masses-whole, masses-kernel, masses-other, capped}
use Rattle.elementary_diff.proofs.weights.+mass.Goals as goal
use Rattle.elementary_diff.proofs.weights.+mass.Goals.{then-is_kernel+in_ok-mass, else-is_kernel}

pub loop-e-init : goal.loop-e-init
loop-e-init t c =
    let eq = c.args.eq.now in
    record {
      within = omega (arith, c.in_ok-product.ensures.value);
      product = masses-whole eq.types (right_terms eq) c.args.kernel.0 c.args.pool.now c.args.id.0 c.node.result.0.entries c.node.result.1.now c.in_ok-product.product c.node.ensures.tree c.in_ok-product.ensures.value;
    }

pub mass-requires : goal.mass-requires
mass-requires t c =
    let below = below_at c.args.id.0 c.node.result.1.now c.loop-e.e-index no_edge c.node.ensures.below c.loop-e-test.true in
    (omega (arith, below), (c.requires.equation, omega (arith, below, c.requires.known)))

pub loop-e-preserved : goal.loop-e-preserved
loop-e-preserved t c =
    let eq = c.args.eq.now in
    let es = c.node.result.1.now in
    let whole = mass_of eq.types (right_terms eq) c.args.kernel.0 (tree_at c.args.pool.now c.args.id.0) in
    elim c.if-is_kernel.branch [
      | then-is_kernel+in_ok-mass w ↦
          let is = w.product-is ∙ w.times-product.ensures in
          record {
            within = capped c.loop-e.product w.in_ok-mass.field-0 c.if-is_kernel.product is;
            product = masses-kernel eq.types (right_terms eq) c.args.pool.now es c.loop-e.e-index c.loop-e.product c.if-is_kernel.product w.in_ok-mass.field-0 whole
                c.loop-e-test.true (c.is_kernel.ensures ∙ ap (λ (b : Bool). cond b 1 0) w.if-is_kernel.true) w.in_ok-mass.ensures.value is c.loop-e.invariant.product;
          }
      | else-is_kernel w ↦ record {
        within = omega (arith, w.product-is, c.loop-e.invariant.within);
        product = rw w.product-is
            (masses-other eq.types (right_terms eq) c.args.pool.now es c.loop-e.e-index c.loop-e.product whole c.loop-e-test.true (c.is_kernel.ensures ∙ ap (λ (b : Bool). cond b 1 0) w.if-is_kernel.false) c.loop-e.invariant.product);
      }
    ]
