use Rattle.std.proofs.Common.{get_or, pos, refl, sym, arith}
use Rattle.signed_sums.proofs.Signs.{size_step, sign_turned, sign_kept, found_product}
use Rattle.signed_sums.proofs.products.product.Goals as goal
use Rattle.signed_sums.proofs.products.product.Goals.{then-is_below, else-is_below}

pub loop-factor-preserved : goal.loop-factor-preserved
loop-factor-preserved c =
    let zs = c.args.factors.now in
    let i = c.loop-factor.factor-index in
    let z = get_or zs i (pos 0) in
    let within = c.loop-factor-test.true in
    let inv = c.loop-factor.invariant in
    record {
      within = omega (arith, c.times-size.ensures);
      size = size_step zs i z within refl c.loop-factor.size c.times-size.result _ c.absolute.result inv.size c.absolute.ensures c.times-size.ensures;
      sign = elim c.if-is_below.branch [
        | then-is_below w ↦ rw w.is_negative-is (sign_turned zs i z within refl c.loop-factor.is_negative _ (sym w.if-is_below.ensures) inv.sign)
        | else-is_below w ↦ rw w.is_negative-is (sign_kept zs i z within refl c.loop-factor.is_negative _ (sym w.if-is_below.ensures) inv.sign)
      ];
    }

pub returns : goal.returns
returns c =
    found_product c.args.factors.now c.loop-factor.factor-index c.loop-factor.size c.loop-factor.is_negative c.signed.result c.loop-factor-test.false
    c.loop-factor.invariant.within c.loop-factor.invariant.size c.loop-factor.invariant.sign c.signed.ensures
