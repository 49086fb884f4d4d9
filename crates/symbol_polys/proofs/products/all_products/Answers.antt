use Rattle.std.proofs.Common.{◌*◌, ◌≤◌, refl, arith}
use Rattle.symbol_polys.specs.View.{terms_of}
use Rattle.symbol_polys.specs.Polynomials.{size_of, HaveSameCoefficients}
use Rattle.symbol_polys.proofs.PolyLaws.{each_at}
use Rattle.symbol_polys.proofs.ProductLaws.{below_with, coefficients_step, sizes_step, sizes_now}
use Rattle.symbol_polys.specs.Products.{products}
use Rattle.symbol_polys.proofs.products.all_products.Goals.{then-len-most+in_ok-terms, else-len-most}
use Rattle.symbol_polys.proofs.products.all_products.Goals as goal

pub push_products-requires-clause-t : goal.push_products-requires-clause-t
push_products-requires-clause-t c = each_at c.args.ts.now c.loop-t.t-index c.t-item.result c.loop-t-test.true c.t-item.is c.requires.ts

pub push_products-requires-clause-fits : goal.push_products-requires-clause-fits
push_products-requires-clause-fits c = below_with c.args.ts.now c.loop-t.t-index c.t-item.result (size_of (terms_of c.args.us.now)) c.loop-t-test.true c.t-item.is c.requires.fits

pub simplified-requires : goal.simplified-requires
simplified-requires c =
    omega (
      arith,
      c.requires.fits,
      sizes_now c.args.ts.now c.loop-t.t-index c.t-item.result (terms_of c.args.us.now) c.loop-t.terms.items c.push_products.new.terms.items (size_of (terms_of c.args.ts.now) * size_of (terms_of c.args.us.now)) c.loop-t-test.true c.t-item.is
          c.in_ok-push_products.ensures.items c.loop-t.invariant.size,
    )

pub loop-t-preserved : goal.loop-t-preserved
loop-t-preserved c =
    let ts = c.args.ts.now in
    let us = terms_of c.args.us.now in
    let items = c.loop-t.terms.items in
    let more = c.push_products.new.terms.items in
    let left = c.if-len-most.terms.items in
    let kept : HaveSameCoefficients left more × (size_of left ≤ size_of more) = elim c.if-len-most.branch [
      | then-len-most+in_ok-terms w ↦ rw w.terms-is (w.in_ok-terms.ensures.sum.coefficients, w.in_ok-terms.ensures.sum.size)
      | else-len-most w ↦ rw w.terms-is (λ m. refl, omega arith)
    ] in
    record {
      coefficients = λ m. coefficients_step m ts c.loop-t.t-index c.t-item.result us items more left (products (terms_of ts) us) c.loop-t-test.true c.t-item.is c.in_ok-push_products.ensures.items kept.0 (c.loop-t.invariant.coefficients m);
      size = sizes_step ts c.loop-t.t-index c.t-item.result us items more left (size_of (terms_of ts) * size_of us) c.loop-t-test.true c.t-item.is c.in_ok-push_products.ensures.items kept.1 c.loop-t.invariant.size;
    }
