use Rattle.std.proofs.Common.{map, unsigned_abs, sym, ap, subst}
use Rattle.symbol_polys.specs.View.{symbol_of, terms_of}
use Rattle.symbol_polys.specs.Polynomials.{PlainTerm, size_of}
use Rattle.symbol_polys.specs.Symbols.{IsMonomial}
use Rattle.symbol_polys.proofs.MonomialLaws.{is_monomial-product}
use Rattle.symbol_polys.proofs.PolyLaws.{each_at, size_at, below_at}
use Rattle.symbol_polys.proofs.products.push_products.Goals as goal

pub term_product-requires-clause-u : goal.term_product-requires-clause-u
term_product-requires-clause-u c = each_at c.args.us.now c.loop-u.u-index c.u-item.result c.loop-u-test.true c.u-item.is c.requires.us

pub term_product-requires-clause-fits : goal.term_product-requires-clause-fits
term_product-requires-clause-fits c =
    below_at (unsigned_abs c.args.t.now.coefficient) (unsigned_abs c.u-item.result.coefficient) (size_of (terms_of c.args.us.now)) (size_at c.args.us.now c.loop-u.u-index c.u-item.result c.loop-u-test.true c.u-item.is) c.requires.fits

pub put-requires : goal.put-requires
put-requires c =
    let t = map symbol_of c.args.t.now.symbols in
    let u = map symbol_of c.u-item.result.symbols in
    let each = each_at c.args.us.now c.loop-u.u-index c.u-item.result c.loop-u-test.true c.u-item.is c.requires.us in
    subst IsMonomial (sym (ap (λ (p : PlainTerm). p.symbols) c.in_ok-term_product.ensures.value)) (is_monomial-product t u c.requires.t each)
