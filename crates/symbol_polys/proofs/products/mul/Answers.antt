use Rattle.std.proofs.Common.{◌≤◌, ◌*◌, unsigned_abs, ◌∙◌, arith}
use Rattle.symbol_polys.specs.Polynomials.{size_of}
use Rattle.symbol_polys.specs.View.{terms_of}
use Rattle.symbol_polys.proofs.AddLaws.{widened}
use Rattle.symbol_polys.proofs.ProductLaws.{size_of-product}
use Rattle.symbol_polys.proofs.products.mul.Goals as goal

pub all_products-requires-clause-fits : goal.all_products-requires-clause-fits
all_products-requires-clause-fits c =
    let f = c.args.f.now in
    let g = c.args.g.now in
    rw (c.as_slice.ensures, c.as_slice-2.ensures) (omega (arith, size_of-product f.mass g.mass (terms_of f.terms) (terms_of g.terms) c.requires.f c.requires.g, c.in-Some.ensures.fits))

pub collected-requires : goal.collected-requires
collected-requires c =
    let f = c.args.f.now in
    let g = c.args.g.now in
    omega (arith, rw (c.as_slice.ensures, c.as_slice-2.ensures) at c.in_ok-terms.ensures.size, size_of-product f.mass g.mass (terms_of f.terms) (terms_of g.terms) c.requires.f c.requires.g, c.in-Some.ensures.fits)

pub returns-clause-poly : goal.returns-clause-poly
returns-clause-poly c =
    let f = c.args.f.now in
    let g = c.args.g.now in
    let size : size_of c.in_ok-terms.terms.items ≤ size_of (terms_of f.terms) * size_of (terms_of g.terms) = rw (c.as_slice.ensures, c.as_slice-2.ensures) at c.in_ok-terms.ensures.size in
    rw c.made.ensures
    (widened (size_of c.in_ok-terms.terms.items) (unsigned_abs f.mass * unsigned_abs g.mass) c.in-Some.mass (terms_of c.in_ok-collected.field-0) c.in-Some.ensures.value
    (omega (arith, size, size_of-product f.mass g.mass (terms_of f.terms) (terms_of g.terms) c.requires.f c.requires.g)) c.in-Some.ensures.fits c.in_ok-collected.ensures.poly)

pub returns-clause-coefficients : goal.returns-clause-coefficients
returns-clause-coefficients c = λ m. rw c.made.ensures (c.in_ok-collected.ensures.coefficients m ∙ (rw (c.as_slice.ensures, c.as_slice-2.ensures) at (c.in_ok-terms.ensures.coefficients m)))
