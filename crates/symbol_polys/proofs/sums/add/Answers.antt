use Rattle.std.proofs.Common.{◌≡◌, ◌+◌, ◌++◌, List, unsigned_abs, ap, ◌∙◌, arith, refl}
use Rattle.symbol_polys.specs.Polynomials.{PlainTerm, size_of, coefficient_of}
use Rattle.symbol_polys.specs.View.{terms_of}
use Rattle.symbol_polys.proofs.AddLaws.{coefficient_of-append, size_of-sum, widened}
use Rattle.symbol_polys.proofs.sums.add.Goals as goal

pub collected-requires : goal.collected-requires
collected-requires c =
    let f = c.args.f.now in
    let g = c.args.g.now in
    let items : c.push_copies-2.new.terms.items ≡ terms_of f.terms ++ terms_of g.terms =
    rw (c.in_ok-push_copies-2.ensures.items, c.as_slice-2.ensures, c.in_ok-push_copies.ensures.items, c.new-terms.ensures.items, c.as_slice.ensures) refl in
    omega (arith, ap size_of items, size_of-sum f.mass g.mass (terms_of f.terms) (terms_of g.terms) c.requires.f c.requires.g, c.in-Some.ensures.fits)

pub returns-clause-poly : goal.returns-clause-poly
returns-clause-poly c =
    let f = c.args.f.now in
    let g = c.args.g.now in
    let items : c.push_copies-2.new.terms.items ≡ terms_of f.terms ++ terms_of g.terms =
    rw (c.in_ok-push_copies-2.ensures.items, c.as_slice-2.ensures, c.in_ok-push_copies.ensures.items, c.new-terms.ensures.items, c.as_slice.ensures) refl in
    rw c.made.ensures
    (widened (size_of c.push_copies-2.new.terms.items) (unsigned_abs f.mass + unsigned_abs g.mass) c.in-Some.mass (terms_of c.in_ok-collected.field-0) c.in-Some.ensures.value
    (omega (arith, ap size_of items, size_of-sum f.mass g.mass (terms_of f.terms) (terms_of g.terms) c.requires.f c.requires.g)) c.in-Some.ensures.fits c.in_ok-collected.ensures.poly)

pub returns-clause-coefficients : goal.returns-clause-coefficients
returns-clause-coefficients c =
    let f = c.args.f.now in
    let g = c.args.g.now in
    let items : c.push_copies-2.new.terms.items ≡ terms_of f.terms ++ terms_of g.terms =
    rw (c.in_ok-push_copies-2.ensures.items, c.as_slice-2.ensures, c.in_ok-push_copies.ensures.items, c.new-terms.ensures.items, c.as_slice.ensures) refl in
    λ m. rw c.made.ensures (c.in_ok-collected.ensures.coefficients m ∙ ap (λ (ts : List PlainTerm). coefficient_of m ts) items ∙ coefficient_of-append m (terms_of f.terms) (terms_of g.terms))
