use Rattle.std.proofs.Common.{List, map, ap, ◌∙◌}
use Rattle.symbol_polys.specs.Polynomials.{PlainTerm, coefficient_of, size_of}
use Rattle.symbol_polys.specs.Symbols.{IsMonomial}
use Rattle.symbol_polys.specs.View.{symbol_of, terms_of}
use Rattle.symbol_polys.proofs.PolyLaws.{each_at}
use Rattle.symbol_polys.proofs.DerivativeLaws.{derived_all, derivative_fits, is_polynomial-derivative, size_of-kept_derivatives, coefficient_of-kept_derivatives}
use Rattle.symbol_polys.proofs.derivatives.derived_terms.Goals as goal

pub power-power-requires-clause-trees : goal.power-power-requires-clause-trees
power-power-requires-clause-trees c =
    let each : IsMonomial (map symbol_of c.term-item.result.symbols) =
    each_at c.args.f.now.terms c.loop-term.term-index c.term-item.result (rw c.as_slice-term-items.ensures at c.loop-term-test.true) (rw c.as_slice-term-items.ensures at c.term-item.is) c.requires.poly.each in
    rw c.as_slice.ensures each.trees

pub derived_term-requires-clause-trees : goal.derived_term-requires-clause-trees
derived_term-requires-clause-trees c =
    (each_at c.args.f.now.terms c.loop-term.term-index c.term-item.result (rw c.as_slice-term-items.ensures at c.loop-term-test.true) (rw c.as_slice-term-items.ensures at c.term-item.is) c.requires.poly.each).trees

pub derived_term-requires-clause-fits : goal.derived_term-requires-clause-fits
derived_term-requires-clause-fits c =
    rw (c.power-power.ensures, c.as_slice.ensures)
    (derivative_fits (symbol_of c.args.by.now) c.args.f.now.terms c.loop-term.term-index c.term-item.result (rw c.as_slice-term-items.ensures at c.loop-term-test.true) (rw c.as_slice-term-items.ensures at c.term-item.is) c.requires.fits)

pub returns-clause-poly : goal.returns-clause-poly
returns-clause-poly c =
    let f = c.args.f.now in
    is_polynomial-derivative (symbol_of c.args.by.now) f.mass (terms_of f.terms) (terms_of c.loop-term.derived)
    (derived_all (symbol_of c.args.by.now) f.terms c.loop-term.term-index (terms_of c.loop-term.derived) (rw c.as_slice-term-items.ensures at c.loop-term-test.false) (rw c.as_slice-term-items.ensures at c.loop-term.invariant)) c.requires.poly

pub returns-clause-size : goal.returns-clause-size
returns-clause-size c =
    let f = c.args.f.now in
    ap (λ (us : List PlainTerm). size_of us) (derived_all (symbol_of c.args.by.now) f.terms c.loop-term.term-index (terms_of c.loop-term.derived) (rw c.as_slice-term-items.ensures at c.loop-term-test.false) (rw c.as_slice-term-items.ensures at c.loop-term.invariant))
    ∙ size_of-kept_derivatives (symbol_of c.args.by.now) (terms_of f.terms)

pub returns-clause-coefficients : goal.returns-clause-coefficients
returns-clause-coefficients c =
    let f = c.args.f.now in
    λ m. ap (λ (us : List PlainTerm). coefficient_of m us) (derived_all (symbol_of c.args.by.now) f.terms c.loop-term.term-index (terms_of c.loop-term.derived) (rw c.as_slice-term-items.ensures at c.loop-term-test.false) (rw c.as_slice-term-items.ensures at c.loop-term.invariant))
    ∙ coefficient_of-kept_derivatives m (symbol_of c.args.by.now) (terms_of f.terms)
