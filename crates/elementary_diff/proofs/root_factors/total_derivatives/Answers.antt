use Rattle.std.proofs.Common.{pos, arith}
use Rattle.symbol_polys.specs.Polynomials.{size_of}
use Rattle.symbol_polys.specs.View.{terms_of}
use Rattle.elementary_diff.specs.Differentials.{total_derivative}
use Rattle.elementary_diff.proofs.FurtherSteps.{derived-start, derived-next, derived-turned, derived-fits, derived-low, derived-end}
use Rattle.elementary_diff.proofs.root_factors.total_derivatives.Goals as goal

pub loop-direction-init : goal.loop-direction-init
loop-direction-init c = derived-start c.args.n.now.entries (terms_of c.args.left) c.requires.low

pub collected_derivative-requires-clause-low : goal.collected_derivative-requires-clause-low
collected_derivative-requires-clause-low c =
    rw c.as_slice.ensures (derived-low c.args.n.now.entries c.loop-direction.direction c.loop.counter (terms_of c.args.left) (terms_of c.loop.terms) c.requires.few c.loop.invariant)

pub collected_derivative-requires-clause-fits : goal.collected_derivative-requires-clause-fits
collected_derivative-requires-clause-fits c =
    rw c.as_slice.ensures
    (derived-fits c.args.n.now.entries c.loop-direction.direction c.loop.counter (terms_of c.args.left) (terms_of c.loop.terms) (omega arith) (omega arith) c.requires.fits c.loop.invariant)

pub loop-preserved : goal.loop-preserved
loop-preserved c =
    let ts = terms_of c.loop.terms in
    derived-next c.args.n.now.entries c.loop-direction.direction c.loop.counter (terms_of c.args.left) ts (terms_of c.in_ok-terms.terms) (pos (size_of (total_derivative c.loop-direction.direction ts)))
    (omega arith) (omega arith) (rw c.as_slice.ensures at c.in_ok-terms.ensures.poly) (rw c.as_slice.ensures at c.in_ok-terms.ensures.coefficients) c.loop.invariant

pub loop-direction-preserved : goal.loop-direction-preserved
loop-direction-preserved c =
    derived-turned c.args.n.now.entries c.loop-direction.direction c.loop.counter (terms_of c.args.left) (terms_of c.loop.terms)
    (omega arith) (omega arith) c.loop.invariant

pub returns-clause-monomials : goal.returns-clause-monomials
returns-clause-monomials c =
    (derived-end c.args.n.now.entries c.loop-direction.direction (terms_of c.args.left) (terms_of c.loop-direction.terms) (omega arith) c.loop-direction.invariant).0

pub returns-clause-coefficients : goal.returns-clause-coefficients
returns-clause-coefficients c =
    (derived-end c.args.n.now.entries c.loop-direction.direction (terms_of c.args.left) (terms_of c.loop-direction.terms) (omega arith) c.loop-direction.invariant).1

pub returns-clause-size : goal.returns-clause-size
returns-clause-size c =
    (derived-end c.args.n.now.entries c.loop-direction.direction (terms_of c.args.left) (terms_of c.loop-direction.terms) (omega arith) c.loop-direction.invariant).2
