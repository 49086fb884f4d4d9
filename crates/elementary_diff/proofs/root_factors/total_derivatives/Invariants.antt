use Rattle.symbol_polys.specs.View.{terms_of}
use Rattle.elementary_diff.proofs.FurtherSteps.{AreDerived}
use Rattle.elementary_diff.proofs.root_factors.total_derivatives.Given as goal

abbrev pub invariant-loop : goal.invariant-loop
invariant-loop l = AreDerived l.n.entries l.direction l.counter (terms_of l.fn.left) (terms_of l.terms)

abbrev pub invariant-loop-direction : goal.invariant-loop-direction
invariant-loop-direction l = AreDerived l.n.entries l.direction 0 (terms_of l.fn.left) (terms_of l.terms)
