use Rattle.std.proofs.Common.{◌≡◌, map, take}
use Rattle.symbol_polys.specs.View.{terms_of}
use Rattle.elementary_diff.specs.Differentials.{right_term}
use Rattle.elementary_diff.proofs.sides.right_terms.Given as goal

abbrev pub invariant-loop-t : goal.invariant-loop-t
invariant-loop-t l = terms_of l.terms.items ≡ map (right_term l.types) (take l.t-index l.right)
