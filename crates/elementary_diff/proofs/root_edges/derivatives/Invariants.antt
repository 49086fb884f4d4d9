use Rattle.std.proofs.Common.{◌≡◌, take}
use Rattle.symbol_polys.specs.Derivatives.{derivatives}
use Rattle.symbol_polys.specs.View.{symbol_of, terms_of}
use Rattle.elementary_diff.proofs.root_edges.derivatives.Given as goal

abbrev pub invariant-loop-term : goal.invariant-loop-term
invariant-loop-term l = terms_of l.derived.items ≡ derivatives (symbol_of l.by) (terms_of (take l.term-index l.terms))
