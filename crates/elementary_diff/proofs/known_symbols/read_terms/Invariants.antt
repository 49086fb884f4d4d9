use Rattle.std.proofs.Common.{drop}
use Rattle.symbol_polys.specs.View.{terms_of}
use Rattle.elementary_diff.specs.Known.{AreFiveLong}
use Rattle.elementary_diff.proofs.known_symbols.read_terms.Given as goal

abbrev pub invariant-loop-t : goal.invariant-loop-t
invariant-loop-t l = AreFiveLong (terms_of (drop l.t-index l.terms)) → AreFiveLong (terms_of l.terms)
