use Rattle.std.proofs.Common.{◌≡◌, ◌++◌}
use Rattle.std.specs.Vec.Iter.{into_iter_items}
use Rattle.symbol_polys.specs.View.{terms_of}
use Rattle.elementary_diff.specs.Differentials.{noise_free}
use Rattle.elementary_diff.proofs.root_edges.noise_free.Given as goal

abbrev pub invariant-loop-term : goal.invariant-loop-term
invariant-loop-term l = terms_of l.left.items ++ noise_free (terms_of (into_iter_items l.term-iterator)) ≡ noise_free (terms_of l.fn.terms.items)
