use Rattle.std.proofs.Common.{◌≡◌, ◌++◌, take}
use Rattle.symbol_polys.specs.View.{terms_of}
use Rattle.symbol_polys.proofs.sums.push_copies.Given as goal

abbrev pub invariant-loop-term : goal.invariant-loop-term
invariant-loop-term l = l.terms.items ≡ l.fn.terms.items ++ terms_of (take l.term-index l.from)
