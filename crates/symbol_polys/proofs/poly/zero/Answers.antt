use Rattle.std.proofs.Common.{arith, pos}
use Rattle.std.proofs.lemmas.Int.{ints}
use Rattle.symbol_polys.proofs.PolyLaws.{no_terms}
use Rattle.symbol_polys.proofs.poly.zero.Goals as goal

pub returns-clause-poly : goal.returns-clause-poly
returns-clause-poly c = rw (c.made.ensures, c.new.ensures) (no_terms (pos 0) (omega (arith, ints)))
