use Rattle.std.proofs.Common.{map}
use Rattle.symbol_polys.specs.View.{symbol_of}
use Rattle.symbol_polys.proofs.PolyLaws.{one_term}
use Rattle.symbol_polys.proofs.poly.single.Goals as goal

pub returns-clause-poly : goal.returns-clause-poly
returns-clause-poly c = rw (c.made.ensures, c.in_ok-push.ensures.ok, c.new-terms.ensures) (one_term (map symbol_of c.args.symbols) c.requires)
