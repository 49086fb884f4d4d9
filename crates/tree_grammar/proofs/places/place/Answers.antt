use Rattle.std.proofs.Common.{sym}
use Rattle.tree_grammar.proofs.PlaceLaw.{place_is}
use Rattle.tree_grammar.proofs.Sound.{taken_written}
use Rattle.tree_grammar.proofs.places.place.Goals as goal

pub returns-in-Some : goal.returns-in-Some
returns-in-Some c = place_is c.args.types.now c.args.text.now c.in-Some.i c.requires (sym c.in-Some.ensures)

pub returns-in-None : goal.returns-in-None
returns-in-None c = taken_written c.args.types.now c.args.text.now c.requires (sym c.in-None.ensures)
