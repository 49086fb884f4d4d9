use Rattle.tree_grammar.proofs.PlaceUnique.{place_unique}
use Rattle.tree_grammar.proofs.places.place_law.Goals as goal

pub returns : goal.returns
returns c = place_unique
