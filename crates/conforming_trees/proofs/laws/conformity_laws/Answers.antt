use Rattle.conforming_trees.proofs.Drawings.{same_conforms, canon_conforms}
use Rattle.conforming_trees.proofs.laws.conformity_laws.Goals as goal

pub returns-clause-drawing : goal.returns-clause-drawing
returns-clause-drawing c = same_conforms

pub returns-clause-canonical : goal.returns-clause-canonical
returns-clause-canonical c = canon_conforms
