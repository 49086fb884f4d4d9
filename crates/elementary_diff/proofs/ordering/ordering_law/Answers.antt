use Rattle.elementary_diff.proofs.Drawings.{are_drawings, ordering_of}
use Rattle.elementary_diff.proofs.ordering.ordering_law.Goals as goal

pub returns-clause-drawings : goal.returns-clause-drawings
returns-clause-drawings c = are_drawings

pub returns-clause-law : goal.returns-clause-law
returns-clause-law c = ordering_of
