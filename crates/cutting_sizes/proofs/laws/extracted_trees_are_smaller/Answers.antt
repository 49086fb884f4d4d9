use Rattle.cutting_sizes.proofs.Falls.{term_falls}
use Rattle.cutting_sizes.proofs.laws.extracted_trees_are_smaller.Goals as goal

pub returns : goal.returns
returns c = term_falls
