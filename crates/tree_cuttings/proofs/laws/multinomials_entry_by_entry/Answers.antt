use Rattle.tree_cuttings.proofs.Multinomials.{multinomial_of-entries}
use Rattle.tree_cuttings.proofs.laws.multinomials_entry_by_entry.Goals as goal

pub returns : goal.returns
returns c = multinomial_of-entries
