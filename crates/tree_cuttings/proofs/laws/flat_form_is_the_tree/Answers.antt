use Rattle.tree_cuttings.proofs.FlatForm.{flat_form}
use Rattle.tree_cuttings.proofs.laws.flat_form_is_the_tree.Goals as goal

pub returns : goal.returns
returns c = flat_form
