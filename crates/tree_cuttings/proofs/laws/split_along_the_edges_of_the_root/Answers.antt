use Rattle.tree_cuttings.proofs.Split.{open_is, closed_is}
use Rattle.tree_cuttings.proofs.Images.{entry_inside, entry_outside}
use Rattle.tree_cuttings.proofs.laws.split_along_the_edges_of_the_root.Goals as goal

pub returns-clause-touched : goal.returns-clause-touched
returns-clause-touched c = open_is

pub returns-clause-all : goal.returns-clause-all
returns-clause-all c = closed_is

pub returns-clause-inside : goal.returns-clause-inside
returns-clause-inside c = entry_inside

pub returns-clause-outside : goal.returns-clause-outside
returns-clause-outside c = entry_outside
