use Rattle.antipode_laws.proofs.Parities.{odd_group, odd_direction}
use Rattle.antipode_laws.proofs.DecoratedRoots.{decorated_root}
use Rattle.antipode_laws.proofs.IntegratedEdges.{integrated_edge}
use Rattle.antipode_laws.proofs.VanishingTrees.{vanishing_tree}
use Rattle.antipode_laws.proofs.laws.vanishing_trees.Goals as goal

pub returns-clause-roots : goal.returns-clause-roots
returns-clause-roots c = decorated_root

pub returns-clause-groups : goal.returns-clause-groups
returns-clause-groups c = odd_group

pub returns-clause-directions : goal.returns-clause-directions
returns-clause-directions c = odd_direction

pub returns-clause-moments : goal.returns-clause-moments
returns-clause-moments c = integrated_edge

pub returns-clause-all : goal.returns-clause-all
returns-clause-all c = vanishing_tree
