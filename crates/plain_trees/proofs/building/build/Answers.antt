use Rattle.plain_trees.specs.Building.{building_of}
use Rattle.plain_trees.specs.View.{plain}
use Rattle.plain_trees.proofs.Readings.{subtree_is, no_subtree}
use Rattle.plain_trees.proofs.building.build.Goals as goal

pub returns-in-Some-clause-tree : goal.returns-in-Some-clause-tree
returns-in-Some-clause-tree c = subtree_is c.args.types.now c.requires.types (building_of c.in_ok-b.b) c.args.text.now (plain c.in-Some.t) c.in_ok-b.ensures c.in-Some.ensures

pub returns-clause-memory : goal.returns-clause-memory
returns-clause-memory c = absurd (no_subtree c.args.types.now c.requires.types (building_of c.in_ok-b.b) c.args.text.now c.in_ok-b.ensures c.in-None.ensures c.requires.grammar c.requires.known)
