use Rattle.std.proofs.Common.{◌≡◌, drop}
use Rattle.plain_trees.specs.Building.{run, start, building_of}
use Rattle.plain_trees.proofs.building.run.Given as goal

abbrev pub invariant-loop-i : goal.invariant-loop-i
invariant-loop-i l = run l.types (building_of l.b) (drop l.i l.text) ≡ run l.types start l.text
