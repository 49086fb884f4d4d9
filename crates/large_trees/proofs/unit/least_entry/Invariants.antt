use Rattle.large_trees.specs.Large.{IsLeastEntry}
use Rattle.large_trees.proofs.unit.least_entry.Given as goal

abbrev pub invariant-loop-i : goal.invariant-loop-i
invariant-loop-i l = IsLeastEntry l.types.scaling l.i l.least
