use Rattle.std.proofs.Common.{ℕ, ◌<◌}
use Rattle.large_trees.specs.declared.excess.Excess.{Excess}
use Rattle.large_trees.specs.Lines.{HasCell}
use Rattle.large_trees.specs.Large.{IsLargeAt}
use Rattle.large_trees.proofs.large.is_large_node.Given as goal

abbrev pub invariant-loop-class : goal.invariant-loop-class
invariant-loop-class l = (k : ℕ) → k < l.class → (v : Excess) → HasCell l.line.cells k v → IsLargeAt l.count l.regularity.a l.unit l.planted k v → ⊥
