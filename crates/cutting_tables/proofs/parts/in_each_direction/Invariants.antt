use Rattle.std.proofs.Common.{◌≡◌, ℕ, List, length}
use Rattle.plain_trees.specs.Cutting.{limits}
use Rattle.plain_trees.specs.Coproducts.{each_direction}
use Rattle.cutting_tables.proofs.parts.in_each_direction.Given as goal

abbrev pub invariant-loop-i : goal.invariant-loop-i
invariant-loop-i l = (p : List ℕ) → length p ≡ 5 → l.entries ≡ limits (each_direction l.i l.most) p
