-- The bounds of a tree, as numbers of the program.
--   AreTreeSums ty b t x == x holds the bounds of the sums of t as values, the sum of the
--       decorations of its nodes, and its lows
--   AreModest x == the sum of the decorations is at most 4096, and the lows are in range
use Rattle.std.specs.Prelude.{ℕ, ◌≡◌, ◌≤◌}
use Rattle.degree_numbers.specs.declared.types.Types.{Types}
use Rattle.exact_sums.specs.Saturating.{saturated}
use Rattle.plain_trees.specs.Plain.{Plain}
use Rattle.cutting_sizes.specs.Sizes.{node_sum}
use Rattle.cutting_tables.specs.PoolLows.{AreLows, AreWithin}
use Rattle.coefficient_bounds.specs.Bounds.{sums_within}
use Rattle.coefficient_bounds.specs.declared.sums.TreeSums.{TreeSums}

pub record AreTreeSums (ty : Types) (b : ℕ) (t : Plain) (x : TreeSums) : Type 0 where
  pub idle : x.idle ≡ saturated (sums_within ty b t).idle
  pub touched : x.touched ≡ saturated (sums_within ty b t).touched
  pub nodes : x.nodes ≡ node_sum t
  pub lows : AreLows ty t x.lows

pub record AreModest (x : TreeSums) : Type 0 where
  pub nodes : x.nodes ≤ 4096
  pub lows : AreWithin x.lows
