-- How high a tree is.
use Rattle.std.proofs.Common.{ℕ, ◌+◌, max}
use Rattle.plain_trees.specs.Plain.{Plain, bare, graft}

-- the number of edges of the longest path from the root
abbrev pub height : Plain → ℕ
height (bare n) = 0
height (graft k p c t) = max (1 + height c) (height t)
