-- Trees made of trees.
--   raised m t == t with m added to the decoration of its root
--   joined s t == s and t joined at their roots: the edges of both, the decorations added; the
--       product of s and t
--   planted_by k p t == one edge of type k with derivative decoration p, and the tree t above it
use Rattle.std.specs.Prelude.{ℕ, List}
use Rattle.degree_numbers.specs.Multi.{plus_of}
use Rattle.plain_trees.specs.Plain.{Plain, bare, graft}
use Rattle.plain_trees.specs.Degree.{empty_tree}

abbrev pub raised : List ℕ → Plain → Plain
raised m (bare n) = bare (plus_of m n)
raised m (graft k p c t) = graft k p c (raised m t)

abbrev pub joined : Plain → Plain → Plain
joined (bare n) t = raised n t
joined (graft k p c s) t = graft k p c (joined s t)

abbrev pub planted_by : ℕ → List ℕ → Plain → Plain
planted_by k p t = graft k p t empty_tree
