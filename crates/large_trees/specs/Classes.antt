-- What is counted of a tree, up to the class "more".
-- Working notions of the code and of proofs, which no contract of a public call names:
--   most_of q == the class "more": 25 edges, or 65 entries
--   weight_at q p == what an edge with the derivative decoration p counts: 1, or the sum of its
--       entries
--   weight_of q t == the sum over the edges of t
--   class_of q t == this sum, or "more"
use Rattle.std.specs.Prelude.{ℕ, ◌+◌, List, sum, min}
use Rattle.plain_trees.specs.Plain.{Plain, bare, graft}
use Rattle.large_trees.specs.declared.count.Count.{Count}
use Rattle.large_trees.specs.declared.count.Count.TheVariants.{Edges, Decorations}

abbrev pub most_of : Count → ℕ
most_of Edges = 25
most_of Decorations = 65

abbrev pub weight_at : Count → List ℕ → ℕ
weight_at Edges p = 1
weight_at Decorations p = sum p

abbrev pub weight_of : Count → Plain → ℕ
weight_of q (bare n) = 0
weight_of q (graft k p c t) = weight_at q p + weight_of q c + weight_of q t

abbrev pub class_of : Count → Plain → ℕ
class_of q t = min (most_of q) (weight_of q t)
