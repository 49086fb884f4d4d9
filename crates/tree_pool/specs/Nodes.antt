-- The nodes of a pool and the trees that they stand for.
-- What contracts of public calls say:
--   Shape == the root decoration and the edges of a node, as lists
--   shape_of x, shapes xs == the shape of the node x, the shapes of the nodes xs
--   tree_of_shape ts x == the tree of the shape x, its edges leading to trees of ts
--   trees_after ts xs == the trees ts, and behind them those of the shapes xs
--   made_trees xs == the trees of the shapes xs, by place
--   IsMadeFrom i xs, IsMade xs == the children of each shape stand before it, i shapes and then xs
--   AreNodes ty xs == what the shapes of the nodes of every pool with the types ty meet
--   measure ty t == the degree, the number of edges and the decoration sum of t
--   AreMeasured ty xs ms == ms are the measures of the trees of the nodes xs, by place
--   AreMeasuredNodes ty xs ms == what the nodes of every pool with the types ty meet, with the
--       measures that it keeps of them
-- Working notions of the code and of proofs:
--   IsShapeAt xs i n es == the node at place i has root decoration n and the edges es
--   LacksShape xs n es == no node has root decoration n and the edges es
--   GainsShape xs ys n es == ys is xs with such a node behind it
use Rattle.std.specs.Prelude.{◌≡◌, ◌≢◌, ℕ, ◌+◌, List, [], ◌∷◌, ◌++◌, map, slice_get, Some, ⊤}
use Rattle.degree_numbers.specs.declared.types.Types.{Types}
use Rattle.degree_numbers.specs.Types.{AreTypes}
use Rattle.plain_trees.specs.Plain.{Plain, edge_count_of, decoration_sum_of}
use Rattle.plain_trees.specs.Degree.{degree_of}
use Rattle.tree_pool.specs.Content.{tree_over, AreBelow, IsDistinct, IsKept}
use Rattle.tree_pool.specs.declared.node.EdgeTo.{EdgeTo}
use Rattle.tree_pool.specs.declared.node.Measures.{Measures}
use Rattle.tree_pool.specs.declared.node.Node.{Node}

pub record Shape : Type 0 where
  pub n : List ℕ
  pub edges : List EdgeTo

abbrev pub shape_of : Node → Shape
shape_of x = record { n = x.n.entries; edges = x.edges.now }

abbrev pub shapes : List Node → List Shape
shapes = map shape_of

abbrev pub tree_of_shape : List Plain → Shape → Plain
tree_of_shape ts x = tree_over ts x.n x.edges

abbrev pub trees_after : List Plain → List Shape → List Plain
trees_after ts [] = ts
trees_after ts (x ∷ xs) = trees_after (ts ++ tree_of_shape ts x ∷ []) xs

abbrev pub made_trees : List Shape → List Plain
made_trees = trees_after []

abbrev pub IsMadeFrom : ℕ → List Shape → Type 0
IsMadeFrom i [] = ⊤
IsMadeFrom i (x ∷ xs) = AreBelow i x.edges × IsMadeFrom (i + 1) xs

abbrev pub IsMade : List Shape → Type 0
IsMade = IsMadeFrom 0

pub record AreNodes (ty : Types) (xs : List Shape) : Type 0 where
  pub types : AreTypes ty
  pub made : IsMade xs
  pub distinct : IsDistinct (made_trees xs)
  pub kept : (i : ℕ) (t : Plain) → slice_get (made_trees xs) i ≡ Some t → IsKept ty t

abbrev pub measure : Types → Plain → Measures
measure ty t =
    record { degree = degree_of ty t; edges = edge_count_of t; decorations = decoration_sum_of t }

abbrev pub AreMeasured : Types → List Node → List Measures → Type 0
AreMeasured ty xs ms = ms ≡ map (measure ty) (made_trees (shapes xs))

pub record AreMeasuredNodes (ty : Types) (xs : List Node) (ms : List Measures) : Type 0 where
  pub nodes : AreNodes ty (shapes xs)
  pub measured : AreMeasured ty xs ms

abbrev pub IsShapeAt : List Shape → ℕ → List ℕ → List EdgeTo → Type 0
IsShapeAt xs i n es = slice_get xs i ≡ Some record { n = n; edges = es }

abbrev pub LacksShape : List Shape → List ℕ → List EdgeTo → Type 0
LacksShape xs n es = (i : ℕ) → slice_get xs i ≢ Some record { n = n; edges = es }

abbrev pub GainsShape : List Shape → List Shape → List ℕ → List EdgeTo → Type 0
GainsShape xs ys n es = ys ≡ xs ++ record { n = n; edges = es } ∷ []
