-- The flat form of a tree: its nodes have the numbers 0, 1, .. in preorder, and edge i is the edge
-- into node i.
--   Link == an edge: its number, the number of the node that it leaves, its type, its derivative
--       decoration, and the decoration of the node into which it goes
--   links_from r next t == the edges of t in preorder, where its root has the number r and the
--       first node above it the number next
--   links_of t == the edges of t in preorder
--   tree_at j n links == the tree above node j, which has the decoration n, made of the edges of a
--       list in preorder
use Rattle.std.specs.Prelude.{ℕ, ◌+◌, ◌==◌, cond, List, [], ◌∷◌, ◌++◌}
use Rattle.plain_trees.specs.Plain.{Plain, bare, graft, root_of, edge_count_of}

pub record Link : Type 0 where
  pub number : ℕ
  pub parent : ℕ
  pub kind : ℕ
  pub p : List ℕ
  pub n : List ℕ

abbrev pub links_from : ℕ → ℕ → Plain → List Link
links_from r next (bare n) = []
links_from r next (graft k p c t) =
    record { number = next; parent = r; kind = k; p = p; n = root_of c }
    ∷ (links_from next (1 + next) c ++ links_from r (1 + next + edge_count_of c) t)

abbrev pub links_of : Plain → List Link
links_of t = links_from 0 1 t

abbrev pub tree_at : ℕ → List ℕ → List Link → Plain
tree_at j n [] = bare n
tree_at j n (e ∷ es) = cond (e.parent == j) (graft e.kind e.p (tree_at e.number e.n es)
    (tree_at j n es)) (tree_at j n es)
