-- What was made over an edge so far, by the numbers of what it was made of.
--   IsGraft c k p m, AreGrafts c k p ms == the tree m.1 is, in canonical form, the tree m.0.1 with
--       one more edge (k, p) at its root, and the tree m.0.0 above it; so it is with each of ms
--   IsUnion g m, AreUnions g ms == the forest m.1 has the trees of the forests m.0.0 and m.0.1; so
--       it is with each of ms
--   IsMadeOver g k p m == m has such trees and forests
use Rattle.std.specs.Prelude.{ℕ, ◌<◌, List, ◌++◌, length}
use Rattle.std.specs.List.{AllByRecursion}
use Rattle.plain_trees.specs.Plain.{graft}
use Rattle.plain_trees.specs.Canon.{canon}
use Rattle.plain_trees.specs.Coproducts.{canon_forest}
use Rattle.tree_pool.specs.Content.{Content, Holds, tree_at}
use Rattle.pooled_cuttings.specs.declared.once.MadeOver.{MadeOver}
use Rattle.pooled_cuttings.specs.Groves.{GroveContent, forest_in}
use Rattle.pooled_cuttings.specs.Products.{HoldsForest}

pub record IsGraft (c : Content) (k : ℕ) (p : List ℕ) (m : (ℕ × ℕ) × ℕ) : Type 0 where
  pub child : m.0.0 < length c.trees
  pub rest : m.0.1 < length c.trees
  pub tree : Holds c m.1 (canon (graft k p (tree_at c m.0.0) (tree_at c m.0.1)))

abbrev pub AreGrafts : Content → ℕ → List ℕ → List ((ℕ × ℕ) × ℕ) → Type 0
AreGrafts c k p = AllByRecursion (IsGraft c k p)

pub record IsUnion (g : GroveContent) (m : (ℕ × ℕ) × ℕ) : Type 0 where
  pub first : m.0.0 < length g.forests
  pub second : m.0.1 < length g.forests
  pub forest : HoldsForest g m.1 (canon_forest (forest_in g m.0.0 ++ forest_in g m.0.1))

abbrev pub AreUnions : GroveContent → List ((ℕ × ℕ) × ℕ) → Type 0
AreUnions g = AllByRecursion (IsUnion g)

pub record IsMadeOver (g : GroveContent) (k : ℕ) (p : List ℕ) (m : MadeOver) : Type 0 where
  pub grafts : AreGrafts g.pool k p m.grafts
  pub unions : AreUnions g m.unions
