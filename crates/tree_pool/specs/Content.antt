-- What a pool holds, as contracts see it.
-- What contracts of public calls say:
--   Content == the types that a pool was made with, and its trees by number
--   content_code == a code for contents: the pair of the fields
--   tree_at c i == the tree with the number i
--   trees_at c is, trees_of c ids == the trees with the numbers is, ids, in their order
--   Holds c i t == the tree with the number i is t
--   labelled_by kind p t == the edge of this type and derivative decoration, with the tree t above
--       it
--   edge_over ts e == the edge e, with the tree above it that its number names
--   tree_over ts n es == the tree with root decoration n and the edges es
--   id_order ts i j == tree order of the trees with the numbers i and j in ts; a number past the
--       end comes first
--   AreBelow i es == each of the edges es names one of the first i trees
--   IsDistinct ts == no tree stands at two places
--   IsKept ty t == t is canonical, small, and of the types ty
--   HasChildrenAmong ts t == each tree above an edge of the root of t is one of ts
--   IsPooled c == what the content of every pool meets
--   IsGrown old new == new has the types and the trees of old, under the same numbers, and maybe
--       more trees behind them
--   IsGrownBy old new t == new is old, or old with t behind its trees
-- Working notions of the code and of proofs:
--   canon_over e == the edge e, with the canonical form of the tree above it
use Rattle.std.specs.Prelude.{◌≡◌, ◌⊎◌, ℕ, ◌<◌, List, [], ◌∷◌, ◌++◌, map, take, slice_get, slice_index_or, Some, ⊤, refl}
use Rattle.std.specs.Coded.{Coded, code_by, coded×, coded_list}
use Rattle.std.specs.Option.{option_cmp}
use Rattle.std.specs.declared.cmp.Ordering.{Ordering}
use Rattle.degree_numbers.specs.declared.multi.Multi.{Multi}
use Rattle.degree_numbers.specs.declared.types.TypeId.{TypeId}
use Rattle.degree_numbers.specs.declared.types.Types.{Types}
use Rattle.degree_numbers.specs.Types.{AreTypes}
use Rattle.ordered_lists.specs.Members.{IsIn}
use Rattle.plain_trees.specs.Plain.{Plain, bare, graft, IsSmall, tree_order}
use Rattle.plain_trees.specs.Code.{plain_code}
use Rattle.plain_trees.specs.View.{Labelled, grafted}
use Rattle.plain_trees.specs.Canon.{canon, IsCanonical}
use Rattle.plain_trees.specs.Degree.{HasTypes}
use Rattle.tree_pool.specs.declared.node.EdgeTo.{EdgeTo}
use Rattle.tree_pool.specs.declared.node.TreeId.{TreeId}
use Rattle.tree_pool.specs.Types.{types_code}

pub record Content : Type 0 where
  pub types : Types
  pub trees : List Plain

-- a content is stored as the pair of its fields
abbrev pub content_code : Coded Content
content_code = code_by (Types × List Plain) (coded× types_code (coded_list plain_code))
    (λ c. (c.types, c.trees)) (λ p. record { types = p.0; trees = p.1 }) (λ _. refl)

abbrev pub tree_at : Content → ℕ → Plain
tree_at c i = slice_index_or c.trees i (bare [])

abbrev pub trees_at : Content → List ℕ → List Plain
trees_at c = map (tree_at c)

abbrev pub trees_of : Content → List TreeId → List Plain
trees_of c ids = map (λ id. tree_at c id.0) ids

abbrev pub Holds : Content → ℕ → Plain → Type 0
Holds c i t = slice_get c.trees i ≡ Some t

abbrev pub labelled_by : TypeId → Multi → Plain → Labelled
labelled_by kind p t = record { kind = kind; p = p; child = t }

abbrev pub edge_over : List Plain → EdgeTo → Labelled
edge_over ts e = labelled_by e.kind e.p (slice_index_or ts e.child.0 (bare []))

abbrev pub canon_over : Labelled → Labelled
canon_over e = labelled_by e.kind e.p (canon e.child)

abbrev pub tree_over : List Plain → List ℕ → List EdgeTo → Plain
tree_over ts n es = grafted n (map (edge_over ts) es)

abbrev pub id_order : List Plain → ℕ → ℕ → Ordering
id_order ts i j = option_cmp tree_order (slice_get ts i) (slice_get ts j)

abbrev pub AreBelow : ℕ → List EdgeTo → Type 0
AreBelow i [] = ⊤
AreBelow i (e ∷ es) = (e.child.0 < i) × AreBelow i es

abbrev pub IsDistinct : List Plain → Type 0
IsDistinct ts = (i j : ℕ) (t : Plain) → slice_get ts i ≡ Some t → slice_get ts j ≡ Some t → i ≡ j

pub record IsKept (ty : Types) (t : Plain) : Type 0 where
  pub canonical : IsCanonical t
  pub small : IsSmall t
  pub known : HasTypes ty t

abbrev pub HasChildrenAmong : List Plain → Plain → Type 0
HasChildrenAmong ts (bare n) = ⊤
HasChildrenAmong ts (graft k p c t) = IsIn c ts × HasChildrenAmong ts t

pub record IsPooled (c : Content) : Type 0 where
  pub types : AreTypes c.types
  pub distinct : IsDistinct c.trees
  pub kept : (i : ℕ) (t : Plain) → slice_get c.trees i ≡ Some t → IsKept c.types t
  pub children : (i : ℕ) (t : Plain) → slice_get c.trees i ≡ Some t →
      HasChildrenAmong (take i c.trees) t

pub record IsGrown (old new : Content) : Type 0 where
  pub types : new.types ≡ old.types
  pub trees : (more : List Plain) × (new.trees ≡ old.trees ++ more)

pub record IsGrownBy (old new : Content) (t : Plain) : Type 0 where
  pub types : new.types ≡ old.types
  pub trees : (new.trees ≡ old.trees) ⊎ (new.trees ≡ old.trees ++ t ∷ [])
