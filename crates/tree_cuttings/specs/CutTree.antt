-- Cuttings read down the tree: the form in which recursions and proofs speak of them.
-- What contracts of public calls say:
--   CutTree == a tree with a cutting of it, node by node
--   node taken left, edge inside shift kind p child rest == a tree that is cut: at each node the
--       two parts of its decoration, at each edge whether it is in the set and its shift
--   leaves m == an edge of the set leaves the root
--   fits touched m == m is cut as is allowed, where the root counts as touched or does not
--   is_cut forced m == m is cut as is allowed; with the flag, the root counts as touched though no
--       edge of the set leaves it
--   root_component m == the component of the root: the edges of the set that hang together from it,
--       each node with the sum of its parts
--   components_above m == the other components, in preorder of their lowest nodes
--   cut_components forced m == the components
--   contracted m == the tree in which each component is one node
--   parts m == the parts of the root's decoration in its component
--   left_of m == what is left of the root's decoration
--   lefts_above m == what is left at the other nodes that are contracted to the root
--   lefts m == what is left at all nodes that are contracted to the root
--   cut_coefficient m == the splitting coefficient
--   coefficient_above m == the same without the factors of the root
-- Working notions of the code and of proofs:
--   tree_of m == the tree that is cut
--   taken_of m == what is taken of the root's decoration
use Rattle.std.specs.Prelude.{ℕ, ◌*◌, Bool, true, false, cond, not, ◌&&◌, ◌||◌, List, [], ◌∷◌, ◌++◌}
use Rattle.plain_trees.specs.Plain.{Plain, bare, graft}
use Rattle.tree_cuttings.specs.Roots.{raised, joined}
use Rattle.degree_numbers.specs.Multi.{is_zero, plus_of}
use Rattle.plain_trees.specs.Multinomials.{multinomial_of}

pub data CutTree : Type 0 where
  node : (taken : List ℕ) → (left : List ℕ) → CutTree
  edge : (inside : Bool) → (shift : List ℕ) → (kind : ℕ) → (p : List ℕ) → (child : CutTree) →
      (rest : CutTree) → CutTree

abbrev pub tree_of : CutTree → Plain
tree_of (node a l) = bare (plus_of a l)
tree_of (edge b s k p c r) = graft k p (tree_of c) (tree_of r)

abbrev pub leaves : CutTree → Bool
leaves (node a l) = false
leaves (edge b s k p c r) = b || leaves r

abbrev pub fits : Bool → CutTree → Bool
fits touched (node a l) = touched || is_zero a
fits touched (edge b s k p c r) =
    (is_zero s || (touched && not b)) && (fits (b || leaves c) c && fits touched r)

abbrev pub is_cut : Bool → CutTree → Bool
is_cut forced m = fits (forced || leaves m) m

abbrev pub root_component : CutTree → Plain
root_component (node a l) = bare a
root_component (edge true s k p c r) = graft k p (root_component c) (root_component r)
root_component (edge false s k p c r) = raised s (root_component r)

abbrev pub components_above : CutTree → List Plain
components_above (node a l) = []
components_above (edge true s k p c r) = components_above c ++ components_above r
components_above (edge false s k p c r) = cond (leaves c) (root_component c ∷ components_above c)
    (components_above c) ++ components_above r

abbrev pub cut_components : Bool → CutTree → List Plain
cut_components forced m =
    cond (forced || leaves m) (root_component m ∷ components_above m) (components_above m)

abbrev pub contracted : CutTree → Plain
contracted (node a l) = bare l
contracted (edge true s k p c r) = joined (contracted c) (contracted r)
contracted (edge false s k p c r) = graft k (plus_of p s) (contracted c) (contracted r)

abbrev pub parts : CutTree → List (List ℕ)
parts (node a l) = a ∷ []
parts (edge b s k p c r) = cond b (parts r) (s ∷ parts r)

abbrev pub taken_of : CutTree → List ℕ
taken_of (node a l) = a
taken_of (edge b s k p c r) = taken_of r

abbrev pub left_of : CutTree → List ℕ
left_of (node a l) = l
left_of (edge b s k p c r) = left_of r

abbrev pub lefts_above : CutTree → List (List ℕ)
lefts_above (node a l) = []
lefts_above (edge b s k p c r) = cond b (left_of c ∷ lefts_above c) [] ++ lefts_above r

abbrev pub lefts : CutTree → List (List ℕ)
lefts m = left_of m ∷ lefts_above m

abbrev pub coefficient_above : CutTree → ℕ
coefficient_above (node a l) = 1
coefficient_above (edge b s k p c r) = multinomial_of (parts c) * cond b 1
    (multinomial_of (lefts c)) * coefficient_above c * coefficient_above r

abbrev pub cut_coefficient : CutTree → ℕ
cut_coefficient m = multinomial_of (parts m) * multinomial_of (lefts m) * coefficient_above m
