-- What the steps of the builder do to what its values stand for.
use Rattle.std.proofs.Common.{◌≡◌, ℕ, List, [], ◌∷◌, ◌++◌, map, refl, ap}
use Rattle.plain_trees.specs.Plain.{bare, graft}
use Rattle.plain_trees.specs.View.{grafted, labelled}
use Rattle.plain_trees.specs.Degree.{empty_tree}
use Rattle.plain_trees.specs.declared.tree.Edge.{Edge}
use Rattle.plain_trees.specs.declared.building.Open.{Open}
use Rattle.plain_trees.specs.Building.{OpenTree, over, planted_edges, open_of, stacked, with_subtree, tree_of_open, closed_by}

pub grafted_over : (n : List ℕ) (es : List Edge) → grafted n (map labelled es) ≡ over (planted_edges es) (bare n)
grafted_over n [] = refl
grafted_over n (e ∷ es) = ap (graft (labelled e).kind.0 (labelled e).p.entries (labelled e).child) (grafted_over n es)

pub stacked_push : (os : List Open) (o : Open) (s : List OpenTree) → stacked (os ++ o ∷ []) s ≡ open_of o ∷ stacked os s
stacked_push [] o s = refl
stacked_push (x ∷ os) o s = stacked_push os o (open_of x ∷ s)

pub closed_is : (outer left : List Open) (parent inner r : Open) → outer ≡ left ++ parent ∷ [] →
    open_of r ≡ with_subtree (open_of parent) (tree_of_open (with_subtree (open_of inner) empty_tree)) →
    record { outer = stacked left []; inner = open_of r } ≡ closed_by (stacked outer []) record { outer = stacked outer []; inner = open_of inner }
closed_is outer left parent inner r h e = rw (h, stacked_push left parent [], e) refl
