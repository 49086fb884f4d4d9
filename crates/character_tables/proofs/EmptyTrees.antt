-- The empty tree, by its edges.
use Rattle.std.proofs.Common.{◌≡◌, ℕ, Bool, false, List, [], ◌∷◌, map, refl, sym, ap, ◌∙◌}
use Rattle.std.specs.Prelude.{IsTrue, ◌↔◌}
use Rattle.plain_trees.specs.Degree.{is_empty_tree}
use Rattle.plain_trees.specs.View.{grafted, plain, labelled}
use Rattle.plain_trees.specs.declared.Edge.{Edge}
use Rattle.plain_trees.specs.declared.Tree.{Tree, out-Tree}
use Rattle.plain_trees.proofs.Readings.{false_not}
use Rattle.plain_trees.proofs.Views.{plain_out}

filled : (n : List ℕ) (es : List Edge) (b : Bool) → IsTrue b ↔ (es ≡ []) → b ≡ false → b ≡ is_empty_tree (grafted n (map labelled es))
filled n [] b e h = absurd (false_not b h (e.1 refl))
filled n (x ∷ es) b e h = h

pub edges_filled : (t : Tree) (b : Bool) → IsTrue b ↔ ((out-Tree t).edges ≡ []) → b ≡ false → b ≡ is_empty_tree (plain t)
edges_filled t b e h = filled (out-Tree t).n.entries (out-Tree t).edges b e h ∙ ap is_empty_tree (sym (plain_out t))
