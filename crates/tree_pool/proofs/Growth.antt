-- How the content of a pool grows.
use Rattle.std.proofs.Common.{◌≡◌, ℕ, ◌<◌, ◌≤◌, List, [], ◌∷◌, ◌++◌, map, length, refl, sym, ap, ◌∙◌, arith, append_assoc, append-nil, length-append, inl, inr}
use Rattle.std.proofs.Math.ListN.{get_or-append}
use Rattle.plain_trees.specs.Plain.{Plain, bare}
use Rattle.plain_trees.specs.View.{Labelled}
use Rattle.tree_pool.specs.Content.{Content, Holds, tree_at, edge_over, labelled_by, AreBelow, IsGrown, IsGrownBy}
use Rattle.tree_pool.specs.declared.node.EdgeTo.{EdgeTo}
use Rattle.tree_pool.proofs.Trees.{slice_get-append}

pub grown_refl : (c : Content) → IsGrown c c
grown_refl c = record { types = refl; trees = ([], sym (append-nil c.trees)) }

pub grown_trans : (c d e : Content) → IsGrown c d → IsGrown d e → IsGrown c e
grown_trans c d e g h = record {
  types = h.types ∙ g.types;
  trees = (g.trees.0 ++ h.trees.0, h.trees.1 ∙ ap (λ (ts : List Plain). ts ++ h.trees.0) g.trees.1 ∙ append_assoc c.trees g.trees.0 h.trees.0);
}

pub grown_by : (c d : Content) (t : Plain) → IsGrownBy c d t → IsGrown c d
grown_by c d t g = record {
  types = g.types;
  trees = elim g.trees [ inl same ↦ ([], same ∙ sym (append-nil c.trees)) | inr more ↦ (t ∷ [], more) ];
}

-- the same content in another place
pub grown_same : (c d : Content) → d ≡ c → IsGrown c d
grown_same c d h = rw h (grown_refl c)

pub grown_length : (c d : Content) → IsGrown c d → length c.trees ≤ length d.trees
grown_length c d g = omega (arith, ap length g.trees.1, length-append c.trees g.trees.0)

pub grown_holds : (c d : Content) (i : ℕ) (t : Plain) → IsGrown c d → Holds c i t → Holds d i t
grown_holds c d i t g h = rw g.trees.1 (slice_get-append c.trees g.trees.0 i t h)

pub grown_at : (c d : Content) (i : ℕ) → IsGrown c d → i < length c.trees → tree_at d i ≡ tree_at c i
grown_at c d i g h = rw g.trees.1 (get_or-append c.trees g.trees.0 (bare []) i h)

pub grown_edges : (c d : Content) (es : List EdgeTo) → IsGrown c d → AreBelow (length c.trees) es → map (edge_over d.trees) es ≡ map (edge_over c.trees) es
grown_edges c d [] g b = refl
grown_edges c d (e ∷ es) g b =
    let child = grown_at c d e.child.0 g b.0 in
    let first : edge_over d.trees e ≡ edge_over c.trees e = ap (labelled_by e.kind e.p) child in
    let rest = grown_edges c d es g b.1 in
    ap (λ (l : Labelled). l ∷ map (edge_over d.trees) es) first ∙ ap (λ (ls : List Labelled). edge_over c.trees e ∷ ls) rest
