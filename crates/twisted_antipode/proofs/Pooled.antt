-- Trees of a pool.
use Rattle.std.proofs.Common.{◌≡◌, ℕ, ◌<◌, Bool, false, List, [], ◌∷◌, length, refl, sym, ap, ◌∙◌, subst, arith}
use Rattle.std.proofs.lemmas.Option.{slice_get-get_or}
use Rattle.degree_numbers.specs.Multi.{is_zero}
use Rattle.plain_trees.specs.Plain.{Plain, bare, IsSmall}
use Rattle.plain_trees.specs.Canon.{IsCanonical}
use Rattle.plain_trees.specs.Degree.{is_empty_tree}
use Rattle.tree_pool.specs.Content.{Content, Holds, IsKept, IsPooled, tree_at, tree_over}
use Rattle.tree_pool.specs.declared.EdgeTo.{EdgeTo}
use Rattle.tree_pool.proofs.Walks.{at_holds}

pub holds_at : (c : Content) (i : ℕ) → i < length c.trees → Holds c i (tree_at c i)
holds_at c i l = slice_get-get_or c.trees i (bare []) l

pub kept_at : (c : Content) (i : ℕ) → IsPooled c → i < length c.trees → IsKept c.types (tree_at c i)
kept_at c i pooled l = pooled.kept i (tree_at c i) (holds_at c i l)

pub drawn_well : (c : Content) (i : ℕ) (t : Plain) → IsPooled c → i < length c.trees → t ≡ tree_at c i → IsCanonical t × IsSmall t
drawn_well c i t pooled l e = let k = kept_at c i pooled l in (subst IsCanonical (sym e) k.canonical, subst IsSmall (sym e) k.small)

pub empty_at : (c : Content) (i : ℕ) (n : List ℕ) (es : List EdgeTo) (b : Bool) → Holds c i (tree_over c.trees n es) → length es ≡ 0 → b ≡ is_zero n → b ≡ is_empty_tree (tree_at c i)
empty_at c i n [] b h l e = e ∙ ap is_empty_tree (sym (at_holds c i (bare n) h))
empty_at c i n (f ∷ es) b h l e = absurd (omega (arith, l))

pub edges_at : (c : Content) (i : ℕ) (n : List ℕ) (es : List EdgeTo) → Holds c i (tree_over c.trees n es) → (length es ≡ 0 → ⊥) → false ≡ is_empty_tree (tree_at c i)
edges_at c i n [] h l = absurd (l refl)
edges_at c i n (f ∷ es) h l = ap is_empty_tree (sym (at_holds c i (tree_over c.trees n (f ∷ es)) h))
