-- Keys of recentring that are made of others, and their coefficients.
use Rattle.std.proofs.Common.{◌≡◌, ℕ, zero, suc, ◌+◌, ◌*◌, ◌<◌, ◌≤◌, List, [], ◌∷◌, ◌++◌, length, sum, refl, sym, ap, ◌∙◌, arith, subst}
use Rattle.std.specs.List.{AllByRecursion}
use Rattle.std.proofs.lemmas.Option.{slice_get_within}
use Rattle.exact_sums.specs.Saturating.{overflow, saturated, saturating_times}
use Rattle.exact_sums.specs.Keyed.{rekeyed, saturated_terms}
use Rattle.exact_sums.proofs.SaturatingLaws.{saturated_mul_left}
use Rattle.degree_numbers.specs.Multi.{plus_of}
use Rattle.plain_trees.specs.Plain.{Plain, graft, root_of}
use Rattle.plain_trees.specs.Canon.{canon}
use Rattle.plain_trees.specs.Joined.{raised, joined}
use Rattle.plain_trees.specs.Multinomials.{choose}
use Rattle.plain_trees.specs.Coproducts.{Recentred}
use Rattle.tree_pool.specs.Content.{Content, Holds, tree_at, IsGrown}
use Rattle.tree_pool.specs.declared.node.TreeId.{TreeId}
use Rattle.tree_pool.specs.declared.node.EdgeTo.{EdgeTo}
use Rattle.tree_pool.proofs.Walks.{at_holds}
use Rattle.tree_pool.proofs.Growth.{grown_length, grown_at, grown_holds}
use Rattle.cutting_tables.specs.Keys.{left_factor}
use Rattle.cutting_tables.proofs.Collecting.{product_value}
use Rattle.pooled_cuttings.specs.declared.keys.RightKey.{RightKey}
use Rattle.pooled_cuttings.specs.Lines.{recentred_in, recentred_terms_in, IsRightKey, IsRightLine, AreRightLines}
use Rattle.pooled_cuttings.specs.RightProducts.{left_product, right_product}
use Rattle.pooled_cuttings.proofs.Means.{pair_of, right_lines_grown, right_terms_grown, rekeyed-append}
use Rattle.pooled_cuttings.proofs.Rows.{all_append}

-- keys of trees that are there
pub right_key_held : (c : Content) (left right : TreeId) (l r : Plain) → Holds c left.0 l → Holds c right.0 r →
    IsRightKey c (record { left = left; right = right }) × (recentred_in c (record { left = left; right = right }) ≡ pair_of l r)
right_key_held c left right l r a b = (
  record { left = slice_get_within c.trees left.0 l a; right = slice_get_within c.trees right.0 r b },
  ap (λ (x : Plain). pair_of x (tree_at c right.0)) (at_holds c left.0 l a) ∙ ap (pair_of l) (at_holds c right.0 r b),
)

-- trees that were named before
pub joined_later : (c d : Content) (i j : ℕ) → IsGrown c d → i < length c.trees → j < length c.trees →
    joined (tree_at d i) (tree_at d j) ≡ joined (tree_at c i) (tree_at c j)
joined_later c d i j a p q = ap (λ (t : Plain). joined t (tree_at d j)) (grown_at c d i a p) ∙ ap (joined (tree_at c i)) (grown_at c d j a q)

pub graft_later : (c d : Content) (k : ℕ) (m : List ℕ) (i j : ℕ) → IsGrown c d → i < length c.trees → j < length c.trees →
    graft k m (tree_at d i) (tree_at d j) ≡ graft k m (tree_at c i) (tree_at c j)
graft_later c d k m i j a p q = ap (λ (t : Plain). graft k m t (tree_at d j)) (grown_at c d i a p) ∙ ap (graft k m (tree_at c i)) (grown_at c d j a q)

pub left_made : (c d f : Content) (e : EdgeTo) (x y : RightKey) (left right : TreeId) → IsRightKey c x → IsRightKey c y → IsGrown c d → IsGrown d f →
    Holds d left.0 (canon (graft e.kind.0 e.p.entries (tree_at c x.left.0) (tree_at c y.left.0))) →
    Holds f right.0 (canon (joined (tree_at d x.right.0) (tree_at d y.right.0))) →
    IsRightKey f (record { left = left; right = right })
    × (recentred_in f (record { left = left; right = right }) ≡ left_product e (recentred_in c x) (recentred_in c y))
left_made c d f e x y left right kx ky a b held_left held_right =
    right_key_held f left right _ _
    (grown_holds d f left.0 _ b held_left)
    (subst (λ (t : Plain). Holds f right.0 (canon t)) (joined_later c d x.right.0 y.right.0 a kx.right ky.right) held_right)

pub right_made : (c d f : Content) (e : EdgeTo) (s q : List ℕ) (y : RightKey) (left right : TreeId) → e.child.0 < length c.trees → IsRightKey c y → IsGrown c d → IsGrown d f →
    q ≡ plus_of e.p.entries s → Holds d left.0 (raised s (tree_at c y.left.0)) →
    Holds f right.0 (canon (graft e.kind.0 q (tree_at d e.child.0) (tree_at d y.right.0))) →
    IsRightKey f (record { left = left; right = right })
    × (recentred_in f (record { left = left; right = right }) ≡ right_product e (tree_at c e.child.0) s (recentred_in c y))
right_made c d f e s q y left right child ky a b same held_left held_right =
    let root = subst (λ (m : List ℕ). Holds f right.0 (canon (graft e.kind.0 m (tree_at d e.child.0) (tree_at d y.right.0)))) same held_right in
    right_key_held f left right _ _
    (grown_holds d f left.0 _ b held_left)
    (subst (λ (t : Plain). Holds f right.0 (canon t)) (graft_later c d e.kind.0 (plus_of e.p.entries s) e.child.0 y.right.0 a child ky.right) root)

-- coefficients
pub left_value : (c : Content) (x y : RightKey) (u v : ℕ) (m n : List ℕ) → root_of (tree_at c x.right.0) ≡ m → root_of (tree_at c y.right.0) ≡ n →
    saturating_times (saturating_times u (saturated (choose (plus_of m n) m))) v ≡ saturated (u * (left_factor (recentred_in c x) (recentred_in c y) * v))
left_value c x y u v m n a b =
    product_value u (choose (plus_of m n) m) v
    ∙ ap (λ (r : List ℕ). saturated (u * (choose (plus_of r n) r * v))) (sym a)
    ∙ ap (λ (r : List ℕ). saturated (u * (choose (plus_of (root_of (tree_at c x.right.0)) r) (root_of (tree_at c x.right.0)) * v))) (sym b)

pub once_value : (n v : ℕ) → saturating_times (saturated n) v ≡ saturated (n * v)
once_value n v = saturated_mul_left n v

-- lines behind others
two_above : (f d : ℕ) → 0 < f → 0 < d → 0 < f * d
two_above zero d i j = absurd (omega (arith, i))
two_above (suc f) zero i j = absurd (omega (arith, j))
two_above (suc f) (suc d) i j = omega arith

pub right_value_above : (f d v : ℕ) → 0 < f → 0 < d → v ≡ saturated (f * d) → (0 < v) × (v ≤ overflow)
right_value_above f d v i j e = let p = two_above f d i j in (omega (arith, p, e), omega (arith, e))

pub right_pushed_lines : (c d : Content) (ls new : List (RightKey × ℕ)) (l : RightKey × ℕ) → IsGrown c d → AreRightLines c ls → IsRightLine d l → new ≡ ls ++ l ∷ [] →
    AreRightLines d new
right_pushed_lines c d ls new l a known one e = rw e (all_append (IsRightLine d) ls (l ∷ []) (right_lines_grown c d ls a known) (one, tt))

one_term : {K : Type 0} (k j : K) (n m : ℕ) → k ≡ j → n ≡ m → pair_of k n ∷ [] ≡ pair_of j m ∷ []
one_term {K} k j n m h e = ap (λ (x : K). pair_of x n ∷ []) h ∙ ap (λ (x : ℕ). pair_of j x ∷ []) e

pub right_pushed : (c d : Content) (ls new : List (RightKey × ℕ)) (k : RightKey) (v : ℕ) (x : Recentred) (n : ℕ) → IsGrown c d → AreRightLines c ls →
    recentred_in d k ≡ x → v ≡ saturated n → new ≡ ls ++ (k, v) ∷ [] → recentred_terms_in d new ≡ recentred_terms_in c ls ++ saturated_terms ((x, n) ∷ [])
right_pushed c d ls new k v x n a known means value e =
    ap (recentred_terms_in d) e ∙ rekeyed-append (recentred_in d) ls ((k, v) ∷ [])
    ∙ ap (λ (ts : List (Recentred × ℕ)). ts ++ (recentred_in d k, v) ∷ []) (right_terms_grown c d ls a known)
    ∙ ap (λ (ts : List (Recentred × ℕ)). recentred_terms_in c ls ++ ts) (one_term (recentred_in d k) x v (saturated n) means value)
