-- Canonical forms of what the steps make.
use Rattle.std.proofs.Common.{◌≡◌, ℕ, Bool, true, false, cond, not, ◌&&◌, List, [], ◌∷◌, ◌++◌, if◌then◌else◌, refl, sym, ap, ◌∙◌}
use Rattle.std.specs.Ordering.{is_gt}
use Rattle.degree_numbers.specs.declared.types.Types.{Types}
use Rattle.plain_trees.specs.Plain.{Plain, bare, graft, root_of, tree_order}
use Rattle.plain_trees.specs.Canon.{Planted, planted_order, with_edge, canon, IsSame, exchanged, on_both, unchanged, chained}
use Rattle.plain_trees.specs.Degree.{degree_of, planted}
use Rattle.plain_trees.specs.Coproducts.{with_tree, canon_forest, is_below_zero, is_extracted}
use Rattle.plain_trees.proofs.CanonLaws.{canon_canonical, canon_fixed, canon_same, same_canon}
use Rattle.plain_trees.proofs.DegreeLaws.{canon_degree, same_planted}
use Rattle.plain_trees.proofs.OrderLaws.{tree_order_total, tree_exact}
use Rattle.ordered_lists.proofs.Above.{asymmetric, above, neither}
use Rattle.tree_cuttings.specs.Roots.{raised, joined, has_edge}

pub canon_canon : (t : Plain) → canon (canon t) ≡ canon t
canon_canon t = canon_fixed (canon t) (canon_canonical t)

abbrev edge_over : ℕ → List ℕ → Plain → Planted
edge_over k p c = record { kind = k; p = p; child = c }

-- a tree with one more edge
pub canon-graft : (k : ℕ) (p : List ℕ) (c t : Plain) → canon (graft k p (canon c) (canon t)) ≡ canon (graft k p c t)
canon-graft k p c t = ap (λ d. with_edge (edge_over k p d) (canon (canon t))) (canon_canon c) ∙ ap (with_edge (edge_over k p (canon c))) (canon_canon t)

pub canon-graft_rest : (k : ℕ) (p : List ℕ) (c t : Plain) → canon (graft k p c (canon t)) ≡ canon (graft k p c t)
canon-graft_rest k p c t = ap (with_edge (edge_over k p (canon c))) (canon_canon t)

-- a raised root
with_edge-raised : (s : List ℕ) (e : Planted) (t : Plain) → raised s (with_edge e t) ≡ with_edge e (raised s t)
with_edge-raised s e (bare n) = refl
with_edge-raised s e (graft k p c t) =
    elim (is_gt (planted_order e (edge_over k p c))) as (λ b. raised s (if b then graft k p c (with_edge e t) else graft e.kind e.p e.child (graft k p c t))
    ≡ (if b then graft k p c (with_edge e (raised s t)) else graft e.kind e.p e.child (graft k p c (raised s t)))) [
      | true ↦ ap (graft k p c) (with_edge-raised s e t)
      | false ↦ refl
    ]

pub canon-raised : (s : List ℕ) (t : Plain) → canon (raised s t) ≡ raised s (canon t)
canon-raised s (bare n) = refl
canon-raised s (graft k p c t) = ap (with_edge (edge_over k p (canon c))) (canon-raised s t) ∙ sym (with_edge-raised s (edge_over k p (canon c)) (canon t))

-- trees joined at their roots
same-raised : (s : List ℕ) {t u : Plain} → IsSame t u → IsSame (raised s t) (raised s u)
same-raised s (exchanged k p c l q d t) = exchanged k p c l q d (raised s t)
same-raised s (on_both k p h j) = on_both k p h (same-raised s j)
same-raised s (unchanged t) = unchanged (raised s t)
same-raised s (chained h j) = chained (same-raised s h) (same-raised s j)

same-joined_right : (s : Plain) {t u : Plain} → IsSame t u → IsSame (joined s t) (joined s u)
same-joined_right (bare n) h = same-raised n h
same-joined_right (graft k p c s) h = on_both k p (unchanged c) (same-joined_right s h)

same-joined_left : {s r : Plain} (t : Plain) → IsSame s r → IsSame (joined s t) (joined r t)
same-joined_left t (exchanged k p c l q d u) = exchanged k p c l q d (joined u t)
same-joined_left t (on_both k p h j) = on_both k p h (same-joined_left t j)
same-joined_left t (unchanged u) = unchanged (joined u t)
same-joined_left t (chained h j) = chained (same-joined_left t h) (same-joined_left t j)

pub canon-joined : (s t : Plain) → canon (joined (canon s) (canon t)) ≡ canon (joined s t)
canon-joined s t = sym (same_canon (chained (same-joined_left t (canon_same s)) (same-joined_right (canon s) (canon_same t))))

-- what canonical form does not change
root-with_edge : (e : Planted) (t : Plain) → root_of (with_edge e t) ≡ root_of t
root-with_edge e (bare n) = refl
root-with_edge e (graft k p c t) =
    elim (is_gt (planted_order e (edge_over k p c))) as (λ b. root_of (if b then graft k p c (with_edge e t) else graft e.kind e.p e.child (graft k p c t))
    ≡ root_of t) [
      | true ↦ root-with_edge e t
      | false ↦ refl
    ]

pub root-canon : (t : Plain) → root_of (canon t) ≡ root_of t
root-canon (bare n) = refl
root-canon (graft k p c t) = root-with_edge (edge_over k p (canon c)) (canon t) ∙ root-canon t

has_edge-with_edge : (e : Planted) (t : Plain) → has_edge (with_edge e t) ≡ true
has_edge-with_edge e (bare n) = refl
has_edge-with_edge e (graft k p c t) =
    elim (is_gt (planted_order e (edge_over k p c))) as (λ b. has_edge (if b then graft k p c (with_edge e t) else graft e.kind e.p e.child (graft k p c t))
    ≡ true) [
      | true ↦ refl
      | false ↦ refl
    ]

pub has_edge-canon : (t : Plain) → has_edge (canon t) ≡ has_edge t
has_edge-canon (bare n) = refl
has_edge-canon (graft k p c t) = has_edge-with_edge (edge_over k p (canon c)) (canon t)

pub is_extracted-canon : (ty : Types) (t : Plain) → is_extracted ty (canon t) ≡ is_extracted ty t
is_extracted-canon ty t =
    ap (λ b. not b && is_below_zero (degree_of ty (canon t))) (sym (same_planted ty (canon_same t)))
    ∙ ap (λ d. not (planted ty t) && is_below_zero d) (canon_degree ty t)

-- forests
abbrev gt : Plain → Plain → Bool
gt s t = is_gt (tree_order s t)

stops : (s t : Plain) (ts : List Plain) → gt s t ≡ false → with_tree s (t ∷ ts) ≡ s ∷ t ∷ ts
stops s t ts h = rw h refl

passes : (s t : Plain) (ts : List Plain) → gt s t ≡ true → with_tree s (t ∷ ts) ≡ t ∷ with_tree s ts
passes s t ts h = rw h refl

-- two trees in front of what neither passes
front : (s t : Plain) (ts : List Plain) (a b : Bool) → gt s t ≡ a → gt t s ≡ b → with_tree s ts ≡ s ∷ ts → with_tree t ts ≡ t ∷ ts →
    with_tree s (t ∷ ts) ≡ with_tree t (s ∷ ts)
front s t ts true b h k hs ht = passes s t ts h ∙ ap (λ us. t ∷ us) hs ∙ sym (stops t s ts (asymmetric tree_order tree_order_total s t h))
front s t ts false true h k hs ht = stops s t ts h ∙ sym (ap (λ us. s ∷ us) ht) ∙ sym (passes t s ts k)
front s t ts false false h k hs ht =
    let same : s ≡ t = tree_exact s t (neither tree_order tree_order_total s t h k) in
    ap (λ (x : Plain). with_tree x (t ∷ ts)) same ∙ ap (λ (x : Plain). with_tree t (x ∷ ts)) (sym same)

-- the first passes u, and the second does not
middle : (s t u : Plain) (ts : List Plain) → gt s u ≡ true → gt t u ≡ false → with_tree s (with_tree t (u ∷ ts)) ≡ with_tree t (with_tree s (u ∷ ts))
middle s t u ts h k =
    ap (with_tree s) (stops t u ts k) ∙ passes s t (u ∷ ts) (above tree_order tree_order_total s t u h k) ∙ ap (λ us. t ∷ us) (passes s u ts h)
    ∙ sym (ap (with_tree t) (passes s u ts h) ∙ stops t u (with_tree s ts) k)

commute-at : (s t u : Plain) (ts : List Plain) (a b : Bool) → gt s u ≡ a → gt t u ≡ b → with_tree s (with_tree t ts) ≡ with_tree t (with_tree s ts) →
    with_tree s (with_tree t (u ∷ ts)) ≡ with_tree t (with_tree s (u ∷ ts))
commute-at s t u ts true true h k ih = rw (passes t u ts k, passes s u ts h, passes s u (with_tree t ts) h, passes t u (with_tree s ts) k)
    (ap (λ us. u ∷ us) ih)
commute-at s t u ts true false h k ih = middle s t u ts h k
commute-at s t u ts false true h k ih = sym (middle t s u ts k h)
commute-at s t u ts false false h k ih =
    ap (with_tree s) (stops t u ts k) ∙ front s t (u ∷ ts) (gt s t) (gt t s) refl refl (stops s u ts h) (stops t u ts k)
    ∙ sym (ap (with_tree t) (stops s u ts h))

with_tree-commutes : (s t : Plain) (ts : List Plain) → with_tree s (with_tree t ts) ≡ with_tree t (with_tree s ts)
with_tree-commutes s t [] = front s t [] (gt s t) (gt t s) refl refl refl refl
with_tree-commutes s t (u ∷ ts) = commute-at s t u ts (gt s u) (gt t u) refl refl (with_tree-commutes s t ts)

-- the canonical forms of the trees fs, put into gs
abbrev put : List Plain → List Plain → List Plain
put [] gs = gs
put (f ∷ fs) gs = with_tree (canon f) (put fs gs)

put-with : (t : Plain) (hs gs : List Plain) → put (with_tree t hs) gs ≡ with_tree (canon t) (put hs gs)
put-with t [] gs = refl
put-with t (h ∷ hs) gs =
    elim (gt t h) as (λ b. put (cond b (h ∷ with_tree t hs) (t ∷ h ∷ hs)) gs ≡ with_tree (canon t) (with_tree (canon h) (put hs gs))) [
      | true ↦ ap (with_tree (canon h)) (put-with t hs gs) ∙ with_tree-commutes (canon h) (canon t) (put hs gs)
      | false ↦ refl
    ]

put-canon : (fs gs : List Plain) → put (canon_forest fs) gs ≡ put fs gs
put-canon [] gs = refl
put-canon (f ∷ fs) gs =
    put-with (canon f) (canon_forest fs) gs ∙ ap (λ t. with_tree t (put (canon_forest fs) gs)) (canon_canon f) ∙ ap (with_tree (canon f)) (put-canon fs gs)

put-is : (fs gs : List Plain) → canon_forest (fs ++ gs) ≡ put fs (canon_forest gs)
put-is [] gs = refl
put-is (f ∷ fs) gs = ap (with_tree (canon f)) (put-is fs gs)

put-nothing : (fs : List Plain) → canon_forest fs ≡ put fs []
put-nothing [] = refl
put-nothing (f ∷ fs) = ap (with_tree (canon f)) (put-nothing fs)

pub canon_forest-canon : (fs : List Plain) → canon_forest (canon_forest fs) ≡ canon_forest fs
canon_forest-canon fs = put-nothing (canon_forest fs) ∙ put-canon fs [] ∙ sym (put-nothing fs)

pub canon_forest-append : (fs gs : List Plain) → canon_forest (canon_forest fs ++ canon_forest gs) ≡ canon_forest (fs ++ gs)
canon_forest-append fs gs = put-is (canon_forest fs) (canon_forest gs) ∙ put-canon fs (canon_forest (canon_forest gs)) ∙ ap (put fs) (canon_forest-canon gs)
    ∙ sym (put-is fs gs)
