-- An insertion at the place.
use Rattle.std.proofs.Common.{◌≡◌, ℕ, zero, suc, ◌+◌, ◌≤◌, ◌<◌, Bool, true, false, List, [], ◌∷◌, map, take, drop, length, get_or, refl, sym, ap, ◌∙◌, arith}
use Rattle.std.specs.List.{prefix_len, insert}
use Rattle.std.specs.Ordering.{is_gt}
use Rattle.std.proofs.lemmas.Grind.{common_steps}
use Rattle.std.proofs.lemmas.List.{map-append, take-map, drop-map, length-map}
use Rattle.std.proofs.lemmas.List.Sums.{prefix_len-le-length}
use Rattle.plain_trees.specs.Plain.{Plain, graft, edge_count_of, decoration_sum_of, IsSmall}
use Rattle.plain_trees.specs.View.{Labelled, plain, grafted, labelled, edge_order_of}
use Rattle.plain_trees.specs.declared.tree.Edge.{Edge}
use Rattle.plain_trees.specs.declared.tree.Tree.{Tree, out-Tree}
use Rattle.plain_trees.proofs.Views.{plain_out}
use Rattle.plain_trees.specs.Canon.{Planted, with_edge, planted_of, canon, canon_above, IsSame, exchanged, on_both, unchanged, chained}
use Rattle.plain_trees.proofs.CanonLaws.{canon_same}

abbrev passed : Labelled → Labelled → Bool
passed e f = is_gt (edge_order_of e f)

with_edge-insert-at : (n : List ℕ) (e f : Labelled) (es : List Labelled) (a : Bool) →
    passed e f ≡ a →
    with_edge (planted_of e) (grafted n es) ≡ grafted n (insert es (prefix_len (passed e) es) e) →
    with_edge (planted_of e) (grafted n (f ∷ es)) ≡ grafted n (insert (f ∷ es) (prefix_len (passed e) (f ∷ es)) e)
with_edge-insert-at n e f es true h ih = let one : 1 + prefix_len (passed e) es ≡ suc (prefix_len (passed e) es) = omega arith in rw h (rw one (ap (graft f.kind.0 f.p.entries f.child) ih))
with_edge-insert-at n e f es false h ih = rw h refl

pub with_edge-insert : (n : List ℕ) (e : Labelled) (es : List Labelled) →
    with_edge (planted_of e) (grafted n es) ≡ grafted n (insert es (prefix_len (λ f. is_gt (edge_order_of e f)) es) e)
with_edge-insert n e [] = refl
with_edge-insert n e (f ∷ es) = with_edge-insert-at n e f es (passed e f) refl (with_edge-insert n e es)

pub place-le : (p : Labelled → Bool) (xs : List Edge) → prefix_len p (map labelled xs) ≤ length xs
place-le p xs = omega (arith, length-map xs labelled, prefix_len-le-length p (map labelled xs))

pub map-insert : (xs : List Edge) (i : ℕ) (e : Edge) → map labelled (insert xs i e) ≡ insert (map labelled xs) i (labelled e)
map-insert xs i e = map-append labelled (take i xs) (e ∷ drop i xs) ∙ rw (take-map labelled i xs, drop-map labelled i xs) refl

pub inserted : (n : List ℕ) (xs : List Edge) (e : Edge) (i : ℕ) → i ≡ prefix_len (passed (labelled e)) (map labelled xs) →
    grafted n (map labelled (insert xs i e)) ≡ with_edge (planted_of (labelled e)) (grafted n (map labelled xs))
inserted n xs e i h = rw (map-insert xs i e, h) (sym (with_edge-insert n (labelled e) (map labelled xs)))

same_count : {s t : Plain} → IsSame s t → edge_count_of s ≡ edge_count_of t
same_count (exchanged k p c l q d t) = omega arith
same_count (on_both {c = c} {d = d} {s = s} {t = t} k p h j) = omega (arith, same_count h, same_count j)
same_count (unchanged t) = refl
same_count (chained h j) = same_count h ∙ same_count j

same_sum : {s t : Plain} → IsSame s t → decoration_sum_of s ≡ decoration_sum_of t
same_sum (exchanged k p c l q d t) = omega arith
same_sum (on_both {c = c} {d = d} {s = s} {t = t} k p h j) = omega (arith, same_sum h, same_sum j)
same_sum (unchanged t) = refl
same_sum (chained h j) = same_sum h ∙ same_sum j

pub canon_sum : (t : Plain) → decoration_sum_of (canon t) ≡ decoration_sum_of t
canon_sum t = sym (same_sum (canon_same t))

pub canon_count : (t : Plain) → edge_count_of (canon t) ≡ edge_count_of t
canon_count t = sym (same_count (canon_same t))

pub count-drop : (n m : List ℕ) (i : ℕ) (es : List Edge) → edge_count_of (grafted n (map labelled (drop i es))) ≤ edge_count_of (grafted m (map labelled es))
count-drop n m zero [] = omega arith
count-drop n m (suc i) [] = omega arith
count-drop n m zero (e ∷ es) = omega (arith, count-drop n m zero es)
count-drop n m (suc i) (e ∷ es) = omega (arith, count-drop n m i es)

-- the edges from the one before i on
pub canon_step : (n : List ℕ) (items : List Edge) (i j : ℕ) (x : Edge) (edges more : List Edge) (e : Edge) →
    j + 1 ≡ i → i ≤ length items → x ≡ get_or items j x →
    grafted n (map labelled edges) ≡ canon (grafted n (map labelled (drop i items))) →
    grafted n (map labelled more) ≡ with_edge (planted_of (labelled e)) (grafted n (map labelled edges)) →
    planted_of (labelled e) ≡ canon_above (planted_of (labelled x)) →
    grafted n (map labelled more) ≡ canon (grafted n (map labelled (drop j items)))
canon_step n items i j x edges more e hj hi hx inv ins is =
    let d : drop j items ≡ x ∷ drop i items = grind (arith, common_steps) in
    rw (d, ins, is, inv) refl

pub count-at : (n : List ℕ) (items : List Edge) (j : ℕ) (x : Edge) → j < length items → x ≡ get_or items j x →
    edge_count_of (labelled x).child < edge_count_of (grafted n (map labelled items))
count-at n items j x hj hx =
    let d : drop j items ≡ x ∷ drop (j + 1) items = grind (arith, common_steps) in
    let below = count-drop n n j items in
    let at = rw d at below in
    omega (arith, at)

-- the same of a tree and its edges
pub count-in : (t : Tree) (items : List Edge) (j : ℕ) (x : Edge) → items ≡ (out-Tree t).edges → j < length items → x ≡ get_or items j x →
    edge_count_of (labelled x).child < edge_count_of (plain t)
count-in t items j x h hj hx = rw (plain_out t, ← h) (count-at (out-Tree t).n.entries items j x hj hx)

pub count-done : (t : Tree) (items : List Edge) (i : ℕ) (edges : List Edge) → items ≡ (out-Tree t).edges →
    grafted [] (map labelled edges) ≡ canon (grafted [] (map labelled (drop i items))) → edge_count_of (grafted [] (map labelled edges)) ≤ edge_count_of (plain t)
count-done t items i edges h inv =
    rw (inv, canon_count (grafted [] (map labelled (drop i items))), plain_out t, ← h) (count-drop [] (out-Tree t).n.entries i items)

pub count-above : (e x : Edge) → planted_of (labelled e) ≡ canon_above (planted_of (labelled x)) →
    edge_count_of (labelled e).child ≡ edge_count_of (labelled x).child
count-above e x h = ap (λ (y : Planted). edge_count_of y.child) h ∙ canon_count (labelled x).child

pub whole : (t : Tree) (items : List Edge) (i : ℕ) (edges : List Edge) → items ≡ (out-Tree t).edges → i ≡ 0 →
    grafted (out-Tree t).n.entries (map labelled edges) ≡ canon (grafted (out-Tree t).n.entries (map labelled (drop i items))) →
    grafted (out-Tree t).n.entries (map labelled edges) ≡ canon (plain t)
whole t items i edges h none inv = rw (none, h, ← plain_out t) at inv

pub canon_small : (t : Plain) → IsSmall t → IsSmall (canon t)
canon_small t h =
    let e = h.edges in
    let d = h.decorations in
    record { edges = omega (arith, e, canon_count t); decorations = omega (arith, d, canon_sum t) }
