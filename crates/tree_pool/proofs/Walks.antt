-- Walks over the edges of a root.
use Rattle.std.proofs.Common.{◌≡◌, ℕ, zero, suc, ◌<◌, ◌≤◌, ◌+◌, ◌-◌, List, [], ◌∷◌, map, take, drop, length, get_or, slice_get, Some, refl, sym, ap, ◌∙◌, arith, min, sum, Ordering, Equal, nat_cmp, length-drop}
use Rattle.std.proofs.lemmas.Bool.Decides.{nat_tests}
use Rattle.std.proofs.lemmas.Cmp.{tied_itself}
use Rattle.std.proofs.lemmas.List.{length-map}
use Rattle.std.proofs.lemmas.Grind.{common_steps}
use Rattle.std.specs.Ordering.{ordering_then}
use Rattle.std.specs.Cmp.Lexicographic.{slice_cmp}
use Rattle.plain_trees.specs.Plain.{Plain, bare, graft, root_of, edge_count_of, decoration_sum_of, edges_order, tree_order}
use Rattle.plain_trees.specs.View.{Labelled, grafted, edge_order_of}
use Rattle.plain_trees.proofs.OrderLaws.{tree_order_total}
use Rattle.plain_trees.proofs.Orders.{edges_order-cons, then_stops}
use Rattle.plain_trees.proofs.Views.{root_of-grafted}
use Rattle.tree_pool.specs.Content.{Content, tree_at, Holds, edge_over, tree_over, AreBelow}
use Rattle.tree_pool.specs.declared.node.EdgeTo.{EdgeTo}

pub get_or-slice_get : {X : Type 0} (xs : List X) (i : ℕ) (d x : X) → slice_get xs i ≡ Some x → get_or xs i d ≡ x
get_or-slice_get [] i d x h = absurd cc
get_or-slice_get (y ∷ xs) zero d x h = cc
get_or-slice_get (y ∷ xs) (suc i) d x h = get_or-slice_get xs i d x h

pub at_holds : (c : Content) (i : ℕ) (t : Plain) → Holds c i t → tree_at c i ≡ t
at_holds c i t h = get_or-slice_get c.trees i (bare []) t h

-- what stands past the end of a list of edges
abbrev pub no_edge : EdgeTo
no_edge = record { kind = record { 0 = 0 }; p = record { entries = [] }; child = record { 0 = 0 } }

-- the edges that are left
pub edges_left : (es : List EdgeTo) (i : ℕ) (d : EdgeTo) → i < length es → drop i es ≡ get_or es i d ∷ drop (i + 1) es
edges_left es i d h = grind (arith, common_steps)

pub none_left : (es : List EdgeTo) (i : ℕ) → length es ≤ i → drop i es ≡ []
none_left es i h = grind (arith, common_steps)

pub below_left : (b : ℕ) (es : List EdgeTo) (i : ℕ) → AreBelow b es → AreBelow b (drop i es)
below_left b [] i h = grind (arith, common_steps)
below_left b (e ∷ es) zero h = h
below_left b (e ∷ es) (suc i) h = below_left b es i h.1

pub below_at : (b : ℕ) (es : List EdgeTo) (i : ℕ) (d : EdgeTo) → AreBelow b es → i < length es → (get_or es i d).child.0 < b
below_at b es i d h lt = (rw (edges_left es i d lt) at (below_left b es i h)).0

pub all_taken : (es : List EdgeTo) (i : ℕ) → length es ≤ i → take i es ≡ es
all_taken es i h = grind (arith, common_steps)

-- the tree at the edges that are left
pub tree_cut : (c : Content) (n : List ℕ) (es : List EdgeTo) (i : ℕ) (d : EdgeTo) → i < length es →
    tree_over c.trees n (drop i es) ≡ graft (get_or es i d).kind.0 (get_or es i d).p.entries (tree_at c (get_or es i d).child.0) (tree_over c.trees n (drop (i + 1) es))
tree_cut c n es i d lt = rw (edges_left es i d lt) refl

pub tree_end : (c : Content) (n : List ℕ) (es : List EdgeTo) (i : ℕ) → length es ≤ i → tree_over c.trees n (drop i es) ≡ bare n
tree_end c n es i h = rw (none_left es i h) refl

-- the number of edges does not hang on the root's decoration
pub count_root : (n m : List ℕ) (es : List Labelled) → edge_count_of (grafted n es) ≡ edge_count_of (grafted m es)
count_root n m [] = refl
count_root n m (e ∷ es) = omega (arith, count_root n m es)

-- the decoration sum, by the edges that are left
pub sum_cut : (c : Content) (n : List ℕ) (es : List EdgeTo) (i : ℕ) → i < length es →
    decoration_sum_of (tree_over c.trees n (drop i es)) ≡ sum (get_or es i no_edge).p.entries + decoration_sum_of (tree_at c (get_or es i no_edge).child.0) + decoration_sum_of (tree_over c.trees n (drop (i + 1) es))
sum_cut c n es i h = ap decoration_sum_of (tree_cut c n es i no_edge h)

pub sum_end : (c : Content) (n : List ℕ) (es : List EdgeTo) (i : ℕ) → length es ≤ i → decoration_sum_of (tree_over c.trees n (drop i es)) ≡ sum n
sum_end c n es i h = ap decoration_sum_of (tree_end c n es i h)

-- the number of edges, by the edges that are left
pub count_cut : (c : Content) (es : List EdgeTo) (i : ℕ) (d : EdgeTo) → i < length es →
    edge_count_of (tree_over c.trees [] (drop i es)) ≡ 1 + edge_count_of (tree_at c (get_or es i d).child.0) + edge_count_of (tree_over c.trees [] (drop (i + 1) es))
count_cut c es i d lt = rw (edges_left es i d lt) refl

pub count_most : (c : Content) (i : ℕ) (t : Plain) → Holds c i t → edge_count_of t ≤ 24 → edge_count_of (tree_at c i) ≤ 24
count_most c i t h small = rw (at_holds c i t h) small

pub root_at : (c : Content) (i : ℕ) (n : List ℕ) (es : List EdgeTo) → Holds c i (tree_over c.trees n es) → root_of (tree_at c i) ≡ n
root_at c i n es h = ap root_of (at_holds c i (tree_over c.trees n es) h) ∙ root_of-grafted n (map (edge_over c.trees) es)

-- the edges of two roots do not hang on the roots' decorations
pub edges_order-roots : (n m p q : List ℕ) (us vs : List Labelled) → edges_order (grafted n us) (grafted m vs) ≡ edges_order (grafted p us) (grafted q vs)
edges_order-roots n m p q [] [] = refl
edges_order-roots n m p q [] (v ∷ vs) = refl
edges_order-roots n m p q (u ∷ us) [] = refl
edges_order-roots n m p q (u ∷ us) (v ∷ vs) = edges_order-cons n m u v us vs ∙ ap (ordering_then (edge_order_of u v)) (edges_order-roots n m p q us vs) ∙ sym (edges_order-cons p q u v us vs)

pub edges_whole : (c : Content) (i j : ℕ) (n m : List ℕ) (es fs : List EdgeTo) → Holds c i (tree_over c.trees n es) → Holds c j (tree_over c.trees m fs) →
    edges_order (tree_over c.trees [] es) (tree_over c.trees [] fs) ≡ edges_order (tree_at c i) (tree_at c j)
edges_whole c i j n m es fs h k =
    edges_order-roots [] [] n m (map (edge_over c.trees) es) (map (edge_over c.trees) fs)
    ∙ rw (at_holds c i (tree_over c.trees n es) h, at_holds c j (tree_over c.trees m fs) k) refl

-- one number, one tree
pub same_tree : (c : Content) (i j : ℕ) → i ≡ j → Equal ≡ tree_order (tree_at c i) (tree_at c j)
same_tree c i j e = rw (← e) (sym (tied_itself tree_order_total (tree_at c i)))

pub order_roots : (s t : Plain) (o : Ordering) →
    Equal ≡ nat_cmp (edge_count_of s) (edge_count_of t) →
    o ≡ slice_cmp nat_cmp (root_of s) (root_of t) → (o ≡ Equal → ⊥) → o ≡ tree_order s t
order_roots s t o counts is stops = rw (← counts, ← is) (sym (then_stops o (edges_order s t) stops))

-- two edges decide
pub edges_stop : (c : Content) (es fs : List EdgeTo) (i : ℕ) (d : EdgeTo) (s t : Plain) (o : Ordering) → i < length es → i < length fs →
    edges_order (tree_over c.trees [] (drop i es)) (tree_over c.trees [] (drop i fs)) ≡ edges_order s t →
    o ≡ edge_order_of (edge_over c.trees (get_or es i d)) (edge_over c.trees (get_or fs i d)) → (o ≡ Equal → ⊥) → o ≡ edges_order s t
edges_stop c es fs i d s t o he hf same is stops =
    let e = edge_over c.trees (get_or es i d) in
    let f = edge_over c.trees (get_or fs i d) in
    let us = map (edge_over c.trees) (drop (i + 1) es) in
    let vs = map (edge_over c.trees) (drop (i + 1) fs) in
    let cut : edges_order (tree_over c.trees [] (drop i es)) (tree_over c.trees [] (drop i fs)) ≡ ordering_then (edge_order_of e f) (edges_order (grafted [] us) (grafted [] vs)) =
    rw (edges_left es i d he, edges_left fs i d hf) (edges_order-cons [] [] e f us vs) in
    sym (then_stops o (edges_order (grafted [] us) (grafted [] vs)) stops) ∙ rw is (sym cut) ∙ same

pub edges_goes_on : (c : Content) (es fs : List EdgeTo) (i : ℕ) (d : EdgeTo) → i < length es → i < length fs →
    Equal ≡ edge_order_of (edge_over c.trees (get_or es i d)) (edge_over c.trees (get_or fs i d)) →
    edges_order (tree_over c.trees [] (drop (i + 1) es)) (tree_over c.trees [] (drop (i + 1) fs)) ≡ edges_order (tree_over c.trees [] (drop i es)) (tree_over c.trees [] (drop i fs))
edges_goes_on c es fs i d he hf is =
    let e = edge_over c.trees (get_or es i d) in
    let f = edge_over c.trees (get_or fs i d) in
    let us = map (edge_over c.trees) (drop (i + 1) es) in
    let vs = map (edge_over c.trees) (drop (i + 1) fs) in
    rw (edges_left es i d he, edges_left fs i d hf) (ap (λ (o : Ordering). ordering_then o (edges_order (grafted [] us) (grafted [] vs))) is ∙ sym (edges_order-cons [] [] e f us vs))

nat_cmp-minus : (a b i : ℕ) → i ≤ a → i ≤ b → nat_cmp (a - i) (b - i) ≡ nat_cmp a b
nat_cmp-minus a b i ha hb = grind (arith, nat_tests)

-- where one list is empty, the lengths decide
edges_order-end : (n m : List ℕ) (us vs : List Labelled) → min (length us) (length vs) ≡ 0 →
    edges_order (grafted n us) (grafted m vs) ≡ nat_cmp (length us) (length vs)
edges_order-end n m [] [] h = refl
edges_order-end n m [] (v ∷ vs) h = grind (arith, nat_tests)
edges_order-end n m (u ∷ us) [] h = grind (arith, nat_tests)
edges_order-end n m (u ∷ us) (v ∷ vs) h = absurd (omega arith)

-- no two edges decide: the lengths do
pub edges_end : (c : Content) (es fs : List EdgeTo) (i : ℕ) → i ≤ min (length es) (length fs) → min (length es) (length fs) ≤ i →
    nat_cmp (length es) (length fs) ≡ edges_order (tree_over c.trees [] (drop i es)) (tree_over c.trees [] (drop i fs))
edges_end c es fs i h k =
    let us = map (edge_over c.trees) (drop i es) in
    let vs = map (edge_over c.trees) (drop i fs) in
    let lu : length us ≡ length es - i = length-map (drop i es) (edge_over c.trees) ∙ length-drop i es in
    let lv : length vs ≡ length fs - i = length-map (drop i fs) (edge_over c.trees) ∙ length-drop i fs in
    sym (edges_order-end [] [] us vs (omega arith) ∙ rw (lu, lv) (nat_cmp-minus (length es) (length fs) i (omega arith) (omega arith)))
