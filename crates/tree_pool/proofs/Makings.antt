-- Trees made of trees.
use Rattle.std.proofs.Common.{◌≡◌, ℕ, zero, suc, ◌<◌, ◌≤◌, ◌+◌, ◌^◌, List, [], ◌∷◌, ◌++◌, map, take, drop, length, get_or, sum, slice_index_or, refl, sym, ap, ◌∙◌, arith, subst}
use Rattle.std.specs.List.{AllByRecursion}
use Rattle.std.proofs.lemmas.Grind.{common_steps}
use Rattle.std.proofs.lemmas.List.{map-append}
use Rattle.std.proofs.lemmas.Option.{slice_get-get_or, slice_get_within}
use Rattle.std.proofs.lemmas.List.Sums.{sum_by_from}
use Rattle.degree_numbers.specs.declared.multi.Multi.{Multi}
use Rattle.degree_numbers.specs.declared.types.TypeId.{TypeId}
use Rattle.degree_numbers.specs.declared.types.Types.{Types}
use Rattle.degree_numbers.specs.Multi.{plus_of}
use Rattle.plain_trees.specs.Plain.{Plain, bare, graft, edge_count_of, decoration_sum_of, IsSmall}
use Rattle.plain_trees.specs.View.{Labelled, grafted, plain, labelled, labelled_at, plain_at}
use Rattle.plain_trees.specs.Canon.{canon, IsSame, on_both, unchanged}
use Rattle.plain_trees.specs.Degree.{HasTypes, IsEdge, IsMultiIndex}
use Rattle.plain_trees.specs.declared.tree.Tree.{Tree, out-Tree}
use Rattle.plain_trees.specs.declared.tree.Edge.{Edge, out-Edge, fold_out-Edge}
use Rattle.plain_trees.proofs.Views.{plain_out}
use Rattle.plain_trees.proofs.CanonLaws.{canon_same, canon_fixed, same_canon}
use Rattle.plain_trees.proofs.DegreeLaws.{same_types}
use Rattle.plain_trees.proofs.Inserts.{canon_count, canon_sum}
use Rattle.tree_pool.specs.Content.{Content, Holds, tree_at, edge_over, labelled_by, canon_over, tree_over, AreBelow, IsPooled, IsGrown}
use Rattle.plain_trees.specs.Joined.{raised, joined, planted_by}
use Rattle.tree_pool.specs.declared.node.EdgeTo.{EdgeTo}
use Rattle.tree_pool.proofs.Growth.{grown_edges, grown_length}
use Rattle.tree_pool.proofs.Trees.{AreBelow-le}
use Rattle.tree_pool.proofs.Sorts.{below_append}
use Rattle.tree_pool.proofs.Walks.{at_holds}

-- the product of two trees by their edges
raised-grafted : (n m : List ℕ) (us : List Labelled) → raised n (grafted m us) ≡ grafted (plus_of n m) us
raised-grafted n m [] = refl
raised-grafted n m (u ∷ us) = ap (graft u.kind.0 u.p.entries u.child) (raised-grafted n m us)

joined-grafted : (n m : List ℕ) (us vs : List Labelled) → joined (grafted n us) (grafted m vs) ≡ grafted (plus_of n m) (us ++ vs)
joined-grafted n m [] vs = raised-grafted n m vs
joined-grafted n m (u ∷ us) vs = ap (graft u.kind.0 u.p.entries u.child) (joined-grafted n m us vs)

pub joined_at : (c : Content) (i j : ℕ) (n m : List ℕ) (es fs : List EdgeTo) → Holds c i (tree_over c.trees n es) → Holds c j (tree_over c.trees m fs) →
    joined (tree_at c i) (tree_at c j) ≡ tree_over c.trees (plus_of n m) (es ++ fs)
joined_at c i j n m es fs h k =
    rw (at_holds c i (tree_over c.trees n es) h, at_holds c j (tree_over c.trees m fs) k, map-append (edge_over c.trees) es fs) (joined-grafted n m (map (edge_over c.trees) es) (map (edge_over c.trees) fs))

-- a sum of multiindices is one
zeros_plus : (dims : ℕ) (n m : List ℕ) → AllByRecursion (λ x. x ≡ 0) (drop dims n) →
    AllByRecursion (λ x. x ≡ 0) (drop dims m) →
    AllByRecursion (λ x. x ≡ 0) (drop dims (plus_of n m))
zeros_plus dims [] m h k = k
zeros_plus dims (x ∷ n) [] h k = h
zeros_plus zero (x ∷ n) (y ∷ m) h k = (omega (arith, h.0, k.0), zeros_plus zero n m h.1 k.1)
zeros_plus (suc dims) (x ∷ n) (y ∷ m) h k = zeros_plus dims n m h k

length-plus_of : (n m : List ℕ) → length n ≡ length m → length (plus_of n m) ≡ length n
length-plus_of [] [] h = refl
length-plus_of [] (y ∷ m) h = absurd (omega (arith, h))
length-plus_of (x ∷ n) [] h = refl
length-plus_of (x ∷ n) (y ∷ m) h = omega (arith, length-plus_of n m (omega (arith, h)))

pub multi_plus : (dims : ℕ) (n m : List ℕ) → IsMultiIndex dims n → IsMultiIndex dims m → IsMultiIndex dims (plus_of n m)
multi_plus dims n m h k = record {
  entries = length-plus_of n m (h.entries ∙ sym k.entries) ∙ h.entries;
  rest = zeros_plus dims n m h.rest k.rest;
}

types_root : (ty : Types) (n : List ℕ) (us : List Labelled) → HasTypes ty (grafted n us) → IsMultiIndex ty.dims n
types_root ty n [] h = h
types_root ty n (u ∷ us) h = types_root ty n us h.2

types_append : (ty : Types) (n m q : List ℕ) (us vs : List Labelled) → HasTypes ty (grafted n us) →
    HasTypes ty (grafted m vs) → IsMultiIndex ty.dims q → HasTypes ty (grafted q (us ++ vs))
types_append ty n m q [] [] h k i = i
types_append ty n m q [] (v ∷ vs) h k i = (k.0, k.1, types_append ty n m q [] vs h k.2 i)
types_append ty n m q (u ∷ us) vs h k i = (h.0, h.1, types_append ty n m q us vs h.2 k i)

pub joined_types : (c : Content) (n m : List ℕ) (es fs : List EdgeTo) → HasTypes c.types (tree_over c.trees n es) → HasTypes c.types (tree_over c.trees m fs) →
    HasTypes c.types (tree_over c.trees (plus_of n m) (es ++ fs))
joined_types c n m es fs h k =
    let us = map (edge_over c.trees) es in
    let vs = map (edge_over c.trees) fs in
    rw (map-append (edge_over c.trees) es fs) (types_append c.types n m (plus_of n m) us vs h k (multi_plus c.types.dims n m (types_root c.types n us h) (types_root c.types m vs k)))

-- an entry of the sum of two multiindices is at most the sum of all
sum-cons : (x : ℕ) (xs : List ℕ) → sum (x ∷ xs) ≡ x + sum xs
sum-cons x xs = let all : sum (x ∷ xs) ≡ 0 + x + sum xs = sum_by_from (λ y. y) (0 + x) xs in omega (arith, all)

entry_most : (xs : List ℕ) (k : ℕ) → get_or xs k 0 ≤ sum xs
entry_most [] k = omega arith
entry_most (x ∷ xs) zero = omega (arith, sum-cons x xs)
entry_most (x ∷ xs) (suc k) = omega (arith, sum-cons x xs, entry_most xs k)

entry_plus : (n m : List ℕ) (k : ℕ) → get_or (plus_of n m) k 0 ≡ get_or n k 0 + get_or m k 0
entry_plus [] m k = omega arith
entry_plus (x ∷ n) [] k = omega arith
entry_plus (x ∷ n) (y ∷ m) zero = refl
entry_plus (x ∷ n) (y ∷ m) (suc k) = entry_plus n m k

sum_root : (n : List ℕ) (us : List Labelled) → sum n ≤ decoration_sum_of (grafted n us)
sum_root n [] = omega arith
sum_root n (u ∷ us) = omega (arith, sum_root n us)

pub entries_fit : (c : Content) (n m : List ℕ) (es : List EdgeTo) →
    IsSmall (tree_over c.trees (plus_of n m) es) → (k : ℕ) → get_or n k 0 + get_or m k 0 < 2 ^ 31
entries_fit c n m es small k =
    omega (arith, entry_plus n m k, entry_most (plus_of n m) k, sum_root (plus_of n m) (map (edge_over c.trees) es), small.decorations)

-- one edge over a tree
zeros : (dims : ℕ) → AllByRecursion {X = ℕ} (λ x. x ≡ 0) (drop dims (0 ∷ 0 ∷ 0 ∷ 0 ∷ 0 ∷ []))
zeros zero = (refl, (refl, (refl, (refl, (refl, tt)))))
zeros (suc zero) = (refl, (refl, (refl, (refl, tt))))
zeros (suc (suc zero)) = (refl, (refl, (refl, tt)))
zeros (suc (suc (suc zero))) = (refl, (refl, tt))
zeros (suc (suc (suc (suc zero)))) = (refl, tt)
zeros (suc (suc (suc (suc (suc n))))) = let none : drop n [] ≡ [] = grind (arith, common_steps) in subst (AllByRecursion {X = ℕ} (λ x. x ≡ 0)) (sym none) tt

pub planted_types : (c : Content) (k : ℕ) (p : List ℕ) (i : ℕ) → IsPooled c → i < length c.trees →
    IsEdge c.types k p (tree_at c i) → HasTypes c.types (planted_by k p (tree_at c i))
planted_types c k p i pool h edge =
    (edge, (pool.kept i (tree_at c i) (slice_get-get_or c.trees i (bare []) h)).known, record { entries = refl; rest = zeros c.types.dims })

pub planted_canon : (c : Content) (k : ℕ) (p : List ℕ) (i : ℕ) → IsPooled c → i < length c.trees →
    canon (planted_by k p (tree_at c i)) ≡ planted_by k p (tree_at c i)
planted_canon c k p i pool h = canon_fixed (planted_by k p (tree_at c i)) ((pool.kept i (tree_at c i) (slice_get-get_or c.trees i (bare []) h)).canonical, tt, tt)

-- a tree whose subtrees are in canonical form
canon_over-same : (n : List ℕ) (us : List Labelled) → IsSame (grafted n us) (grafted n (map canon_over us))
canon_over-same n [] = unchanged (bare n)
canon_over-same n (u ∷ us) = on_both u.kind.0 u.p.entries (canon_same u.child) (canon_over-same n us)

pub interned_same : (c : Content) (t : Tree) (es : List EdgeTo) →
    map (edge_over c.trees) es ≡ map canon_over (map labelled (out-Tree t).edges) →
    IsSame (plain t) (tree_over c.trees (out-Tree t).n.entries es)
interned_same c t es h = rw (plain_out t, h) (canon_over-same (out-Tree t).n.entries (map labelled (out-Tree t).edges))

pub interned_canon : (c : Content) (t : Tree) (es : List EdgeTo) →
    map (edge_over c.trees) es ≡ map canon_over (map labelled (out-Tree t).edges) →
    canon (tree_over c.trees (out-Tree t).n.entries es) ≡ canon (plain t)
interned_canon c t es h = sym (same_canon (interned_same c t es h))

pub interned_small : (c : Content) (t : Tree) (es : List EdgeTo) →
    map (edge_over c.trees) es ≡ map canon_over (map labelled (out-Tree t).edges) →
    IsSmall (plain t) → IsSmall (tree_over c.trees (out-Tree t).n.entries es)
interned_small c t es h small =
    let same = interned_canon c t es h in
    let whole = tree_over c.trees (out-Tree t).n.entries es in
    let count : edge_count_of whole ≡ edge_count_of (plain t) = sym (canon_count whole) ∙ ap edge_count_of same ∙ canon_count (plain t) in
    let total : decoration_sum_of whole ≡ decoration_sum_of (plain t) = sym (canon_sum whole) ∙ ap decoration_sum_of same ∙ canon_sum (plain t) in
    record { edges = rw count small.edges; decorations = rw total small.decorations }

pub interned_types : (c : Content) (ty : Types) (t : Tree) (es : List EdgeTo) →
    map (edge_over c.trees) es ≡ map canon_over (map labelled (out-Tree t).edges) →
    HasTypes ty (plain t) → HasTypes ty (tree_over c.trees (out-Tree t).n.entries es)
interned_types c ty t es h known = same_types ty (interned_same c t es h) known

-- the loop over the edges of a tree
abbrev pub edge_made : TypeId → Multi → ℕ → EdgeTo
edge_made kind p id = record { kind = kind; p = p; child = record { 0 = id } }

labelled_out : (x : Edge) → labelled x ≡ labelled_by (out-Edge x).kind (out-Edge x).p (plain (out-Edge x).child)
labelled_out x = fold_out-Edge Labelled Plain labelled_at plain_at x

pub interned_step : (c d : Content) (items : List Edge) (i : ℕ) (x : Edge) (es : List EdgeTo) (id : ℕ) →
    IsGrown c d → AreBelow (length c.trees) es → i < length items → x ≡ get_or items i x →
    map (edge_over c.trees) es ≡ map canon_over (map labelled (take i items)) → Holds d id (canon (plain (out-Edge x).child)) →
    map (edge_over d.trees) (es ++ edge_made (out-Edge x).kind (out-Edge x).p id ∷ []) ≡ map canon_over (map labelled (take (i + 1) items))
interned_step c d items i x es id g b lt at inv there =
    let taken : take (i + 1) items ≡ take i items ++ x ∷ [] = grind (arith, common_steps) in
    let e = edge_made (out-Edge x).kind (out-Edge x).p id in
    let last : slice_index_or d.trees id (bare []) ≡ canon (plain (out-Edge x).child) = at_holds d id (canon (plain (out-Edge x).child)) there in
    let one : edge_over d.trees e ≡ canon_over (labelled x) = ap (labelled_by (out-Edge x).kind (out-Edge x).p) last ∙ sym (ap canon_over (labelled_out x)) in
    let old : map (edge_over d.trees) es ≡ map canon_over (map labelled (take i items)) = grown_edges c d es g b ∙ inv in
    map-append (edge_over d.trees) es (e ∷ [])
    ∙ ap (λ (ls : List Labelled). ls ++ edge_over d.trees e ∷ []) old
    ∙ ap (λ (l : Labelled). map canon_over (map labelled (take i items)) ++ l ∷ []) one
    ∙ sym (rw (taken, map-append labelled (take i items) (x ∷ [])) (map-append canon_over (map labelled (take i items)) (labelled x ∷ [])))

pub interned_below : (c d : Content) (es : List EdgeTo) (e : EdgeTo) (t : Plain) → IsGrown c d →
    AreBelow (length c.trees) es → Holds d e.child.0 t → AreBelow (length d.trees) (es ++ e ∷ [])
interned_below c d es e t g b there =
    below_append (length d.trees) es (e ∷ []) (AreBelow-le (length c.trees) (length d.trees) es (grown_length c d g) b) (slice_get_within d.trees e.child.0 t there, tt)

pub all_edges : (c : Content) (t : Tree) (items : List Edge) (i : ℕ) (es : List EdgeTo) →
    items ≡ (out-Tree t).edges → length items ≤ i →
    map (edge_over c.trees) es ≡ map canon_over (map labelled (take i items)) →
    map (edge_over c.trees) es ≡ map canon_over (map labelled (out-Tree t).edges)
all_edges c t items i es is h inv =
    let taken : take i items ≡ items = grind (arith, common_steps) in
    inv ∙ rw (taken, is) refl
