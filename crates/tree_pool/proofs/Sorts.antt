-- Putting edges in edge order.
use Rattle.std.proofs.Common.{◌≡◌, ℕ, zero, suc, ◌<◌, ◌≤◌, ◌+◌, ◌-◌, List, [], ◌∷◌, ◌++◌, map, take, drop, length, get_or, slice_index_or, refl, sym, ◌∙◌, arith, Bool}
use Rattle.std.specs.List.{prefix_len, insert}
use Rattle.std.specs.Ordering.{is_gt}
use Rattle.std.proofs.lemmas.List.{map-append, take-map, drop-map, length-map}
use Rattle.std.proofs.lemmas.List.Sums.{prefix_len-le-length}
use Rattle.std.proofs.lemmas.Option.{slice_get-get_or}
use Rattle.plain_trees.specs.Plain.{Plain, bare, IsSmall}
use Rattle.plain_trees.specs.View.{Labelled, edge_order_of}
use Rattle.plain_trees.specs.Canon.{with_edge, canon, planted_of}
use Rattle.plain_trees.proofs.CanonLaws.{canon_fixed, canon_canonical}
use Rattle.plain_trees.proofs.Inserts.{with_edge-insert, canon_count, canon_sum}
use Rattle.plain_trees.proofs.DegreeLaws.{canon_types}
use Rattle.plain_trees.specs.Degree.{HasTypes}
use Rattle.degree_numbers.specs.declared.types.Types.{Types}
use Rattle.tree_pool.specs.Content.{Content, edge_over, tree_over, AreBelow, IsKept, IsPooled}
use Rattle.tree_pool.specs.declared.node.EdgeTo.{EdgeTo}
use Rattle.tree_pool.proofs.Walks.{edges_left, below_left}

pub place-le : (f : EdgeTo → Labelled) (p : Labelled → Bool) (xs : List EdgeTo) → prefix_len p (map f xs) ≤ length xs
place-le f p xs = omega (arith, length-map xs f, prefix_len-le-length p (map f xs))

map-insert : (f : EdgeTo → Labelled) (xs : List EdgeTo) (i : ℕ) (e : EdgeTo) → map f (insert xs i e) ≡ insert (map f xs) i (f e)
map-insert f xs i e = map-append f (take i xs) (e ∷ drop i xs) ∙ rw (take-map f i xs, drop-map f i xs) refl

pub inserted : (ts : List Plain) (n : List ℕ) (xs : List EdgeTo) (e : EdgeTo) (i : ℕ) →
    i ≡ prefix_len (λ f. is_gt (edge_order_of (edge_over ts e) f)) (map (edge_over ts) xs) →
    tree_over ts n (insert xs i e) ≡ with_edge (planted_of (edge_over ts e)) (tree_over ts n xs)
inserted ts n xs e i h = rw (map-insert (edge_over ts) xs i e, h) (sym (with_edge-insert n (edge_over ts e) (map (edge_over ts) xs)))

pub below_append : (b : ℕ) (xs ys : List EdgeTo) → AreBelow b xs → AreBelow b ys → AreBelow b (xs ++ ys)
below_append b [] ys h k = k
below_append b (x ∷ xs) ys h k = (h.0, below_append b xs ys h.1 k)

pub below_take : (b i : ℕ) (xs : List EdgeTo) → AreBelow b xs → AreBelow b (take i xs)
below_take b zero xs h = tt
below_take b (suc i) [] h = tt
below_take b (suc i) (x ∷ xs) h = (h.0, below_take b i xs h.1)

pub below_insert : (b : ℕ) (xs : List EdgeTo) (i : ℕ) (e : EdgeTo) → AreBelow b xs → e.child.0 < b → AreBelow b (insert xs i e)
below_insert b xs i e h k = below_append b (take i xs) (e ∷ drop i xs) (below_take b i xs h) (k, below_left b xs i h)

-- the edges from the one before i on
pub sort_step : (c : Content) (n : List ℕ) (es : List EdgeTo) (i : ℕ) (d : EdgeTo) (sorted more : List EdgeTo) →
    0 < i → i ≤ length es → AreBelow (length c.trees) es → IsPooled c →
    tree_over c.trees n sorted ≡ canon (tree_over c.trees n (drop i es)) →
    tree_over c.trees n more ≡ with_edge (planted_of (edge_over c.trees (get_or es (i - 1) d))) (tree_over c.trees n sorted) →
    tree_over c.trees n more ≡ canon (tree_over c.trees n (drop (i - 1) es))
sort_step c n es i d sorted more hi len known pool inv ins =
    let ts = c.trees in
    let e = get_or es (i - 1) d in
    let back : i - 1 + 1 ≡ i = omega arith in
    let lt : i - 1 < length es = omega arith in
    let cut : drop (i - 1) es ≡ e ∷ drop i es = rw back at (edges_left es (i - 1) d lt) in
    let child : canon (slice_index_or ts e.child.0 (bare [])) ≡ slice_index_or ts e.child.0 (bare []) =
    canon_fixed (slice_index_or ts e.child.0 (bare [])) (pool.kept e.child.0 (slice_index_or ts e.child.0 (bare [])) (slice_get-get_or ts e.child.0 (bare []) (rw cut at (below_left (length ts) es (i - 1) known)).0)).canonical in
    rw (cut, ins, inv, child) refl

-- the canonical form of a small tree over the types is kept
pub kept_canon : (ty : Types) (t : Plain) → HasTypes ty t → IsSmall t → IsKept ty (canon t)
kept_canon ty t known small = record {
  canonical = canon_canonical t;
  small = record { edges = rw (canon_count t) small.edges; decorations = rw (canon_sum t) small.decorations };
  known = canon_types ty t known;
}
