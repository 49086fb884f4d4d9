-- The lows of small trees are in range.
use Rattle.std.proofs.Common.{◌≡◌, ℕ, ℤ, zero, suc, pos, ◌+ℤ◌, ◌≤ℤ◌, ◌+◌, ◌*◌, ◌≤◌, ◌<◌, List, [], ◌∷◌, map, drop, length, sum, get_or, refl, sym, ap, subst, ◌∙◌, arith}
use Rattle.std.specs.Int.{int_min}
use Rattle.std.proofs.lemmas.Int.{ints, clamps}
use Rattle.degree_numbers.specs.declared.types.Types.{Types}
use Rattle.degree_numbers.specs.Degree.{IsWithin}
use Rattle.degree_numbers.specs.Types.{AreTypes}
use Rattle.plain_trees.specs.Plain.{Plain, bare, graft, edge_count_of, decoration_sum_of, IsSmall}
use Rattle.plain_trees.specs.View.{Labelled, grafted}
use Rattle.plain_trees.specs.Degree.{edge_degree_of, HasTypes}
use Rattle.tree_pool.specs.Content.{Content, Holds, tree_at, edge_over, tree_over}
use Rattle.tree_pool.specs.declared.node.EdgeTo.{EdgeTo}
use Rattle.tree_pool.proofs.Walks.{no_edge, none_left, tree_cut, count_root, at_holds}
use Rattle.plain_trees.proofs.DegreeBounds.{small_edge_a, small_parts}
use Rattle.cutting_sizes.specs.Lows.{low, lowest}
use Rattle.cutting_sizes.proofs.Lows.{lowest_child, lowest_rest}
use Rattle.cutting_tables.specs.declared.lows.Lows.{Lows}
use Rattle.cutting_tables.specs.PoolLows.{AreLows, AreWithin}

abbrev bound : Plain → ℕ
bound t = edge_count_of t * 100000000000

low_bound : (ty : Types) (t : Plain) → AreTypes ty → IsSmall t → IsWithin (low ty t) (bound t)
low_bound ty (bare n) h s = record { low = omega (arith, ints); high = omega (arith, ints) }
low_bound ty (graft k p c t) h s =
    let parts = small_parts k p c t s in
    let e = small_edge_a ty k p h parts.decoration in
    let above = low_bound ty c h parts.child in
    let rest = low_bound ty t h parts.rest in
    record { low = omega (arith, ints, clamps); high = omega (arith, ints, clamps) }

lowest_bound : (ty : Types) (t : Plain) → AreTypes ty → IsSmall t → IsWithin (lowest ty t) (bound t)
lowest_bound ty (bare n) h s = record { low = omega (arith, ints); high = omega (arith, ints) }
lowest_bound ty (graft k p c t) h s =
    let parts = small_parts k p c t s in
    let here = low_bound ty (graft k p c t) h s in
    let above = lowest_bound ty c h parts.child in
    let rest = lowest_bound ty t h parts.rest in
    record { low = omega (arith, ints, clamps); high = omega (arith, ints, clamps) }

pub lows_within : (ty : Types) (t : Plain) (x : Lows) → AreTypes ty → IsSmall t → AreLows ty t x → AreWithin x
lows_within ty t x h s l =
    let a = low_bound ty t h s in
    let b = lowest_bound ty t h s in
    let e = s.edges in
    let first = l.low in
    let second = l.lowest in
    record {
      low = record { low = omega (arith, ints, a, e, first); high = omega (arith, ints, a, e, first) };
      lowest = record { low = omega (arith, ints, b, e, second); high = omega (arith, ints, b, e, second) };
    }

-- the lows do not hang on the root's decoration
low-root : (ty : Types) (n m : List ℕ) (es : List Labelled) → low ty (grafted n es) ≡ low ty (grafted m es)
low-root ty n m [] = refl
low-root ty n m (e ∷ es) = ap (λ (z : ℤ). int_min ((edge_degree_of ty e.kind.0 e.p.entries).a +ℤ low ty e.child) (pos 0) +ℤ z) (low-root ty n m es)

lowest-root : (ty : Types) (n m : List ℕ) (es : List Labelled) → lowest ty (grafted n es) ≡ lowest ty (grafted m es)
lowest-root ty n m [] = refl
lowest-root ty n m (e ∷ es) =
    let here = low-root ty n m (e ∷ es) in
    let rest = lowest-root ty n m es in
    ap (λ (z : ℤ). int_min z (int_min (lowest ty e.child) (lowest ty (grafted n es)))) here
    ∙ ap (λ (z : ℤ). int_min (low ty (grafted m (e ∷ es))) (int_min (lowest ty e.child) z)) rest

pub lows-root : (c : Content) (n : List ℕ) (es : List EdgeTo) (x : Lows) → AreLows c.types (tree_over c.trees [] es) x →
    AreLows c.types (tree_over c.trees n es) x
lows-root c n es x l =
    record { low = l.low ∙ low-root c.types [] n (map (edge_over c.trees) es); lowest = l.lowest ∙ lowest-root c.types [] n (map (edge_over c.trees) es) }

sum-root : (n : List ℕ) (es : List Labelled) → decoration_sum_of (grafted [] es) ≤ decoration_sum_of (grafted n es)
sum-root n [] = omega arith
sum-root n (e ∷ es) = omega (arith, sum-root n es)

-- an edge of a small tree, and the edges from it on
pub record IsEdgeAt (c : Content) (es : List EdgeTo) (j : ℕ) : Type 0 where
  pub known : (get_or es j no_edge).kind.0 < length c.types.list
  pub decoration : sum (get_or es j no_edge).p.entries ≤ 4096
  pub rest : IsSmall (tree_over c.trees [] (drop j es))

pub edge_at : (c : Content) (n : List ℕ) (es : List EdgeTo) (j : ℕ) → j < length es → HasTypes c.types (tree_over c.trees n es) →
    IsSmall (tree_over c.trees n es) → IsEdgeAt c es j
edge_at c n [] j h t s = absurd (omega (arith, h))
edge_at c n (e ∷ es) zero h t s =
    let parts = small_parts e.kind.0 e.p.entries (tree_at c e.child.0) (tree_over c.trees n es) s in
    let count = count_root n [] (map (edge_over c.trees) (e ∷ es)) in
    let less = sum-root n (map (edge_over c.trees) (e ∷ es)) in
    let edges = s.edges in
    let decorations = s.decorations in
    record {
      known = t.0.known;
      decoration = parts.decoration;
      rest = record { edges = omega (arith, edges, count); decorations = omega (arith, decorations, less) };
    }
edge_at c n (e ∷ es) (suc j) h t s =
    let parts = small_parts e.kind.0 e.p.entries (tree_at c e.child.0) (tree_over c.trees n es) s in
    let at = edge_at c n es j (omega (arith, h)) t.2 parts.rest in
    record { known = at.known; decoration = at.decoration; rest = at.rest }

-- the lows from an edge on
pub lows_start : (c : Content) (es : List EdgeTo) (x : Lows) → AreLows c.types (bare []) x → AreLows c.types (tree_over c.trees [] (drop (length es) es)) x
lows_start c es x l = rw (none_left es (length es) (omega arith)) l

pub lows_step : (c : Content) (ty : Types) (es : List EdgeTo) (i j : ℕ) (x above next : Lows) → j + 1 ≡ i → j < length es → ty ≡ c.types →
    ((d t : Plain) → AreLows ty d above → AreLows ty t x → AreLows ty (graft (get_or es j no_edge).kind.0 (get_or es j no_edge).p.entries d t) next) →
    AreLows c.types (tree_at c (get_or es j no_edge).child.0) above → AreLows c.types (tree_over c.trees [] (drop i es)) x →
    AreLows c.types (tree_over c.trees [] (drop j es)) next
lows_step c ty es i j x above next one lt same step a l =
    let child = tree_at c (get_or es j no_edge).child.0 in
    let rest = tree_over c.trees [] (drop (j + 1) es) in
    let tail : AreLows c.types rest x = subst (λ (k : ℕ). AreLows c.types (tree_over c.trees [] (drop k es)) x) (sym one) l in
    let made = step child rest (subst (λ (u : Types). AreLows u child above) (sym same) a) (subst (λ (u : Types). AreLows u rest x) (sym same) tail) in
    let here = subst (λ (u : Types). AreLows u (graft (get_or es j no_edge).kind.0 (get_or es j no_edge).p.entries child rest) next) same made in
    subst (λ t. AreLows c.types t next) (sym (tree_cut c [] es j no_edge lt)) here

pub lows_end : (c : Content) (n : List ℕ) (es : List EdgeTo) (i id : ℕ) (x : Lows) → i ≤ 0 → Holds c id (tree_over c.trees n es) →
    AreLows c.types (tree_over c.trees [] (drop i es)) x → AreLows c.types (tree_at c id) x
lows_end c n es i id x none h l =
    let start : i ≡ 0 = omega (arith, none) in
    let whole : AreLows c.types (tree_over c.trees [] es) x = subst (λ (k : ℕ). AreLows c.types (tree_over c.trees [] (drop k es)) x) start l in
    subst (λ t. AreLows c.types t x) (sym (at_holds c id (tree_over c.trees n es) h)) (lows-root c n es x whole)

-- one more edge
pub low_made : (e a s taken least whole above here : ℤ) → taken ≡ e +ℤ a → least ≡ int_min taken (pos 0) → whole ≡ least +ℤ s → a ≡ above → s ≡ here →
    whole ≡ int_min (e +ℤ above) (pos 0) +ℤ here
low_made e a s taken least whole above here is_taken is_least is_whole is_above is_here = rw (is_whole, is_least, is_taken, is_above, is_here) refl

pub lowest_made : (low whole rest last x y above here : ℤ) → last ≡ int_min whole rest → whole ≡ low → rest ≡ int_min x y → x ≡ above → y ≡ here →
    last ≡ int_min low (int_min above here)
lowest_made low whole rest last x y above here is_last is_low is_rest is_above is_here = rw (is_last, is_low, is_rest, is_above, is_here) refl

-- the trees above the edges of a root are not lower
pub lowest_at : (ty : Types) (c : Content) (n : List ℕ) (es : List EdgeTo) (j : ℕ) → j < length es →
    lowest ty (tree_over c.trees n es) ≤ℤ lowest ty (tree_at c (get_or es j no_edge).child.0)
lowest_at ty c n [] j h = absurd (omega (arith, h))
lowest_at ty c n (e ∷ es) zero h = lowest_child ty e.kind.0 e.p.entries (tree_at c e.child.0) (tree_over c.trees n es)
lowest_at ty c n (e ∷ es) (suc j) h =
    let rest = lowest_rest ty e.kind.0 e.p.entries (tree_at c e.child.0) (tree_over c.trees n es) in
    let there = lowest_at ty c n es j (omega (arith, h)) in
    omega (arith, ints, rest, there)
