-- The order of the forests of a forest pool.
use Rattle.std.proofs.Common.{◌≡◌, ℕ, ◌+◌, ◌<◌, List, [], ◌∷◌, drop, length, get_or, slice_get, refl, sym, ◌∙◌, arith, Ordering, Equal, nat_cmp}
use Rattle.std.specs.Cmp.{IsTotalOrder}
use Rattle.std.specs.Cmp.Lexicographic.{slice_cmp, options_total}
use Rattle.std.proofs.lemmas.Cmp.{on_total, then_total, lists_total, nat_cmp_total}
use Rattle.std.proofs.lemmas.Grind.{common_steps}
use Rattle.std.proofs.lemmas.List.{length-map}
use Rattle.std.proofs.lemmas.Option.{slice_get-get_or}
use Rattle.plain_trees.specs.Plain.{Plain, tree_order}
use Rattle.plain_trees.specs.Coproducts.{forest_order}
use Rattle.plain_trees.proofs.Orders.{then_stops}
use Rattle.tree_pool.specs.Content.{Content, tree_at, trees_at, id_order}
use Rattle.tree_pool.specs.Forests.{numbers, forest_at, list_order, forest_id_order, AreKnown, Fits}
use Rattle.tree_pool.specs.declared.node.TreeId.{TreeId}
use Rattle.tree_pool.proofs.Ids.{id_order-at, id_order_total, known_forest}

abbrev pub no_id : TreeId
no_id = record { 0 = 0 }

-- the trees that are left
ids_left : (xs : List TreeId) (i : ℕ) (d : TreeId) → i < length xs → drop i xs ≡ get_or xs i d ∷ drop (i + 1) xs
ids_left xs i d h = grind (arith, common_steps)

module _ (R : ℕ → ℕ → Ordering) (xs ys : List TreeId) (i : ℕ) (left : slice_cmp R (numbers (drop i xs)) (numbers (drop i ys)) ≡ slice_cmp R (numbers xs) (numbers ys)) where
  -- two trees decide
  pub lists_stop : (d e : TreeId) (o : Ordering) → i < length xs → i < length ys →
      o ≡ R (get_or xs i d).0 (get_or ys i e).0 → (o ≡ Equal → ⊥) →
      o ≡ slice_cmp R (numbers xs) (numbers ys)
  lists_stop d e o h k is stops =
      let cut = rw (ids_left xs i d h, ids_left ys i e k, ← is) at left in
      sym (then_stops o (slice_cmp R (numbers (drop (i + 1) xs)) (numbers (drop (i + 1) ys))) stops) ∙ cut

  -- two trees do not
  pub lists_go_on : (d e : TreeId) → i < length xs → i < length ys →
      Equal ≡ R (get_or xs i d).0 (get_or ys i e).0 →
      slice_cmp R (numbers (drop (i + 1) xs)) (numbers (drop (i + 1) ys)) ≡ slice_cmp R (numbers xs) (numbers ys)
  lists_go_on d e h k is = rw (ids_left xs i d h, ids_left ys i e k, ← is) at left

-- where the lengths do not decide
pub lengths_same : (ts : List Plain) (xs ys : List TreeId) (o : Ordering) →
    Equal ≡ nat_cmp (length xs) (length ys) →
    o ≡ slice_cmp (id_order ts) (numbers xs) (numbers ys) →
    o ≡ list_order ts (numbers xs) (numbers ys)
lengths_same ts xs ys o same is = rw (length-map xs (λ (i : TreeId). i.0), length-map ys (λ (i : TreeId). i.0), ← same) is

-- the order of forests by number is a total order
pub forest_id_order_total : (ts : List Plain) (fs : List (List ℕ)) → IsTotalOrder (forest_id_order ts fs)
forest_id_order_total ts fs = on_total (slice_get fs) (options_total (then_total (on_total length nat_cmp_total) (lists_total (id_order_total ts))))

-- and that of the forests of the trees
lists_of_trees : (c : Content) (xs ys : List ℕ) → AreKnown c xs → AreKnown c ys →
    slice_cmp (id_order c.trees) xs ys ≡ slice_cmp tree_order (trees_at c xs) (trees_at c ys)
lists_of_trees c [] [] h k = refl
lists_of_trees c [] (y ∷ ys) h k = refl
lists_of_trees c (x ∷ xs) [] h k = refl
lists_of_trees c (x ∷ xs) (y ∷ ys) h k = rw (id_order-at c x y h.0 k.0, lists_of_trees c xs ys h.1 k.1) refl

pub forest_id_order-at : (c : Content) (fs : List (List ℕ)) (f g : ℕ) → Fits fs c → f < length fs → g < length fs →
    forest_id_order c.trees fs f g ≡ forest_order (trees_at c (forest_at fs f)) (trees_at c (forest_at fs g))
forest_id_order-at c fs f g fits h k =
    let xs = forest_at fs f in
    let ys = forest_at fs g in
    rw (slice_get-get_or fs f [] h, slice_get-get_or fs g [] k, length-map xs (tree_at c), length-map ys (tree_at c), lists_of_trees c xs ys (known_forest fs c f fits h) (known_forest fs c g fits k)) refl
