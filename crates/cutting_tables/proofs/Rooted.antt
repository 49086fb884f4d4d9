-- The table of recentring is the list of entries, in canonical form, and its terms are those of
-- recentring.
use Rattle.std.proofs.Common.{◌≡◌, ℕ, suc, ◌+◌, ◌-◌, ◌*◌, ◌<◌, ◌≤◌, ◌/◌, pos, ◌<ℤ◌, Bool, true, false, cond, ◌&&◌, List, [], ◌∷◌, ◌++◌, map, flat_map, filter, refl, sym, ap, subst, ◌∙◌, arith, unsigned_abs}
use Rattle.std.specs.List.Sorted.{IsStrictlySortedBy}
use Rattle.std.proofs.lemmas.Int.{ints}
use Rattle.std.proofs.lemmas.List.{map-append}
use Rattle.std.proofs.lemmas.List.Elements.{filter-append}
use Rattle.exact_sums.specs.Saturating.{saturated}
use Rattle.exact_sums.specs.Sums.{total}
use Rattle.exact_sums.specs.Keyed.{same_by, sum_at, HaveSameSums, saturated_terms, products_with, products, collected, IsCollected}
use Rattle.exact_sums.proofs.CollectedLaws.{sum_at-collected}
use Rattle.exact_sums.proofs.KeyedLaws.{products_same_saturated, saturated_sums, collected_unique}
use Rattle.degree_numbers.specs.declared.types.Types.{Types}
use Rattle.degree_numbers.specs.Degree.{degree_plus}
use Rattle.degree_numbers.specs.Types.{AreTypes}
use Rattle.degree_numbers.specs.Multi.{plus_of, minus_of}
use Rattle.plain_trees.specs.Plain.{Plain, bare, graft, root_of}
use Rattle.plain_trees.specs.Canon.{canon}
use Rattle.plain_trees.specs.Degree.{edge_degree_of, degree_of}
use Rattle.plain_trees.specs.Multinomials.{below, choose}
use Rattle.plain_trees.specs.Cutting.{shifts}
use Rattle.plain_trees.specs.Coproducts.{Recentred, recentred_order, each_direction, positive_size, are_above_zero, recentring_terms}
use Rattle.tree_cuttings.specs.Roots.{raised, joined}
use Rattle.tree_cuttings.specs.Entries.{Entry, with_inside, with_outside, pairs}
use Rattle.tree_cuttings.specs.Rooted.{whole_entry, rooted_entries}
use Rattle.tree_cuttings.specs.Terms.{recentred_entry}
use Rattle.tree_cuttings.proofs.Bounds.{shifts_none}
use Rattle.tree_cuttings.proofs.Degrees.{edge_raised, not_above, IsBeyond, size_beyond}
use Rattle.tree_cuttings.proofs.Orders.{recentred_total, recentred_exact}
use Rattle.tree_cuttings.proofs.Positive.{choose_pos}
use Rattle.tree_cuttings.proofs.RootedBounds.{above-joined}
use Rattle.tree_cuttings.proofs.Terms.{recentring_ascending, recentring_positive}
use Rattle.tree_cuttings.proofs.Within.{recentring_within}
use Rattle.cutting_tables.specs.Keys.{right_branch, left_inside, left_factor, right_outside, right_factor}
use Rattle.cutting_tables.specs.Tables.{right_shifts, with_right_branch, recentring_table}
use Rattle.cutting_tables.specs.Live.{AreSameRecentred, recentred_within}
use Rattle.cutting_tables.proofs.CanonSteps.{canon-graft, canon-graft_rest, canon-joined, canon-raised, root-canon}
use Rattle.cutting_tables.proofs.Closing.{keys-saturated, saturated_counted}
use Rattle.cutting_tables.proofs.Dropped.{filter-flat_map}
use Rattle.cutting_tables.proofs.Keyed.{term_same}
use Rattle.cutting_tables.proofs.Products.{map-map, map-flat_map, map-pairs, IsProduct, flat_map-filter, flat_map-same}
use Rattle.cutting_tables.proofs.Steps.{exact_recentred}
use Rattle.cutting_tables.proofs.Sums.{same_append, same_flat_map, same_products_with, sum_at-flat_map}

abbrev pub recentred_term : Entry → Recentred × ℕ
recentred_term e = (recentred_entry e, e.coefficient)

abbrev pair_of : Plain → Plain → Recentred
pair_of l r = (l, r)

pub recentred-inside : (k : ℕ) (p : List ℕ) (x y : Entry) → recentred_entry (with_inside k p x y) ≡ left_inside k p (recentred_entry x) (recentred_entry y)
recentred-inside k p x y =
    ap (λ l. pair_of l (canon (joined x.quotient y.quotient))) (sym (canon-graft k p x.part y.part))
    ∙ ap (pair_of (canon (graft k p (canon x.part) (canon y.part)))) (sym (canon-joined x.quotient y.quotient))

factor-inside : (x y : Entry) →
    left_factor (recentred_entry x) (recentred_entry y) ≡ choose (plus_of (root_of x.quotient) (root_of y.quotient)) (root_of x.quotient)
factor-inside x y =
    ap (λ m. choose (plus_of m (root_of (canon y.quotient))) m) (root-canon x.quotient)
    ∙ ap (λ m. choose (plus_of (root_of x.quotient) m) (root_of x.quotient)) (root-canon y.quotient)

product-inside : (k : ℕ) (p : List ℕ) → IsProduct left_factor (left_inside k p) recentred_term recentred_term recentred_term (with_inside k p)
product-inside k p x y =
    let f = factor-inside x y in
    term_same (recentred_entry (with_inside k p x y)) (left_inside k p (recentred_entry x) (recentred_entry y)) _ _ (recentred-inside k p x y)
    (omega (arith, ap (λ (n : ℕ). x.coefficient * (n * y.coefficient)) f))

pub recentred-outside : (s : List ℕ) (k : ℕ) (p : List ℕ) (c : Plain) (y : Entry) →
    recentred_entry (with_outside s k p (whole_entry c) y) ≡ right_outside s k p c (recentred_entry y)
recentred-outside s k p c y =
    ap (λ l. pair_of l (canon (graft k (plus_of p s) c y.quotient))) (canon-raised s y.part)
    ∙ ap (pair_of (raised s (canon y.part))) (sym (canon-graft_rest k (plus_of p s) c y.quotient))

row-outside : (s : List ℕ) (k : ℕ) (p : List ℕ) (c : Plain) (ys : List Entry) →
    map recentred_term (map (with_outside s k p (whole_entry c)) ys) ≡ products_with (right_factor s) (right_outside s k p) c (map recentred_term ys)
row-outside s k p c [] = refl
row-outside s k p c (y ∷ ys) =
    let f = ap (λ (m : List ℕ). choose (plus_of s m) s * y.coefficient) (root-canon y.part) in
    let z = recentred_term (with_outside s k p (whole_entry c) y) in
    let rest = products_with (right_factor s) (right_outside s k p) c (map recentred_term ys) in
    ap (λ zs. z ∷ zs) (row-outside s k p c ys)
    ∙ ap (λ u. u ∷ rest)
    (term_same (recentred_entry (with_outside s k p (whole_entry c) y)) (right_outside s k p c (recentred_entry y)) _ _ (recentred-outside s k p c y)
    (omega (arith, f)))

-- the branches may be tested at the step
filter-row : {X Y : Type 0} (P : Y → Bool) (Q : X → Bool) (f : X → Y) (b : Bool) → ((x : X) → P (f x) ≡ b && Q x) → (xs : List X) →
    filter P (map f xs) ≡ cond b (map f (filter Q xs)) []
filter-row P Q f true h [] = refl
filter-row P Q f false h [] = refl
filter-row P Q f true h (x ∷ xs) =
    ap (λ b. cond b (f x ∷ filter P (map f xs)) (filter P (map f xs))) (h x)
    ∙ ap (λ ys. cond (Q x) (f x ∷ ys) ys) (filter-row P Q f true h xs)
    ∙ elim (Q x) as (λ b. cond b (f x ∷ map f (filter Q xs)) (map f (filter Q xs)) ≡ map f (cond b (x ∷ filter Q xs) (filter Q xs)))
    [ true ↦ refl | false ↦ refl ]
filter-row P Q f false h (x ∷ xs) = ap (λ b. cond b (f x ∷ filter P (map f xs)) (filter P (map f xs))) (h x) ∙ filter-row P Q f false h xs

module _ (ty : Types) where
  abbrev above : Entry → Bool
  above e = are_above_zero ty e.quotient

  filter-pairs : (k : ℕ) (p : List ℕ) (xs ys : List Entry) →
      filter above (pairs (with_inside k p) xs ys) ≡ pairs (with_inside k p) (filter above xs) (filter above ys)
  filter-pairs k p xs ys =
      filter-flat_map above (λ x. map (with_inside k p x) ys) xs
      ∙ flat_map-same (λ x. filter above (map (with_inside k p x) ys)) (λ x. cond (above x) (map (with_inside k p x) (filter above ys)) [])
      (λ x. filter-row above above (with_inside k p x) (above x) (λ y. above-joined ty x.quotient y.quotient) ys) xs
      ∙ flat_map-filter above (λ x. map (with_inside k p x) (filter above ys)) xs

  filter-rows : (k : ℕ) (p : List ℕ) (c : Plain) (ys : List Entry) (ss : List (List ℕ)) →
      filter above (flat_map (λ s. map (with_outside s k p (whole_entry c)) ys) ss)
      ≡ flat_map (λ s. map (with_outside s k p (whole_entry c)) (filter above ys)) (filter (right_branch ty k p c) ss)
  filter-rows k p c ys ss =
      let rows : List Entry → List ℕ → List Entry = λ es s. map (with_outside s k p (whole_entry c)) es in
      filter-flat_map above (rows ys) ss
      ∙ flat_map-same (λ s. filter above (rows ys s)) (λ s. cond (right_branch ty k p c s) (rows (filter above ys) s) [])
      (λ s. filter-row above above (with_outside s k p (whole_entry c)) (right_branch ty k p c s) (λ y. refl) ys) ss
      ∙ flat_map-filter (right_branch ty k p c) (rows (filter above ys)) ss

  all-filter : (n : List ℕ) (ms : List (List ℕ)) →
      filter above (map (λ a. record { coefficient = 1; above = []; part = bare a; quotient = bare (minus_of n a) }) ms)
      ≡ map (λ a. record { coefficient = 1; above = []; part = bare a; quotient = bare (minus_of n a) }) ms
  all-filter n [] = refl
  all-filter n (a ∷ ms) = ap (λ es. record { coefficient = 1; above = []; part = bare a; quotient = bare (minus_of n a) } ∷ es) (all-filter n ms)

  pub recentred_keyed : (w : List ℕ) (t : Plain) → map recentred_term (filter above (rooted_entries w t)) ≡ recentring_table ty w t
  recentred_keyed w (bare n) =
      ap (map recentred_term) (all-filter n (below n))
      ∙ map-map recentred_term (λ a. record { coefficient = 1; above = []; part = bare a; quotient = bare (minus_of n a) }) (below n)
  recentred_keyed w (graft k p c t) =
      let xs = filter above (rooted_entries w c) in
      let ys = filter above (rooted_entries w t) in
      let f = with_inside k p in
      let rows : List Entry → List ℕ → List Entry = λ es s. map (with_outside s k p (whole_entry c)) es in
      let branches = right_shifts ty w k p c in
      let inner = filter-pairs k p (rooted_entries w c) (rooted_entries w t) in
      let outer = filter-rows k p c (rooted_entries w t) (shifts w p) in
      ap (map recentred_term)
      (filter-append above (pairs f (rooted_entries w c) (rooted_entries w t)) (flat_map (rows (rooted_entries w t)) (shifts w p))
      ∙ ap (λ l. l ++ filter above (flat_map (rows (rooted_entries w t)) (shifts w p))) inner
      ∙ ap (λ l. pairs f xs ys ++ l) outer)
      ∙ map-append recentred_term (pairs f xs ys) (flat_map (rows ys) branches)
      ∙ ap (λ l. l ++ map recentred_term (flat_map (rows ys) branches))
      (map-pairs left_factor (left_inside k p) recentred_term recentred_term recentred_term f (product-inside k p) xs ys)
      ∙ ap (λ l. products left_factor (left_inside k p) (map recentred_term xs) (map recentred_term ys) ++ l)
      (map-flat_map recentred_term (rows ys) (λ s. products_with (right_factor s) (right_outside s k p) c (map recentred_term ys)) (λ s. row-outside s k p c ys)
      branches)
      ∙ ap (λ l. with_right_branch ty w k p c l (map recentred_term ys)) (recentred_keyed w c)
      ∙ ap (with_right_branch ty w k p c (recentring_table ty w c)) (recentred_keyed w t)

  -- one more edge
  module _ (n : ℕ) (k : ℕ) (p : List ℕ) (c t : Plain) where
    abbrev whole_table : List (Recentred × ℕ)
    whole_table = recentred_within ty n t

    abbrev branch_of : List ℕ → Bool
    branch_of = right_branch ty k p c

    abbrev row : List (Recentred × ℕ) → List ℕ → List (Recentred × ℕ)
    row vs s = products_with (right_factor s) (right_outside s k p) c vs

    beyond_below : AreTypes ty → (m : ℕ) → (degree_plus (edge_degree_of ty k p) (degree_of ty c)).a <ℤ pos (unsigned_abs ty.units.den * suc m) → (s : List ℕ) →
        IsBeyond m ty.dims s → branch_of s ≡ false
    beyond_below types m under s b =
        let size = size_beyond ty types.scaling m s b in
        let e = edge_raised ty k p s in
        not_above (degree_plus (edge_degree_of ty k (plus_of p s)) (degree_of ty c)) (omega (arith, ints, size, e, under))

    rows_within : AreTypes ty → (m : ℕ) → m ≤ n → (degree_plus (edge_degree_of ty k p) (degree_of ty c)).a <ℤ pos (unsigned_abs ty.units.den * suc m) →
        AreSameRecentred (flat_map (row whole_table) (right_shifts ty (each_direction ty.dims n) k p c))
        (flat_map (row whole_table) (right_shifts ty (each_direction ty.dims m) k p c))
    rows_within types m most under = λ key.
        let same = same_by recentred_order in
        let tested : List ℕ → List (Recentred × ℕ) = λ s. cond (branch_of s) (row whole_table s) [] in
        let value : List ℕ → ℕ = λ s. sum_at same key (tested s) in
        let summed : (ss : List (List ℕ)) → sum_at same key (flat_map (row whole_table) (filter branch_of ss)) ≡ total value ss =
        λ ss. ap (sum_at same key) (sym (flat_map-filter branch_of (row whole_table) ss)) ∙ sum_at-flat_map same key tested ss in
        let none : (s : List ℕ) → IsBeyond m ty.dims s → value s ≡ 0 =
        λ s b. ap (λ d. sum_at same key (cond d (row whole_table s) [])) (beyond_below types m under s b) in
        let e : m + (n - m) ≡ n = omega (arith, most) in
        let bound = ap (λ (i : ℕ). total value (shifts (each_direction ty.dims i) p)) (sym e) ∙ shifts_none ty.dims m (n - m) p value none in
        ap saturated (summed (shifts (each_direction ty.dims n) p) ∙ bound ∙ sym (summed (shifts (each_direction ty.dims m) p)))

    pub right_step : AreTypes ty → (m : ℕ) → m ≤ n → (degree_plus (edge_degree_of ty k p) (degree_of ty c)).a <ℤ pos (unsigned_abs ty.units.den * suc m) →
        (us vs : List (Recentred × ℕ)) →
        AreSameRecentred us (recentred_within ty n c) → AreSameRecentred vs whole_table →
        AreSameRecentred (with_right_branch ty (each_direction ty.dims m) k p c us vs) (recentred_within ty n (graft k p c t))
    right_step types m most under us vs h g =
        let same = same_by recentred_order in
        let some = right_shifts ty (each_direction ty.dims m) k p c in
        let all = right_shifts ty (each_direction ty.dims n) k p c in
        let inner = products_same_saturated same exact_recentred same exact_recentred same left_factor (left_inside k p) us (recentred_within ty n c) vs
        whole_table h g in
        let rows = same_flat_map same (row vs) (row whole_table)
        (λ s. same_products_with same exact_recentred same (right_factor s) (right_outside s k p) c vs whole_table g) some in
        let outer : AreSameRecentred (flat_map (row vs) some) (flat_map (row whole_table) all) = λ key. rows key ∙ sym (rows_within types m most under key) in
        same_append same (products left_factor (left_inside k p) us vs) (products left_factor (left_inside k p) (recentred_within ty n c) whole_table)
        (flat_map (row vs) some) (flat_map (row whole_table) all) inner outer

  -- with ample shifts the table has the sums of the terms of recentring
  pub recentred_are : (n : ℕ) (t : Plain) → AreTypes ty → positive_size ty t / unsigned_abs ty.units.den ≤ n →
      HaveSameSums (same_by recentred_order) (recentred_within ty n t) (recentring_terms ty t)
  recentred_are n t types most = λ key.
      let w = each_direction ty.dims n in
      sym (sum_at-collected recentred_order recentred_exact key (recentred_within ty n t))
      ∙ ap (λ ts. sum_at (same_by recentred_order) key (collected recentred_order ts)) (sym (recentred_keyed w t))
      ∙ ap (sum_at (same_by recentred_order) key) (sym (recentring_within ty t n types most))

  pub recentring_table_terms : (n : ℕ) (t : Plain) (zs : List (Recentred × ℕ)) → AreTypes ty → positive_size ty t / unsigned_abs ty.units.den ≤ n →
      AreSameRecentred zs (recentred_within ty n t) → IsCollected recentred_order zs → zs ≡ saturated_terms (recentring_terms ty t)
  recentring_table_terms n t zs types most h c =
      let ts = recentring_terms ty t in
      collected_unique recentred_order recentred_total (same_by recentred_order) exact_recentred (λ x y. refl) zs (saturated_terms ts) c.ascending
      (subst (IsStrictlySortedBy recentred_order) (sym (keys-saturated ts)) (recentring_ascending ty t)) c.above
      (saturated_counted ts (recentring_positive ty t))
      (λ key. h key ∙ ap saturated (recentred_are n t types most key) ∙ sym (saturated_sums (same_by recentred_order) ts key))

pub left_above : (x y : Recentred) → 0 < left_factor x y
left_above x y = choose_pos (root_of x.1) (root_of y.1)

pub right_above : (s : List ℕ) (c : Plain) (y : Recentred) → 0 < right_factor s c y
right_above s c y = choose_pos s (root_of y.0)
