-- One more edge: tables may be replaced by others that stand for them.
use Rattle.std.proofs.Common.{◌≡◌, ℕ, suc, ◌+◌, ◌-◌, ◌*◌, ◌<◌, ◌≤◌, pos, ◌+ℤ◌, ◌≤ℤ◌, ◌<ℤ◌, Bool, true, false, not, List, [], ◌∷◌, ◌++◌, flat_map, refl, sym, ap, ◌∙◌, arith, unsigned_abs, Ordering, Less, Equal, Greater}
use Rattle.std.specs.Cmp.{IsTotalOrder}
use Rattle.std.specs.List.{AllByRecursion}
use Rattle.std.specs.Ordering.{int_cmp, is_gt, MatchOrdering}
use Rattle.std.proofs.lemmas.Cmp.{on_total, then_total, int_ranked}
use Rattle.std.proofs.lemmas.Int.{ints}
use Rattle.std.proofs.lemmas.List.Elements.{filter-append}
use Rattle.std.proofs.lemmas.Map.Lookups.{CmpEqualImpliesEq}
use Rattle.exact_sums.specs.Saturating.{saturated}
use Rattle.exact_sums.specs.Sums.{total}
use Rattle.exact_sums.specs.Keyed.{IsExactTest, same_by, sum_at, products}
use Rattle.exact_sums.proofs.CollectedLaws.{same_by_exact}
use Rattle.exact_sums.proofs.KeyedLaws.{products_same_saturated}
use Rattle.degree_numbers.specs.declared.types.Types.{Types}
use Rattle.degree_numbers.specs.Types.{IsScaling, size_in_units}
use Rattle.plain_trees.specs.Plain.{Plain, bare, graft, tree_order}
use Rattle.plain_trees.specs.Multinomials.{below}
use Rattle.plain_trees.specs.Degree.{edge_degree_of, degree_of}
use Rattle.plain_trees.specs.Cutting.{shifts}
use Rattle.plain_trees.specs.Coproducts.{Extracted, forest_order, extracted_order, recentred_order, each_direction}
use Rattle.plain_trees.proofs.DegreeLaws.{canon_degree}
use Rattle.plain_trees.proofs.OrderLaws.{tree_order_total, tree_exact, both_equal}
use Rattle.tree_cuttings.proofs.Bounds.{shifts_none}
use Rattle.tree_cuttings.proofs.Degrees.{degree_raised, IsBeyond, size_beyond}
use Rattle.tree_cuttings.proofs.Orders.{forest_order_total, forest_exact, extracted_total, extracted_exact, recentred_total, recentred_exact}
use Rattle.tree_cuttings.proofs.Positive.{all_append, all_map, all_flat_map, all_filter}
use Rattle.cutting_sizes.specs.Lows.{low, excess, IsLive}
use Rattle.cutting_sizes.proofs.Lows.{low_inside, low_outside}
use Rattle.cutting_tables.specs.Keys.{Opened, opened_order, inside, inside_factor, outside, outside_factor}
use Rattle.cutting_tables.specs.Tables.{closed_terms, extraction_tables}
use Rattle.cutting_tables.specs.Live.{AreSameOpened, AreSameExtracted, is_live, live_terms, IsLiveTable}
use Rattle.cutting_tables.proofs.Dropped.{filter-flat_map, products_none, products_left, products_right, all_products}
use Rattle.cutting_tables.proofs.Sums.{same_append, same_flat_map, sum_at-flat_map, same_filtered}

-- keys are told apart by their orders
pub opened_total : IsTotalOrder opened_order
opened_total =
    then_total (on_total (λ (x : Opened). x.above) forest_order_total)
    (then_total (on_total (λ (x : Opened). x.part) tree_order_total) (on_total (λ (x : Opened). x.quotient) tree_order_total))

abbrev key_of : List Plain → Plain → Plain → Opened
key_of fs p q = record { above = fs; part = p; quotient = q }

pub opened_exact : CmpEqualImpliesEq opened_order
opened_exact x y h =
    let first = both_equal (forest_order x.above y.above) _ h in
    let second = both_equal (tree_order x.part y.part) (tree_order x.quotient y.quotient) first.1 in
    ap (λ fs. key_of fs x.part x.quotient) (forest_exact x.above y.above first.0)
    ∙ ap (λ t. key_of y.above t x.quotient) (tree_exact x.part y.part second.0)
    ∙ ap (key_of y.above y.part) (tree_exact x.quotient y.quotient second.1)

pub exact_opened : IsExactTest (same_by opened_order)
exact_opened = same_by_exact opened_order opened_total opened_exact

pub exact_extracted : IsExactTest (same_by extracted_order)
exact_extracted = same_by_exact extracted_order extracted_total extracted_exact

pub exact_recentred : IsExactTest (same_by recentred_order)
exact_recentred = same_by_exact recentred_order recentred_total recentred_exact

-- the test of live parts
abbrev Ranked : Types → ℕ → Plain → Plain → Ordering → Type 0
Ranked ty b t part o = MatchOrdering o (excess ty t part <ℤ pos b) (excess ty t part ≡ pos b) (pos b <ℤ excess ty t part)

ranked : (ty : Types) (b : ℕ) (t part : Plain) → Ranked ty b t part (int_cmp (excess ty t part) (pos b))
ranked ty b t part = int_ranked (excess ty t part) (pos b) (int_cmp (excess ty t part) (pos b)) refl

pub is_live-live : (ty : Types) (b : ℕ) (t part : Plain) → IsLive ty b t part → is_live ty b t part ≡ true
is_live-live ty b t part h =
    (elim (int_cmp (excess ty t part) (pos b)) as (λ o. Ranked ty b t part o → not (is_gt o) ≡ true) [
      | Less ↦ λ r. refl
      | Equal ↦ λ r. refl
      | Greater ↦ λ r. absurd (omega (arith, ints, r, h))
    ]) (ranked ty b t part)

pub live-is_live : (ty : Types) (b : ℕ) (t part : Plain) → is_live ty b t part ≡ true → IsLive ty b t part
live-is_live ty b t part h =
    (elim (int_cmp (excess ty t part) (pos b)) as (λ o. Ranked ty b t part o → not (is_gt o) ≡ true → IsLive ty b t part) [
      | Less ↦ λ r e. omega (arith, ints, r)
      | Equal ↦ λ r e. omega (arith, ints, r)
      | Greater ↦ λ r e. absurd cc
    ]) (ranked ty b t part) h

pub is_live-dead : (ty : Types) (b : ℕ) (t part : Plain) → pos b <ℤ excess ty t part → is_live ty b t part ≡ false
is_live-dead ty b t part h =
    (elim (int_cmp (excess ty t part) (pos b)) as (λ o. Ranked ty b t part o → not (is_gt o) ≡ false) [
      | Less ↦ λ r. absurd (omega (arith, ints, r, h))
      | Equal ↦ λ r. absurd (omega (arith, ints, r, h))
      | Greater ↦ λ r. refl
    ]) (ranked ty b t part)

-- the degrees of parts
degree-inside : (ty : Types) (k : ℕ) (p : List ℕ) (x y : Opened) →
    (degree_of ty (inside k p x y).part).a ≡ ((edge_degree_of ty k p).a +ℤ (degree_of ty x.part).a) +ℤ (degree_of ty y.part).a
degree-inside ty k p x y = ap (λ d. d.a) (canon_degree ty (graft k p x.part y.part))

all_units : (zs : List (Extracted × ℕ)) → AllByRecursion (λ z. Unit {0}) zs
all_units [] = tt
all_units (z ∷ zs) = (tt, all_units zs)

module _ (ty : Types) where
  -- the part of a key of t is not lower than the low of t
  abbrev pub IsAbove : Plain → Opened → Type 0
  IsAbove t x = low ty t ≤ℤ (degree_of ty x.part).a

  above-inside : (k : ℕ) (p : List ℕ) (c t : Plain) (x y : Opened) → IsAbove c x → IsAbove t y → IsAbove (graft k p c t) (inside k p x y)
  above-inside k p c t x y a b = let d = degree-inside ty k p x y in let l = low_inside ty k p c t in omega (arith, ints, a, b, d, l)

  above-outside : (s : List ℕ) (k : ℕ) (p : List ℕ) (c t : Plain) (z : Extracted) (y : Opened) → IsAbove t y → IsAbove (graft k p c t) (outside s k p z y)
  above-outside s k p c t z y b = let d = degree_raised ty s y.part in let l = low_outside ty k p c t in omega (arith, ints, b, d, l)

  pub all_above : (w : List ℕ) (t : Plain) → AllByRecursion (λ e. IsAbove t e.0) (extraction_tables ty w t).touched
  all_above w (bare n) = all_map (λ (e : Opened × ℕ). IsAbove (bare n) e.0) _ (below n) (λ a. omega (arith, ints))
  all_above w (graft k p c t) =
      let zs = closed_terms ty (extraction_tables ty w c) in
      all_append (λ (e : Opened × ℕ). IsAbove (graft k p c t) e.0) _ _
      (all_products inside_factor (inside k p) (λ x. true) (IsAbove t) (IsAbove c) (IsAbove (graft k p c t)) (above-inside k p c t)
      (extraction_tables ty w c).touched (extraction_tables ty w t).touched (all_above w c) (all_above w t))
      (all_flat_map (λ (e : Opened × ℕ). IsAbove (graft k p c t) e.0) _ (shifts w p)
      (λ s. all_products (outside_factor s) (outside s k p) (λ x. true) (IsAbove t) (λ z. Unit {0}) (IsAbove (graft k p c t))
      (λ z y u b. above-outside s k p c t z y b) zs (extraction_tables ty w t).touched (all_units zs) (all_above w t)))

  module _ (b : ℕ) where
    abbrev live : Plain → Opened → Bool
    live t x = is_live ty b t x.part

    live-inside_left : (k : ℕ) (p : List ℕ) (c t : Plain) (x y : Opened) → IsAbove c x → IsAbove t y → live (graft k p c t) (inside k p x y) ≡ true →
        live c x ≡ true
    live-inside_left k p c t x y l m h =
        let d = degree-inside ty k p x y in
        let e = low_inside ty k p c t in
        let g = live-is_live ty b (graft k p c t) (inside k p x y).part h in
        is_live-live ty b c x.part (omega (arith, ints, l, m, d, e, g))

    live-inside_right : (k : ℕ) (p : List ℕ) (c t : Plain) (x y : Opened) → IsAbove c x → IsAbove t y → live (graft k p c t) (inside k p x y) ≡ true →
        live t y ≡ true
    live-inside_right k p c t x y l m h =
        let d = degree-inside ty k p x y in
        let e = low_inside ty k p c t in
        let g = live-is_live ty b (graft k p c t) (inside k p x y).part h in
        is_live-live ty b t y.part (omega (arith, ints, l, m, d, e, g))

    live-outside : (s : List ℕ) (k : ℕ) (p : List ℕ) (c t : Plain) (z : Extracted) (y : Opened) → IsAbove t y →
        live (graft k p c t) (outside s k p z y) ≡ true → live t y ≡ true
    live-outside s k p c t z y m h =
        let d = degree_raised ty s y.part in
        let e = low_outside ty k p c t in
        let g = live-is_live ty b (graft k p c t) (outside s k p z y).part h in
        is_live-live ty b t y.part (omega (arith, ints, m, d, e, g))

    dead-outside : (s : List ℕ) (k : ℕ) (p : List ℕ) (c t : Plain) (z : Extracted) (y : Opened) → b < size_in_units ty s → IsAbove t y →
        live (graft k p c t) (outside s k p z y) ≡ false
    dead-outside s k p c t z y big m =
        let d = degree_raised ty s y.part in
        let e = low_outside ty k p c t in
        is_live-dead ty b (graft k p c t) (outside s k p z y).part (omega (arith, ints, m, d, e, big))

    -- lists that stand for the tables of c and of t
    module _ (n : ℕ) (k : ℕ) (p : List ℕ) (c t : Plain) where
      abbrev w : List ℕ
      w = each_direction ty.dims n

      abbrev xs : List (Opened × ℕ)
      xs = (extraction_tables ty w c).touched

      abbrev ys : List (Opened × ℕ)
      ys = (extraction_tables ty w t).touched

      abbrev zs : List (Extracted × ℕ)
      zs = closed_terms ty (extraction_tables ty w c)

      abbrev kept : List (Opened × ℕ) → List (Opened × ℕ)
      kept es = live_terms ty b (graft k p c t) es

      abbrev here : Opened → Bool
      here = live (graft k p c t)

      abbrev inner : List (Opened × ℕ) → List (Opened × ℕ) → List (Opened × ℕ)
      inner us vs = products inside_factor (inside k p) us vs

      abbrev outer : List (Extracted × ℕ) → List (Opened × ℕ) → List ℕ → List (Opened × ℕ)
      outer us vs s = products (outside_factor s) (outside s k p) us vs

      inner_live : (us vs : List (Opened × ℕ)) → AreSameOpened us (live_terms ty b c xs) → AreSameOpened vs (live_terms ty b t ys) →
          AreSameOpened (kept (inner us vs)) (kept (inner xs ys))
      inner_live us vs h g = λ key.
          let us_live = live_terms ty b c xs in
          let vs_live = live_terms ty b t ys in
          let same = products_same_saturated (same_by opened_order) exact_opened (same_by opened_order) exact_opened (same_by opened_order) inside_factor
          (inside k p) us us_live vs vs_live h g in
          let right = products_right inside_factor (inside k p) here (IsAbove t) (IsAbove c) (live t) (live-inside_right k p c t) xs ys (all_above w c)
          (all_above w t) in
          let left = products_left inside_factor (inside k p) here (IsAbove t) (IsAbove c) (live c) (live-inside_left k p c t) xs vs_live (all_above w c)
          (all_filter (λ (e : Opened × ℕ). IsAbove t e.0) (λ e. live t e.0) ys (all_above w t)) in
          same_filtered (same_by opened_order) exact_opened here (inner us vs) (inner us_live vs_live) same key
          ∙ ap (λ es. saturated (sum_at (same_by opened_order) key es)) (sym (right ∙ left))

      outer_live : (us : List (Extracted × ℕ)) (vs : List (Opened × ℕ)) → AreSameExtracted us zs → AreSameOpened vs (live_terms ty b t ys) → (s : List ℕ) →
          AreSameOpened (kept (outer us vs s)) (kept (outer zs ys s))
      outer_live us vs h g s = λ key.
          let vs_live = live_terms ty b t ys in
          let same = products_same_saturated (same_by extracted_order) exact_extracted (same_by opened_order) exact_opened (same_by opened_order)
          (outside_factor s) (outside s k p) us zs vs vs_live h g in
          let right = products_right (outside_factor s) (outside s k p) here (IsAbove t) (λ z. Unit {0}) (live t) (λ z y u m l. live-outside s k p c t z y m l)
          zs ys (all_units zs) (all_above w t) in
          same_filtered (same_by opened_order) exact_opened here (outer us vs s) (outer zs vs_live s) same key
          ∙ ap (λ es. saturated (sum_at (same_by opened_order) key es)) (sym right)

      outer_dead : (s : List ℕ) → b < size_in_units ty s → kept (outer zs ys s) ≡ []
      outer_dead s big = products_none (outside_factor s) (outside s k p) here (IsAbove t) (λ z y m. dead-outside s k p c t z y big m) zs ys (all_above w t)

      -- shifts beyond m give nothing live
      outer_within : IsScaling ty.dims ty.scaling → (m : ℕ) → m ≤ n → b < unsigned_abs ty.units.den * suc m →
          AreSameOpened (kept (flat_map (outer zs ys) (shifts w p))) (kept (flat_map (outer zs ys) (shifts (each_direction ty.dims m) p)))
      outer_within scaling m most enough = λ key.
          let same = same_by opened_order in
          let value : List ℕ → ℕ = λ s. sum_at same key (kept (outer zs ys s)) in
          let summed : (ss : List (List ℕ)) → sum_at same key (kept (flat_map (outer zs ys) ss)) ≡ total value ss =
          λ ss. ap (sum_at same key) (filter-flat_map (λ (e : Opened × ℕ). here e.0) (outer zs ys) ss)
          ∙ sum_at-flat_map same key (λ s. kept (outer zs ys s)) ss in
          let none : (s : List ℕ) → IsBeyond m ty.dims s → value s ≡ 0 =
          λ s beyond. let size = size_beyond ty scaling m s beyond in ap (sum_at same key) (outer_dead s (omega (arith, size, enough))) in
          let e : m + (n - m) ≡ n = omega (arith, most) in
          let bound = ap (λ (i : ℕ). total value (shifts (each_direction ty.dims i) p)) (sym e) ∙ shifts_none ty.dims m (n - m) p value none in
          ap saturated (summed (shifts w p) ∙ bound ∙ sym (summed (shifts (each_direction ty.dims m) p)))

      pub touched_step : IsScaling ty.dims ty.scaling → (m : ℕ) → m ≤ n → b < unsigned_abs ty.units.den * suc m →
          (us vs : List (Opened × ℕ)) (rs : List (Extracted × ℕ)) →
          IsLiveTable ty n b c us → AreSameExtracted rs zs → IsLiveTable ty n b t vs →
          IsLiveTable ty n b (graft k p c t) (kept (inner us vs ++ flat_map (outer rs vs) (shifts (each_direction ty.dims m) p)))
      touched_step scaling m most enough us vs rs h r g = λ key.
          let same = same_by opened_order in
          let some = shifts (each_direction ty.dims m) p in
          let all = shifts w p in
          let here_term : Opened × ℕ → Bool = λ e. here e.0 in
          let rows = same_flat_map same (λ s. kept (outer rs vs s)) (λ s. kept (outer zs ys s)) (outer_live rs vs r g) some in
          let parted = same_append same (kept (inner us vs)) (kept (inner xs ys)) (flat_map (λ s. kept (outer rs vs s)) some)
          (flat_map (λ s. kept (outer zs ys s)) some) (inner_live us vs h g) rows in
          let within = same_append same (kept (inner xs ys)) (kept (inner xs ys)) (kept (flat_map (outer zs ys) all)) (kept (flat_map (outer zs ys) some))
          (λ i. refl) (outer_within scaling m most enough) in
          let at : List (Opened × ℕ) → ℕ = λ es. saturated (sum_at same key es) in
          ap at (filter-append here_term (inner us vs) (flat_map (outer rs vs) some)
          ∙ ap (λ l. kept (inner us vs) ++ l) (filter-flat_map here_term (outer rs vs) some))
          ∙ parted key
          ∙ ap at (ap (λ l. kept (inner xs ys) ++ l) (sym (filter-flat_map here_term (outer zs ys) some)))
          ∙ sym (within key)
          ∙ ap at (sym (filter-append here_term (inner xs ys) (flat_map (outer zs ys) all)))
