-- Closed tables: they depend on no bound, and they are the terms of extraction.
use Rattle.std.proofs.Common.{◌≡◌, ℕ, suc, ◌*◌, ◌<◌, ◌≤◌, ◌/◌, pos, neg_ℤ, ◌≤ℤ◌, Bool, true, false, not, ◌&&◌, List, [], ◌∷◌, filter, refl, sym, ap, subst, ◌∙◌, arith, unsigned_abs}
use Rattle.std.specs.List.{AllByRecursion}
use Rattle.std.specs.List.Sorted.{IsStrictlySortedBy}
use Rattle.exact_sums.specs.Saturating.{overflow, saturated}
use Rattle.exact_sums.specs.Keyed.{same_by, sum_at, HaveSameSums, rekeyed, saturated_terms, collected, keys, IsCollected}
use Rattle.exact_sums.proofs.CollectedLaws.{sum_at-collected}
use Rattle.exact_sums.proofs.KeyedLaws.{products_same_saturated, saturated_sums, collected_unique}
use Rattle.degree_numbers.specs.declared.types.Types.{Types}
use Rattle.degree_numbers.specs.Types.{AreTypes}
use Rattle.plain_trees.specs.Plain.{Plain, graft, root_of}
use Rattle.plain_trees.specs.Degree.{degree_of, planted}
use Rattle.plain_trees.specs.Coproducts.{Extracted, extracted_order, each_direction, negative_size, is_extracted, is_below_zero, extraction_terms}
use Rattle.tree_cuttings.specs.Roots.{has_edge}
use Rattle.tree_cuttings.proofs.Degrees.{below_low}
use Rattle.tree_cuttings.proofs.Orders.{extracted_total, extracted_exact}
use Rattle.tree_cuttings.proofs.Positive.{choose_pos}
use Rattle.tree_cuttings.proofs.Terms.{filter-filter, filter_ext, extraction_ascending, extraction_positive}
use Rattle.tree_cuttings.proofs.Within.{extraction_within}
use Rattle.cutting_sizes.specs.Lows.{lowest}
use Rattle.cutting_sizes.proofs.Lows.{closing_live}
use Rattle.cutting_tables.specs.Keys.{Opened, opened_order, inside_factor, outside_factor, beside, closes, closing}
use Rattle.cutting_tables.specs.Tables.{ExtractionTables, closed_terms, idle_branch, touched_branch}
use Rattle.cutting_tables.specs.Live.{AreSameOpened, AreSameExtracted, is_live, live_terms, tables_within, IsLiveTable}
use Rattle.cutting_tables.proofs.Keyed.{terms_keyed}
use Rattle.cutting_tables.proofs.Steps.{exact_opened, exact_extracted, is_live-live, touched_step}
use Rattle.cutting_tables.proofs.Sums.{same_append, same_filtered, same_rekeyed}

and_second : (a b : Bool) → a && b ≡ true → b ≡ true
and_second true b h = h
and_second false b h = absurd cc

-- what can be closed is live
closes_live : (ty : Types) (b : ℕ) (t : Plain) → neg_ℤ (pos b) ≤ℤ lowest ty t → (x : Opened) → closes ty x ≡ true → is_live ty b t x.part ≡ true
closes_live ty b t enough x h =
    let extracted = and_second (has_edge x.part) (is_extracted ty x.part) h in
    let under = and_second (not (planted ty x.part)) (is_below_zero (degree_of ty x.part)) extracted in
    is_live-live ty b t x.part (closing_live ty b t x.part enough (below_low (degree_of ty x.part) under))

and_implied : (a b : Bool) → (b ≡ true → a ≡ true) → a && b ≡ b
and_implied true b h = refl
and_implied false true h = h refl
and_implied false false h = refl

pub idle_step : (ty : Types) (n : ℕ) (k : ℕ) (p : List ℕ) (c t : Plain) (rs idle : List (Extracted × ℕ)) →
    AreSameExtracted rs (closed_terms ty (tables_within ty n c)) → AreSameExtracted idle (tables_within ty n t).idle →
    AreSameExtracted (idle_branch k p rs idle) (tables_within ty n (graft k p c t)).idle
idle_step ty n k p c t rs idle h g =
    products_same_saturated (same_by extracted_order) exact_extracted (same_by extracted_order) exact_extracted (same_by extracted_order) (λ x y. 1)
    (beside k p)
    rs (closed_terms ty (tables_within ty n c)) idle (tables_within ty n t).idle h g

module _ (ty : Types) (n b : ℕ) (t : Plain) where
  abbrev full : ExtractionTables
  full = tables_within ty n t

  abbrev closers : List (Opened × ℕ) → List (Opened × ℕ)
  closers xs = filter (λ e. closes ty e.0) xs

  closers_live : neg_ℤ (pos b) ≤ℤ lowest ty t → (xs : List (Opened × ℕ)) → closers (live_terms ty b t xs) ≡ closers xs
  closers_live enough xs =
      let live : Opened × ℕ → Bool = λ e. is_live ty b t e.0.part in
      let close : Opened × ℕ → Bool = λ e. closes ty e.0 in
      filter-filter live close xs ∙ filter_ext (λ e. live e && close e) close (λ e. and_implied (live e) (close e) (closes_live ty b t enough e.0)) xs

  pub closed_step : neg_ℤ (pos b) ≤ℤ lowest ty t → (idle : List (Extracted × ℕ)) (touched : List (Opened × ℕ)) → AreSameExtracted idle full.idle →
      IsLiveTable ty n b t touched →
      AreSameExtracted (closed_terms ty (record { idle = idle; touched = touched })) (closed_terms ty full)
  closed_step enough idle touched h g =
      let same = same_filtered (same_by opened_order) exact_opened (closes ty) touched (live_terms ty b t full.touched) g in
      let filtered : AreSameOpened (closers touched) (closers full.touched) =
      λ key. same key ∙ ap (λ es. saturated (sum_at (same_by opened_order) key es)) (closers_live enough full.touched) in
      same_append (same_by extracted_order) idle full.idle (rekeyed closing (closers touched)) (rekeyed closing (closers full.touched)) h
      (same_rekeyed (same_by opened_order) exact_opened (same_by extracted_order) closing (closers touched) (closers full.touched) filtered)

  -- with ample shifts the closed table has the sums of the terms of extraction
  pub closed_terms_are : AreTypes ty → negative_size ty t / unsigned_abs ty.units.den ≤ n →
      HaveSameSums (same_by extracted_order) (closed_terms ty full) (extraction_terms ty t)
  closed_terms_are types most = λ key.
      let w = each_direction ty.dims n in
      sym (sum_at-collected extracted_order extracted_exact key (closed_terms ty full))
      ∙ ap (λ ts. sum_at (same_by extracted_order) key (collected extracted_order ts)) (sym (terms_keyed ty w t))
      ∙ ap (sum_at (same_by extracted_order) key) (sym (extraction_within ty t n types most))

-- values of terms
pub keys-saturated : {K : Type 0} (ts : List (K × ℕ)) → keys (saturated_terms ts) ≡ keys ts
keys-saturated [] = refl
keys-saturated (t ∷ ts) = ap (λ ks. t.0 ∷ ks) (keys-saturated ts)

pub saturated_counted : {K : Type 0} (ts : List (K × ℕ)) → AllByRecursion (λ t. 0 < t.1) ts →
    AllByRecursion (λ t. (0 < t.1) × (t.1 ≤ overflow)) (saturated_terms ts)
saturated_counted [] a = tt
saturated_counted (t ∷ ts) a = let h : 0 < t.1 = a.0 in ((omega (arith, h), omega arith), saturated_counted ts a.1)

pub extraction_table_terms : (ty : Types) (n : ℕ) (t : Plain) (zs : List (Extracted × ℕ)) → AreTypes ty → negative_size ty t / unsigned_abs ty.units.den ≤ n →
    AreSameExtracted zs (closed_terms ty (tables_within ty n t)) → IsCollected extracted_order zs → zs ≡ saturated_terms (extraction_terms ty t)
extraction_table_terms ty n t zs types most h c =
    let ts = extraction_terms ty t in
    collected_unique extracted_order extracted_total (same_by extracted_order) exact_extracted (λ x y. refl) zs (saturated_terms ts) c.ascending
    (subst (IsStrictlySortedBy extracted_order) (sym (keys-saturated ts)) (extraction_ascending ty t)) c.above (saturated_counted ts (extraction_positive ty t))
    (λ key. h key ∙ ap saturated (closed_terms_are ty n 0 t types most key) ∙ sym (saturated_sums (same_by extracted_order) ts key))

pub touched_step_types : (ty : Types) (n m b : ℕ) (k : ℕ) (p : List ℕ) (c t : Plain) (above touched : List (Opened × ℕ)) (closed : List (Extracted × ℕ)) →
    AreTypes ty → m ≤ n → b < unsigned_abs ty.units.den * suc m →
    IsLiveTable ty n b c above → AreSameExtracted closed (closed_terms ty (tables_within ty n c)) → IsLiveTable ty n b t touched →
    IsLiveTable ty n b (graft k p c t) (live_terms ty b (graft k p c t) (touched_branch (each_direction ty.dims m) k p above closed touched))
touched_step_types ty n m b k p c t above touched closed types most enough h r g =
    touched_step ty b n k p c t types.scaling m most enough above touched closed h r g

pub inside_above : (x y : Opened) → 0 < inside_factor x y
inside_above x y = choose_pos (root_of x.quotient) (root_of y.quotient)

pub outside_above : (s : List ℕ) (x : Extracted) (y : Opened) → 0 < outside_factor s x y
outside_above s x y = choose_pos s (root_of y.part)
