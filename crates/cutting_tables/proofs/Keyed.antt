-- The tables are the lists of entries, in canonical form.
use Rattle.std.proofs.Common.{◌≡◌, ℕ, ◌*◌, Bool, true, false, cond, not, ◌&&◌, ◌||◌, List, [], ◌∷◌, ◌++◌, map, flat_map, filter, refl, sym, ap, ◌∙◌, arith}
use Rattle.std.specs.List.{AllByRecursion}
use Rattle.std.proofs.lemmas.List.{map-append}
use Rattle.std.proofs.lemmas.List.Elements.{filter-append}
use Rattle.exact_sums.specs.Keyed.{rekeyed, products}
use Rattle.degree_numbers.specs.declared.types.Types.{Types}
use Rattle.degree_numbers.specs.Multi.{plus_of, minus_of}
use Rattle.plain_trees.specs.Plain.{Plain, bare, graft, root_of}
use Rattle.plain_trees.specs.Canon.{canon}
use Rattle.plain_trees.specs.Multinomials.{below, zeros, choose}
use Rattle.plain_trees.specs.Cutting.{shifts}
use Rattle.plain_trees.specs.Coproducts.{Extracted, canon_forest, is_extracted}
use Rattle.tree_cuttings.specs.Roots.{raised, joined, has_edge}
use Rattle.tree_cuttings.specs.Entries.{Entry, forest_of, with_inside, with_outside, pairs, closed_from, good_closed, good_entries}
use Rattle.tree_cuttings.specs.Terms.{extraction_entries_within, extracted_entry}
use Rattle.tree_cuttings.proofs.Images.{has_edge-raised}
use Rattle.tree_cuttings.proofs.Positive.{all_append, all_mapped}
use Rattle.tree_cuttings.proofs.Terms.{filter-filter}
use Rattle.tree_cuttings.proofs.Whole.{plus-zeros, choose-zeros}
use Rattle.cutting_tables.specs.Keys.{Opened, opened, inside, inside_factor, outside, outside_factor, beside, closes, closing}
use Rattle.cutting_tables.specs.Tables.{ExtractionTables, seeds, closed_terms, with_branch, extraction_tables}
use Rattle.cutting_tables.proofs.CanonSteps.{canon-graft, canon-joined, canon-raised, root-canon, has_edge-canon, is_extracted-canon, canon_forest-append}
use Rattle.cutting_tables.proofs.Products.{map-map, map-flat_map, map-pairs, IsProduct}

abbrev pub opened_term : Entry → Opened × ℕ
opened_term e = (opened e, e.coefficient)

abbrev pub idle_term : Entry → Extracted × ℕ
idle_term e = ((canon_forest e.above, canon e.quotient), e.coefficient)

abbrev pub closed_term : Entry → Extracted × ℕ
closed_term e = (extracted_entry e, e.coefficient)

abbrev key_of : List Plain → Plain → Plain → Opened
key_of fs p q = record { above = fs; part = p; quotient = q }

abbrev pair_of : List Plain → Plain → Extracted
pair_of fs q = (fs, q)

pub opened-inside : (k : ℕ) (p : List ℕ) (x y : Entry) → opened (with_inside k p x y) ≡ inside k p (opened x) (opened y)
opened-inside k p x y =
    ap (λ fs. key_of fs (canon (graft k p x.part y.part)) (canon (joined x.quotient y.quotient))) (sym (canon_forest-append x.above y.above))
    ∙ ap (λ t. key_of (canon_forest (canon_forest x.above ++ canon_forest y.above)) t (canon (joined x.quotient y.quotient)))
    (sym (canon-graft k p x.part y.part))
    ∙ ap (key_of (canon_forest (canon_forest x.above ++ canon_forest y.above)) (canon (graft k p (canon x.part) (canon y.part))))
    (sym (canon-joined x.quotient y.quotient))

factor-inside : (x y : Entry) → inside_factor (opened x) (opened y) ≡ choose (plus_of (root_of x.quotient) (root_of y.quotient)) (root_of x.quotient)
factor-inside x y =
    ap (λ m. choose (plus_of m (root_of (canon y.quotient))) m) (root-canon x.quotient)
    ∙ ap (λ m. choose (plus_of (root_of x.quotient) m) (root_of x.quotient)) (root-canon y.quotient)

pub opened-outside : (s : List ℕ) (k : ℕ) (p : List ℕ) (x y : Entry) → opened (with_outside s k p x y) ≡ outside s k p (extracted_entry x) (opened y)
opened-outside s k p x y =
    ap (λ fs. key_of fs (canon (raised s y.part)) (canon (graft k (plus_of p s) x.quotient y.quotient))) (sym (canon_forest-append (forest_of x) y.above))
    ∙ ap (λ t. key_of (canon_forest (canon_forest (forest_of x) ++ canon_forest y.above)) t (canon (graft k (plus_of p s) x.quotient y.quotient)))
    (canon-raised s y.part)
    ∙ ap (key_of (canon_forest (canon_forest (forest_of x) ++ canon_forest y.above)) (raised s (canon y.part)))
    (sym (canon-graft k (plus_of p s) x.quotient y.quotient))

factor-outside : (s : List ℕ) (x y : Entry) → outside_factor s (extracted_entry x) (opened y) ≡ choose (plus_of s (root_of y.part)) s
factor-outside s x y = ap (λ m. choose (plus_of s m) s) (root-canon y.part)

abbrev beside_key : ℕ → List ℕ → Entry → Entry → Extracted
beside_key k p x y = (canon_forest (forest_of x ++ y.above), canon (graft k (plus_of p (zeros p)) x.quotient y.quotient))

idle-beside : (k : ℕ) (p : List ℕ) (x y : Entry) → beside_key k p x y ≡ beside k p (extracted_entry x) (idle_term y).0
idle-beside k p x y =
    ap (λ fs. pair_of fs (canon (graft k (plus_of p (zeros p)) x.quotient y.quotient))) (sym (canon_forest-append (forest_of x) y.above))
    ∙ ap (λ q. pair_of (canon_forest (canon_forest (forest_of x) ++ canon_forest y.above)) (canon (graft k q x.quotient y.quotient))) (plus-zeros p)
    ∙ ap (pair_of (canon_forest (canon_forest (forest_of x) ++ canon_forest y.above))) (sym (canon-graft k p x.quotient y.quotient))

-- a term by its key and its coefficient
abbrev pub term_at : {K : Type 0} → K → ℕ → K × ℕ
term_at k n = (k, n)

pub term_same : {K : Type 0} (k j : K) (n m : ℕ) → k ≡ j → n ≡ m → term_at k n ≡ term_at j m
term_same {K} k j n m h e = ap (λ (i : K). term_at i n) h ∙ ap (term_at j) e

product-inside : (k : ℕ) (p : List ℕ) → IsProduct inside_factor (inside k p) opened_term opened_term opened_term (with_inside k p)
product-inside k p x y =
    let f = factor-inside x y in
    term_same (opened (with_inside k p x y)) (inside k p (opened x) (opened y)) _ _ (opened-inside k p x y)
    (omega (arith, ap (λ (n : ℕ). x.coefficient * (n * y.coefficient)) f))

product-outside : (s : List ℕ) (k : ℕ) (p : List ℕ) → IsProduct (outside_factor s) (outside s k p) closed_term opened_term opened_term (with_outside s k p)
product-outside s k p x y =
    let f = factor-outside s x y in
    term_same (opened (with_outside s k p x y)) (outside s k p (extracted_entry x) (opened y)) _ _ (opened-outside s k p x y)
    (omega (arith, ap (λ (n : ℕ). x.coefficient * (n * y.coefficient)) f))

product-beside : (k : ℕ) (p : List ℕ) → IsProduct (λ a b. 1) (beside k p) closed_term idle_term idle_term (with_outside (zeros p) k p)
product-beside k p x y =
    let f = choose-zeros (plus_of (zeros p) (root_of y.part)) p in
    term_same (beside_key k p x y) (beside k p (extracted_entry x) (idle_term y).0) _ _ (idle-beside k p x y)
    (omega (arith, ap (λ (n : ℕ). x.coefficient * y.coefficient * n) f))

abbrev made : List (Extracted × ℕ) → List (Opened × ℕ) → ExtractionTables
made a b = record { idle = a; touched = b }

module _ (ty : Types) where
  abbrev good : Plain → Bool
  good = is_extracted ty

  abbrev IsIdle : Entry → Type 0
  IsIdle e = has_edge e.part ≡ false

  pairs_idle : (f : Entry → Entry → Entry) → ((x y : Entry) → IsIdle y → IsIdle (f x y)) → (xs ys : List Entry) → AllByRecursion IsIdle ys →
      AllByRecursion IsIdle (pairs f xs ys)
  pairs_idle f h [] ys a = tt
  pairs_idle f h (x ∷ xs) ys a = all_append IsIdle (map (f x) ys) (pairs f xs ys) (all_mapped IsIdle IsIdle (f x) ys (λ y q. h x y q) a)
      (pairs_idle f h xs ys a)

  idle_is : (w : List ℕ) (t : Plain) → AllByRecursion IsIdle (good_entries good w false t)
  idle_is w (bare n) = (refl, tt)
  idle_is w (graft k p c t) = pairs_idle (with_outside (zeros p) k p) (λ x y h. has_edge-raised (zeros p) y.part ∙ h) _ (good_entries good w false t)
      (idle_is w t)

  abbrev root_good : Entry → Bool
  root_good e = not (has_edge e.part) || good e.part

  -- idle entries are kept when components are closed, and add no component
  idle_closed : (es : List Entry) → AllByRecursion IsIdle es → map closed_term (filter root_good es) ≡ map idle_term es
  idle_closed [] a = refl
  idle_closed (e ∷ es) a =
      let keeps = ap (λ (b : Bool). map closed_term (cond (not b || good e.part) (e ∷ filter root_good es) (filter root_good es))) a.0 in
      let same = ap (λ (b : Bool). ((canon_forest (cond b (e.part ∷ e.above) e.above), canon e.quotient), e.coefficient) ∷ map closed_term
      (filter root_good es)) a.0 in
      keeps ∙ same ∙ ap (λ zs. idle_term e ∷ zs) (idle_closed es a.1)

  closes-opened : (e : Entry) → has_edge e.part && root_good e ≡ closes ty (opened e)
  closes-opened e =
      let edge = has_edge-canon e.part in
      let extracted = is_extracted-canon ty e.part in
      (elim (has_edge e.part) as (λ b. b && (not b || good e.part) ≡ b && good e.part) [ true ↦ refl | false ↦ refl ])
      ∙ sym (ap (λ b. b && is_extracted ty (canon e.part)) edge ∙ ap (λ b. has_edge e.part && b) extracted)

  abbrev edged_good : Entry → Bool
  edged_good e = has_edge e.part && root_good e

  touched_closed : (es : List Entry) → map closed_term (filter edged_good es) ≡ rekeyed closing (filter (λ t. closes ty t.0) (map opened_term es))
  touched_closed [] = refl
  touched_closed (e ∷ es) =
      let kept = filter (λ (t : Opened × ℕ). closes ty t.0) (map opened_term es) in
      (elim (has_edge e.part) as (λ b. has_edge e.part ≡ b →
      map closed_term (cond (b && (not b || good e.part)) (e ∷ filter edged_good es) (filter edged_good es))
      ≡ rekeyed closing (cond (b && (not b || good e.part)) (opened_term e ∷ kept) kept)) [
        | true ↦ λ h.
            (elim (good e.part) as (λ d. map closed_term (cond d (e ∷ filter edged_good es) (filter edged_good es))
            ≡ rekeyed closing (cond d (opened_term e ∷ kept) kept)) [
              | true ↦
                  ap (λ (b : Bool). ((canon_forest (cond b (e.part ∷ e.above) e.above), canon e.quotient), e.coefficient) ∷ map closed_term
                  (filter edged_good es)) h
                  ∙ ap (λ zs. (closing (opened e), e.coefficient) ∷ zs) (touched_closed es)
              | false ↦ touched_closed es
            ])
        | false ↦ λ h. touched_closed es
      ]) refl
      ∙ ap (λ (b : Bool). rekeyed closing (cond b (opened_term e ∷ kept) kept)) (closes-opened e)

  pub closed_keyed : (idle touched : List Entry) → AllByRecursion IsIdle idle →
      map closed_term (good_closed good (closed_from idle touched)) ≡ closed_terms ty (record { idle = map idle_term idle; touched = map opened_term touched })
  closed_keyed idle touched a =
      let edged : Entry → Bool = λ e. has_edge e.part in
      ap (map closed_term) (filter-append root_good idle (filter edged touched))
      ∙ map-append closed_term (filter root_good idle) (filter root_good (filter edged touched))
      ∙ ap (λ zs. zs ++ map closed_term (filter root_good (filter edged touched))) (idle_closed idle a)
      ∙ ap (λ zs. map idle_term idle ++ zs) (ap (map closed_term) (filter-filter edged root_good touched) ∙ touched_closed touched)

  abbrev tables_of : List Entry → List Entry → ExtractionTables
  tables_of idle touched = made (map idle_term idle) (map opened_term touched)

  seeds_keyed : (n : List ℕ) →
      map opened_term (map (λ a. record { coefficient = 1; above = []; part = bare a; quotient = bare (minus_of n a) }) (below n)) ≡ seeds n
  seeds_keyed n = map-map opened_term (λ a. record { coefficient = 1; above = []; part = bare a; quotient = bare (minus_of n a) }) (below n)

  branch_keyed : (w : List ℕ) (k : ℕ) (p : List ℕ) (c t : Plain) →
      tables_of (good_entries good w false (graft k p c t)) (good_entries good w true (graft k p c t))
      ≡ with_branch ty w k p (tables_of (good_entries good w false c) (good_entries good w true c))
      (tables_of (good_entries good w false t) (good_entries good w true t))
  branch_keyed w k p c t =
      let xs = good_entries good w true c in
      let ys = good_entries good w true t in
      let vs = good_entries good w false t in
      let zs = good_closed good (closed_from (good_entries good w false c) xs) in
      let us = closed_terms ty (tables_of (good_entries good w false c) xs) in
      let closed : map closed_term zs ≡ us = closed_keyed (good_entries good w false c) xs (idle_is w c) in
      let rows : List ℕ → List Entry = λ s. pairs (with_outside s k p) zs ys in
      let idle =
      map-pairs (λ a b. 1) (beside k p) closed_term idle_term idle_term (with_outside (zeros p) k p) (product-beside k p) zs vs
      ∙ ap (λ l. products (λ a b. 1) (beside k p) l (map idle_term vs)) closed in
      let inner = map-pairs inside_factor (inside k p) opened_term opened_term opened_term (with_inside k p) (product-inside k p) xs ys in
      let outer =
      map-flat_map opened_term rows (λ s. products (outside_factor s) (outside s k p) us (map opened_term ys))
      (λ s. map-pairs (outside_factor s) (outside s k p) closed_term opened_term opened_term (with_outside s k p) (product-outside s k p) zs ys
      ∙ ap (λ l. products (outside_factor s) (outside s k p) l (map opened_term ys)) closed) (shifts w p) in
      let touched =
      map-append opened_term (pairs (with_inside k p) xs ys) (flat_map rows (shifts w p))
      ∙ ap (λ l. l ++ map opened_term (flat_map rows (shifts w p))) inner
      ∙ ap (λ l. products inside_factor (inside k p) (map opened_term xs) (map opened_term ys) ++ l) outer in
      ap (λ l. made l (map opened_term (pairs (with_inside k p) xs ys ++ flat_map rows (shifts w p)))) idle
      ∙ ap (made (products (λ a b. 1) (beside k p) us (map idle_term vs))) touched

  pub tables_keyed : (w : List ℕ) (t : Plain) → tables_of (good_entries good w false t) (good_entries good w true t) ≡ extraction_tables ty w t
  tables_keyed w (bare n) = ap (made ((([], bare n), 1) ∷ [])) (seeds_keyed n)
  tables_keyed w (graft k p c t) = branch_keyed w k p c t
      ∙ ap (λ x. with_branch ty w k p x (tables_of (good_entries good w false t) (good_entries good w true t))) (tables_keyed w c)
      ∙ ap (with_branch ty w k p (extraction_tables ty w c)) (tables_keyed w t)

  pub terms_keyed : (w : List ℕ) (t : Plain) →
      map (λ e. (extracted_entry e, e.coefficient)) (extraction_entries_within w ty t) ≡ closed_terms ty (extraction_tables ty w t)
  terms_keyed w t = closed_keyed (good_entries good w false t) (good_entries good w true t) (idle_is w t) ∙ ap (closed_terms ty) (tables_keyed w t)

pub touched_keyed : (ty : Types) (w : List ℕ) (t : Plain) →
    map (λ e. (opened e, e.coefficient)) (good_entries (is_extracted ty) w true t) ≡ (extraction_tables ty w t).touched
touched_keyed ty w t = ap (λ (x : ExtractionTables). x.touched) (tables_keyed ty w t)
