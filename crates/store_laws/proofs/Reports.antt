-- Reports over rows that are true are those over nothing.
use Rattle.std.proofs.Common.{◌≡◌, ◌<◌, ◌≤◌, ◌+◌, ◌⊎◌, inl, inr, ℕ, suc, pos, Bool, true, false, cond, List, [], ◌∷◌, filter, length, is_some, is_none, Option, Some, None, Result, Ok, Err, refl, sym, ap, subst, ◌∙◌, arith}
use Rattle.std.specs.List.{AllByRecursion}
use Rattle.limits.specs.declared.TheConstants.{MOST_LISTED_DECORATIONS}
use Rattle.ordered_lists.specs.Members.{IsIn}
use Rattle.exact_sums.specs.Saturating.{overflow}
use Rattle.degree_numbers.specs.declared.types.Types.{Types}
use Rattle.degree_numbers.specs.Types.{AreTypes}
use Rattle.plain_trees.specs.Plain.{Plain}
use Rattle.plain_trees.specs.Coproducts.{extraction_terms}
use Rattle.plain_trees.specs.Degree.{HasTypes}
use Rattle.plain_trees.specs.Reading.{IsTreeOf}
use Rattle.plain_trees.specs.Text.{tree_text}
use Rattle.plain_trees.proofs.Readings as readings
use Rattle.antipode_laws.specs.Weighed.{Weighed}
use Rattle.antipode_laws.specs.Antipode.{are_in_range, nothing}
use Rattle.antipode_laws.specs.Constants.{expected, IsConstants}
use Rattle.antipode_laws.specs.Sameness.{AreSameValues}
use Rattle.antipode_laws.proofs.OtherTerms.{member_of}
use Rattle.antipode_laws.proofs.Solutions.{unique, solution, is_solution}
use Rattle.twisted_antipode.specs.Values.{IsPolyOf}
use Rattle.counterterm_report.specs.declared.values.TreeValues.{TreeValues}
use Rattle.symbol_polys.specs.declared.poly.Poly.{Poly}
use Rattle.tree_values.specs.declared.quantity.Quantity.{Quantity}
use Rattle.tree_values.specs.declared.quantity.Quantity.TheVariants.{Extraction, Recentring, Antipode, Constant, Differential, Denominator}
use Rattle.tree_values.specs.Quantities.{quantities}
use Rattle.tree_values.specs.Ranges.{IsPast, IsFirstOf, AreInRange, IsInRange, IsFirstRefused}
use Rattle.tree_values.specs.Values.{IsValuesOf, AreValuesOf}
use Rattle.result_keeper.specs.Kept.{bytes_cmp}
use Rattle.result_keeper.proofs.Orders.{bytes_exact}
use Rattle.stored_constants.specs.Rows.{row_for, IsHeldRow, AreHeldRows, IsNoValueRow, IsFirstNoValue}
use Rattle.stored_constants.specs.Sound.{IsTrueFor, IsTrueRow, AreFitTrees}
use Rattle.stored_constants.proofs.TrueLaws.{constants_same}
use Rattle.stored_constants.proofs.ValueLaws.{no_value}
use Rattle.workbench_core.specs.declared.refusal.Refusal.{Refusal}
use Rattle.workbench_core.specs.Completed.{CompletedRule}
use Rattle.workbench_core.specs.Compute.{HasValues, IsPastIn, Computing, IsReport, WritesReport}
use Rattle.store_laws.proofs.Completions.{HasFacts}
use Rattle.store_laws.proofs.Fit.{listed_fit}
use Rattle.store_laws.proofs.Maps.{found_in}

abbrev pub Rows : Type 0
Rows = List (List ℕ × List ℕ)

-- quantities out of range by one test or another
module _ (past other : Quantity → Type 0) (so : (q : Quantity) → past q → other q)
    (back : (q : Quantity) → other q → past q) where
  in_range_so : (qs : List Quantity) → AreInRange past qs → AreInRange other qs
  in_range_so [] h = tt
  in_range_so (q ∷ qs) h = ((λ out. h.0 (back q out)), in_range_so qs h.1)

  first_so : (qs : List Quantity) (q : Quantity) → IsFirstOf past qs q → IsFirstOf other qs q
  first_so [] q h = h
  first_so (p ∷ ps) q (inl h) = inl (h.0, so p h.1)
  first_so (p ∷ ps) q (inr h) = inr ((λ out. h.0 (back p out)), first_so ps q h.1)

-- how many trees are held
module _ (held : Plain → Option Weighed) where
  pub count_all : (ts : List Plain) → length (filter (λ t. is_some (held t)) ts)
      + length (filter (λ t. is_none (held t)) ts) ≡ length (filter (λ t. is_none (nothing t)) ts)
  count_all [] = refl
  count_all (t ∷ ts) =
      let some = filter (λ s. is_some (held s)) ts in
      let none = filter (λ s. is_none (held s)) ts in
      let all = filter (λ s. is_none (nothing s)) ts in
      let rest : length some + length none ≡ length all = count_all ts in
      elim (held t) as (λ (o : Option Weighed). length (cond (is_some o) (t ∷ some) some)
      + length (cond (is_none o) (t ∷ none) none) ≡ suc (length all)) [
        | None ↦ omega (arith, rest)
        | Some w ↦ omega (arith, rest)
      ]

pub none_held : (ts : List Plain) → length (filter (λ t. is_some (nothing t)) ts) ≡ 0
none_held [] = refl
none_held (t ∷ ts) = none_held ts

abbrev pub computing_anew : Computing → Computing
computing_anew g =
    record { report = g.report; reused = 0; computed = g.reused + g.computed }

-- the row of a tree that can be read back is true for it
pub row_true : (ty : Types) (rows : Rows) (t : Plain) (value : List ℕ) → AreTypes ty →
    AllByRecursion (IsTrueRow ty) rows → IsTreeOf ty MOST_LISTED_DECORATIONS (tree_text ty t) t →
    row_for ty rows t ≡ Some value → IsTrueFor ty t value
row_true ty rows t value types all fit row =
    let r = found_in bytes_cmp bytes_exact (IsTrueRow ty) rows (tree_text ty t) value all row in
    subst (λ (s : Plain). IsTrueFor ty s value)
    (readings.unique ty types MOST_LISTED_DECORATIONS (omega arith) (tree_text ty t) r.tree t r.text fit)
    r.is_true

-- no row that is true has no value
pub all_values : (ty : Types) (rows : Rows) (ts : List Plain) (t : Plain) →
    AllByRecursion (IsTrueRow ty) rows → IsFirstNoValue ty rows ts t → ⊥
all_values ty rows [] t all h = h
all_values ty rows (s ∷ ts) t all (inl h) = by_row (row_for ty rows s) refl h.1
  where
    by_row : (row : Option (List ℕ)) → row_for ty rows s ≡ row → IsNoValueRow ty row → ⊥
    by_row None is none = none
    by_row (Some value) is none =
        let r = found_in bytes_cmp bytes_exact (IsTrueRow ty) rows (tree_text ty s) value all is in
        let text = r.is_true.text in
        no_value ty value text.0 none text.2
all_values ty rows (s ∷ ts) t all (inr h) = all_values ty rows ts t all h.1

module _ (c : CompletedRule) (facts : HasFacts c) (rows : Rows) (held : Plain → Option Weighed)
    (k : Plain → Weighed) (all : AllByRecursion (IsTrueRow c.eq.types) rows)
    (are : AreHeldRows c.eq.types rows c.trees held) (also : IsConstants c.eq.types held k) where
  abbrev ty : Types
  ty = c.eq.types

  pub fit : AreFitTrees ty c.trees
  fit = listed_fit c.eq c.rule facts.listable.fit c.trees facts.whole.listed

  pub anew : Plain → Weighed
  anew = solution ty (expected ty) nothing

  pub are_anew : IsConstants ty nothing anew
  unfolding anew
  are_anew = is_solution ty (expected ty) nothing

  fit_at : (t : Plain) → IsIn t c.trees →
      IsTreeOf ty MOST_LISTED_DECORATIONS (tree_text ty t) t
  fit_at t i = member_of (λ (s : Plain). IsTreeOf ty MOST_LISTED_DECORATIONS (tree_text ty s) s)
      c.trees t fit i

  same : (t : Plain) → IsIn t c.trees → AreSameValues (anew t) (k t)
  same t i = constants_same ty rows c.trees held facts.equation.types all fit are anew are_anew k
      also t (fit_at t i).types

  -- what is held is in range
  held_true : (t : Plain) (w : Weighed) → IsIn t c.trees → held t ≡ Some w →
      (value : List ℕ) × IsTrueFor ty t value
  held_true t w i is = by_row (row_for ty rows t) refl (are.listed t i)
    where
      by_row : (row : Option (List ℕ)) → row_for ty rows t ≡ row → IsHeldRow ty row (held t) →
          (value : List ℕ) × IsTrueFor ty t value
      by_row None e none = (let both : Some w ≡ None = sym is ∙ none in absurd cc)
      by_row (Some value) e some =
          (value, row_true ty rows t value facts.equation.types all (fit_at t i) e)

  unheld : (t : Plain) → ((w : Weighed) → held t ≡ Some w → ⊥) → held t ≡ None
  unheld t never =
      (elim (held t) as (λ (o : Option Weighed). held t ≡ o → o ≡ None) [
        | None ↦ λ e. refl
        | Some w ↦ λ e. absurd (never w e)
      ]) refl

  coefficients_past : (t : Plain) → IsIn t c.trees →
      are_in_range (extraction_terms ty t) ≡ false → held t ≡ None
  coefficients_past t i out = unheld t (λ w e.
      let both : true ≡ false = sym (held_true t w i e).1.coefficients ∙ out in cc)

  mass_past : (t : Plain) → IsIn t c.trees → overflow ≤ (anew t).mass → held t ≡ None
  mass_past t i out = unheld t (λ w e.
      let h = (held_true t w i e).1 in
      let one : h.constants t ≡ anew t = unique ty (expected ty) nothing h.constants anew
      h.are_constants are_anew t (fit_at t i).types in
      let within : (anew t).mass < overflow =
      subst (λ (u : Weighed). u.mass < overflow) one h.mass in
      omega (arith, within, out))

  -- the same quantities are out of range
  past_so : (t : Plain) → IsIn t c.trees → (q : Quantity) → IsPast c.eq held k t q →
      IsPast c.eq nothing anew t q
  past_so t i Extraction h = (refl, h.1)
  past_so t i Recentring h = h
  past_so t i Antipode h = h
  past_so t i Constant h =
      (refl, subst (λ (n : ℕ). overflow ≤ n) (sym (same t i).mass) h.1)
  past_so t i (Differential kernel) h = h
  past_so t i (Denominator kernel) h = h

  past_back : (t : Plain) → IsIn t c.trees → (q : Quantity) → IsPast c.eq nothing anew t q →
      IsPast c.eq held k t q
  past_back t i Extraction h = (coefficients_past t i h.1, h.1)
  past_back t i Recentring h = h
  past_back t i Antipode h = h
  past_back t i Constant h =
      (mass_past t i h.1, subst (λ (n : ℕ). overflow ≤ n) (same t i).mass h.1)
  past_back t i (Differential kernel) h = h
  past_back t i (Denominator kernel) h = h

  range_so : (t : Plain) → IsIn t c.trees → IsInRange c.eq held k t → IsInRange c.eq nothing anew t
  range_so t i h = in_range_so (IsPast c.eq held k t) (IsPast c.eq nothing anew t) (past_so t i)
      (past_back t i) (quantities c.eq) h

  refused_so : (ts : List Plain) → ((t : Plain) → IsIn t ts → IsIn t c.trees) →
      (t : Plain) (q : Quantity) → IsFirstRefused c.eq held k ts t q →
      IsFirstRefused c.eq nothing anew ts t q
  refused_so [] among t q h = h
  refused_so (s ∷ ts) among t q (inl h) =
      let i = among s (inl refl) in
      inl (
        h.0,
        first_so (IsPast c.eq held k s) (IsPast c.eq nothing anew s) (past_so s i)
            (past_back s i) (quantities c.eq) q h.1,
      )
  refused_so (s ∷ ts) among t q (inr h) =
      inr (range_so s (among s (inl refl)) h.0, refused_so ts (λ u i. among u (inr i)) t q h.1)

  -- the same values
  poly_so : (t : Plain) (p : Poly) → IsIn t c.trees → IsPolyOf (k t) p → IsPolyOf (anew t) p
  poly_so t p i h = record {
    coefficients = λ m. h.coefficients m ∙ sym ((same t i).coefficients m);
    mass = h.mass ∙ ap pos (sym (same t i).mass);
  }

  value_so : (t : Plain) (v : TreeValues) → IsIn t c.trees → IsValuesOf c.eq k t v →
      IsValuesOf c.eq anew t v
  value_so t v i h = record {
    tree = h.tree;
    degree = h.degree;
    symmetry = h.symmetry;
    polynomial = h.polynomial;
    constant = poly_so t v.constant i h.constant;
    differentials = h.differentials;
  }

  values_so : (ts : List Plain) (vs : List TreeValues) →
      ((t : Plain) → IsIn t ts → IsIn t c.trees) → AreValuesOf c.eq held k ts vs →
      AreValuesOf c.eq nothing anew ts vs
  values_so [] [] among h = h
  values_so [] (v ∷ vs) among h = h
  values_so (t ∷ ts) [] among h = h
  values_so (t ∷ ts) (v ∷ vs) among h =
      let i = among t (inl refl) in
      (range_so t i h.0, value_so t v i h.1, values_so ts vs (λ u j. among u (inr j)) h.2)

  pub report_so : (g : Computing) → IsReport c held k g →
      IsReport c nothing anew (computing_anew g)
  report_so g h = record {
    values = h.values;
    has_values = record {
      base = h.has_values.base;
      completed = h.has_values.completed;
      trees = values_so c.trees h.values.trees (λ t i. i) h.has_values.trees;
    };
    text = h.text;
    reused = sym (none_held c.trees);
    computed = (λ i. h.reused i + h.computed i) ∙ count_all held c.trees;
  }

  pub past_in_so : (e : Refusal) → IsPastIn c.eq held c.trees k e →
      IsPastIn c.eq nothing c.trees anew e
  past_in_so e h = record {
    tree = h.tree;
    quantity = h.quantity;
    first = refused_so c.trees (λ t i. i) h.tree h.quantity h.first;
    is = h.is;
  }
