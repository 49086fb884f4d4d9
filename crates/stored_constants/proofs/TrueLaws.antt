-- What rows that are true hold, and the rows of what is computed over them.
use Rattle.std.proofs.Common.{◌≡◌, ◌<◌, ◌≤◌, ◌⊎◌, inl, inr, ℕ, pos, unsigned_abs, Bool, true, false, cond, List, [], ◌∷◌, is_none, Option, Some, None, refl, sym, ap, subst, ◌∙◌, arith, lt_of_not-le}
use Rattle.std.specs.List.{AllByRecursion, AllZip}
use Rattle.std.specs.FinMap.{find}
use Rattle.std.specs.Ordering.{eq_by_cmp, is_eq}
use Rattle.std.specs.Cmp.{Equal-is}
use Rattle.std.proofs.lemmas.Option.{same_Some}
use Rattle.limits.specs.declared.TheConstants.{MOST_LISTED_DECORATIONS}
use Rattle.exact_sums.specs.Saturating.{overflow}
use Rattle.ordered_lists.specs.Members.{IsIn}
use Rattle.degree_numbers.specs.declared.types.Types.{Types}
use Rattle.degree_numbers.specs.Types.{AreTypes}
use Rattle.equations.specs.declared.equation.Equation.{Equation}
use Rattle.plain_trees.specs.Plain.{Plain, tree_order}
use Rattle.plain_trees.specs.Degree.{HasTypes}
use Rattle.plain_trees.specs.Coproducts.{extraction_terms}
use Rattle.plain_trees.specs.Reading.{IsTreeOf}
use Rattle.plain_trees.specs.Text.{tree_text}
use Rattle.plain_trees.proofs.Readings as readings
use Rattle.symbol_polys.specs.Polynomials.{PlainTerm, HaveSameCoefficients}
use Rattle.antipode_laws.specs.Weighed.{Weighed}
use Rattle.antipode_laws.specs.Antipode.{are_in_range, nothing}
use Rattle.antipode_laws.specs.Constants.{expected, IsConstants}
use Rattle.antipode_laws.specs.Sameness.{AreSameValues, IsSameHeld, IsHeldValue}
use Rattle.antipode_laws.proofs.OtherTerms.{member_of}
use Rattle.antipode_laws.proofs.SameValues.{same_back, same_both, same_solutions}
use Rattle.antipode_laws.proofs.Solutions.{unique, solution, is_solution}
use Rattle.twisted_antipode.proofs.KnownLaws.{exact}
use Rattle.counterterm_report.specs.declared.values.TreeValues.{TreeValues}
use Rattle.counterterm_report.proofs.StoredValues.{value_exact}
use Rattle.tree_values.specs.Values.{AreValuesOf}
use Rattle.result_keeper.specs.Kept.{bytes_cmp}
use Rattle.result_keeper.proofs.Orders.{bytes_exact}
use Rattle.stored_constants.specs.Rows.{row_for, IsValueText, IsHeldRow, AreHeldRows, IsRowOf, AreNewRows, lacking}
use Rattle.stored_constants.specs.Sound.{IsTrueFor, IsTrueRow, AreFitTrees}
use Rattle.stored_constants.proofs.HoldLaws.{none_there}

abbrev Rows : Type 0
Rows = List (List ℕ × List ℕ)

-- what is found stands there
find_in : (q : List ℕ) (es : Rows) (v : List ℕ) → find bytes_cmp q es ≡ Some v → IsIn (q, v) es
find_in q [] v e = absurd cc
find_in q (x ∷ es) v e =
    (elim (eq_by_cmp bytes_cmp q x.0) as (λ b. eq_by_cmp bytes_cmp q x.0 ≡ b → cond b (Some x.1) (find bytes_cmp q es) ≡ Some v → IsIn (q, v) (x ∷ es)) [
      | true ↦ λ t f.
          let key : x.0 ≡ q = sym (bytes_exact q x.0 ((Equal-is (bytes_cmp q x.0)).0 t)) in
          let value : x.1 ≡ v = same_Some x.1 v f in
          inl (λ i. (key i, value i))
      | false ↦ λ t f. inr (find_in q es v f)
    ]) refl e

-- whether a tree is among trees
among : (t : Plain) (ts : List Plain) → IsIn t ts ⊎ (IsIn t ts → ⊥)
among t [] = inr (λ i. i)
among t (s ∷ ts) =
    (elim (is_eq (tree_order s t)) as (λ b. is_eq (tree_order s t) ≡ b → IsIn t (s ∷ ts) ⊎ (IsIn t (s ∷ ts) → ⊥)) [
      | true ↦ λ e. inl (inl (exact.only s t e))
      | false ↦ λ e. elim (among t ts) [
        | inl i ↦ inl (inr i)
        | inr out ↦ inr (λ i. elim i [
          | inl same ↦ (let yes : is_eq (tree_order s t) ≡ true = subst (λ (u : Plain). is_eq (tree_order s u) ≡ true) same (exact.always s) in let both : true ≡ false = sym yes ∙ e in absurd cc)
          | inr j ↦ out j
        ])
      ]
    ]) refl

-- the row of a tree is that of no other tree
row_true : (ty : Types) (rows : Rows) (t : Plain) (value : List ℕ) → AreTypes ty →
    AllByRecursion (IsTrueRow ty) rows → IsTreeOf ty MOST_LISTED_DECORATIONS (tree_text ty t) t →
    row_for ty rows t ≡ Some value → IsTrueFor ty t value
row_true ty rows t value types all fit row =
    let r = member_of (IsTrueRow ty) rows (tree_text ty t, value) all (find_in (tree_text ty t) rows value row) in
    subst (λ (s : Plain). IsTrueFor ty s value) (readings.unique ty types MOST_LISTED_DECORATIONS (omega arith) (tree_text ty t) r.tree t r.text fit) r.is_true

-- what a row that is true holds is the constant of its tree
true_held : (ty : Types) (t : Plain) (value : List ℕ) (w : Weighed) (c : Plain → Weighed) →
    AreTypes ty → HasTypes ty t → IsTrueFor ty t value → IsValueText ty w value →
    IsConstants ty nothing c → AreSameValues w (c t)
true_held ty t value w c types typed is_true text constants =
    let other = is_true.text in
    let same = value_exact ty (pos w.mass) (pos other.0.mass) w.terms other.0.terms types text.is_value other.2.is_value (text.text ∙ sym other.2.text) in
    let mass : w.mass ≡ other.0.mass = ap unsigned_abs same.0 in
    let here : AreSameValues w (is_true.constants t) = record {
      coefficients = subst (λ (us : List PlainTerm). HaveSameCoefficients us (is_true.constants t).terms) (sym same.1) other.1.coefficients;
      mass = mass ∙ other.1.mass;
    } in
    subst (AreSameValues w) (unique ty (expected ty) nothing is_true.constants c is_true.are_constants constants t typed) here

module _ (ty : Types) (rows : Rows) (ts : List Plain) (held : Plain → Option Weighed) (types : AreTypes ty) (all : AllByRecursion (IsTrueRow ty) rows) (fit : AreFitTrees ty ts) (are_held : AreHeldRows ty rows ts held) where
  module _ (c : Plain → Weighed) (constants : IsConstants ty nothing c) where
    listed_value : (t : Plain) (w : Weighed) (row : Option (List ℕ)) → HasTypes ty t → IsIn t ts → row_for ty rows t ≡ row → IsHeldRow ty row (Some w) → AreSameValues w (c t)
    listed_value t w None typed i row h = absurd cc
    listed_value t w (Some value) typed i row h =
        let same : w ≡ h.0 = same_Some w h.0 h.1 in
        let is_true = row_true ty rows t value types all (member_of (λ (s : Plain). IsTreeOf ty MOST_LISTED_DECORATIONS (tree_text ty s) s) ts t fit i) row in
        subst (λ (u : Weighed). AreSameValues u (c t)) (sym same) (true_held ty t value h.0 c types typed is_true h.2 constants)

    held_value : (t : Plain) (w : Weighed) → HasTypes ty t → held t ≡ Some w → AreSameValues w (c t)
    held_value t w typed e =
        elim (among t ts) [
          | inl i ↦ listed_value t w (row_for ty rows t) typed i refl (subst (IsHeldRow ty (row_for ty rows t)) e (are_held.listed t i))
          | inr out ↦ (let both : Some w ≡ None = sym e ∙ are_held.others t out in absurd cc)
        ]

    extends : (t : Plain) (h : Option Weighed) → HasTypes ty t → held t ≡ h → IsSameHeld None h ⊎ IsHeldValue h (c t)
    extends t None typed e = inl tt
    extends t (Some w) typed e = inr (held_value t w typed e)

    pub constants_same : (k : Plain → Weighed) → IsConstants ty held k → (t : Plain) → HasTypes ty t → AreSameValues (c t) (k t)
    constants_same k also t typed = same_solutions c k (expected ty) ty nothing held constants also (λ s of_types. extends s (held s) of_types refl) t typed

-- the new rows
module _ (eq : Equation) (rows : Rows) (held : Plain → Option Weighed) (k c : Plain → Weighed) (constants : IsConstants eq.types nothing c) (same : (t : Plain) → HasTypes eq.types t → AreSameValues (c t) (k t)) where
  one_true : (t : Plain) (row : List ℕ × List ℕ) →
      IsTreeOf eq.types MOST_LISTED_DECORATIONS (tree_text eq.types t) t →
      (are_in_range (extraction_terms eq.types t) ≡ false → ⊥) → (overflow ≤ (k t).mass → ⊥) →
      IsRowOf eq.types k t row → IsTrueRow eq.types row
  one_true t row fit range mass is =
      let value = is.value in
      let alike = same t fit.types in
      let small : (k t).mass < overflow = lt_of_not-le mass in
      record {
        tree = t;
        text = subst (λ (text : List ℕ). IsTreeOf eq.types MOST_LISTED_DECORATIONS text t) (sym is.tree) fit;
        is_true = record {
          coefficients = in_range (are_in_range (extraction_terms eq.types t)) refl;
          constants = c;
          are_constants = constants;
          mass = subst (λ (n : ℕ). n < overflow) (sym alike.mass) small;
          text = (value.0, same_both value.0 (k t) (c t) value.1 (same_back (c t) (k t) alike), value.2);
        };
      }
    where
      in_range : (b : Bool) → are_in_range (extraction_terms eq.types t) ≡ b → b ≡ true
      in_range true e = refl
      in_range false e = absurd (range e)

  new_true_by : (ts : List Plain) (vs : List TreeValues) (new : Rows) → AreFitTrees eq.types ts →
      ((t : Plain) → IsIn t ts → row_for eq.types rows t ≡ None → held t ≡ None) →
      AreValuesOf eq held k ts vs →
      AreNewRows eq.types rows k ts new → AllByRecursion (IsTrueRow eq.types) new
  new_true_by [] [] [] fit unheld h rest = tt
  new_true_by [] [] (r ∷ new) fit unheld h rest = absurd rest
  new_true_by [] (v ∷ vs) new fit unheld h rest = absurd h
  new_true_by (t ∷ ts) [] new fit unheld h rest = absurd h
  new_true_by (t ∷ ts) (v ∷ vs) new fit unheld h rest =
      by_row (row_for eq.types rows t) refl new rest (λ us zip. new_true_by ts vs us fit.1 (λ s i. unheld s (inr i)) h.2 zip)
    where
      by_row : (o : Option (List ℕ)) → row_for eq.types rows t ≡ o → (us : Rows) → AllZip (IsRowOf eq.types k) (cond (is_none o) (t ∷ lacking eq.types rows ts) (lacking eq.types rows ts)) us →
          ((ws : Rows) → AreNewRows eq.types rows k ts ws → AllByRecursion (IsTrueRow eq.types) ws) → AllByRecursion (IsTrueRow eq.types) us
      by_row None e [] zip more = absurd zip
      by_row None e (r ∷ us) zip more =
          let none = unheld t (inl refl) e in
          (one_true t r fit.0 (λ out. h.0.0 (none, out)) (λ large. h.0.1.0 (none, large)) zip.0, more us zip.1)
      by_row (Some x) e us zip more = more us zip

pub new_true : (eq : Equation) (rows new : Rows) (ts : List Plain) (held : Plain → Option Weighed) (k : Plain → Weighed) (vs : List TreeValues) →
    AreTypes eq.types → AllByRecursion (IsTrueRow eq.types) rows →
    AreFitTrees eq.types ts → AreHeldRows eq.types rows ts held → IsConstants eq.types held k → AreValuesOf eq held k ts vs → AreNewRows eq.types rows k ts new → AllByRecursion (IsTrueRow eq.types) new
new_true eq rows new ts held k vs types all fit are_held also h rest =
    let c = solution eq.types (expected eq.types) nothing in
    let constants = is_solution eq.types (expected eq.types) nothing in
    new_true_by eq rows held k c constants (constants_same eq.types rows ts held types all fit are_held c constants k also) ts vs new fit (λ t i none. none_there eq.types rows ts held t are_held none) h rest
