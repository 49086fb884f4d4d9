-- The first quantity that is out of range is one, and there is none where all are in range.
use Rattle.std.proofs.Common.{◌≡◌, ◌≤◌, List, [], ◌∷◌, inl, inr, refl, sym, ◌∙◌, subst}
use Rattle.exact_sums.specs.Saturating.{overflow}
use Rattle.ordered_lists.specs.Members.{IsIn}
use Rattle.equations.specs.declared.equation.Equation.{Equation}
use Rattle.plain_trees.specs.Plain.{Plain}
use Rattle.antipode_laws.specs.Weighed.{Weighed}
use Rattle.antipode_laws.specs.Antipode.{nothing}
use Rattle.counterterm_report.specs.declared.values.TreeValues.{TreeValues}
use Rattle.tree_values.specs.declared.quantity.Quantity.{Quantity}
use Rattle.tree_values.specs.declared.quantity.Quantity.TheVariants.{Extraction, Recentring, Antipode, Constant, Differential, Denominator}
use Rattle.tree_values.specs.Quantities.{quantities}
use Rattle.tree_values.specs.Ranges.{IsPast, IsFirstOf, AreInRange, IsFirstRefused}
use Rattle.tree_values.specs.Values.{AreValuesOf}

module _ (past : Quantity → Type 0) where
  pub first_one : (qs : List Quantity) (p q : Quantity) → IsFirstOf past qs p → IsFirstOf past qs q → p ≡ q
  first_one [] p q h k = absurd h
  first_one (r ∷ qs) p q (inl h) (inl k) = h.0 ∙ sym k.0
  first_one (r ∷ qs) p q (inl h) (inr k) = absurd (k.0 h.1)
  first_one (r ∷ qs) p q (inr h) (inl k) = absurd (h.0 k.1)
  first_one (r ∷ qs) p q (inr h) (inr k) = first_one qs p q h.1 k.1

  pub none_first : (qs : List Quantity) (q : Quantity) → AreInRange past qs → IsFirstOf past qs q → ⊥
  none_first [] q h k = k
  none_first (r ∷ qs) q h (inl k) = h.0 k.1
  none_first (r ∷ qs) q h (inr k) = none_first qs q h.1 k.1

-- the same of what is past alike
module _ (past other : Quantity → Type 0) (there : (q : Quantity) → past q → other q) (back : (q : Quantity) → other q → past q) where
  pub first_onward : (qs : List Quantity) (q : Quantity) → IsFirstOf past qs q → IsFirstOf other qs q
  first_onward [] q h = h
  first_onward (r ∷ qs) q (inl h) = inl (h.0, there r h.1)
  first_onward (r ∷ qs) q (inr h) = inr ((λ o. h.0 (back r o)), first_onward qs q h.1)

  pub range_onward : (qs : List Quantity) → AreInRange past qs → AreInRange other qs
  range_onward [] h = tt
  range_onward (r ∷ qs) h = ((λ o. h.0 (back r o)), range_onward qs h.1)

module _ (eq : Equation) where
  pub past_onward : (a b : Plain → Weighed) (t : Plain) (q : Quantity) → a t ≡ b t → IsPast eq nothing a t q → IsPast eq nothing b t q
  past_onward a b t Extraction same h = h
  past_onward a b t Recentring same h = h
  past_onward a b t Antipode same h = h
  past_onward a b t Constant same h = (h.0, subst (λ (x : Weighed). overflow ≤ x.mass) same h.1)
  past_onward a b t (Differential kernel) same h = h
  past_onward a b t (Denominator kernel) same h = h

  -- the first tree with such a quantity
  refused_onward : (a b : Plain → Weighed) (ts : List Plain) (t : Plain) (q : Quantity) →
      ((u : Plain) → IsIn u ts → a u ≡ b u) → IsFirstRefused eq nothing a ts t q →
      IsFirstRefused eq nothing b ts t q
  refused_onward a b [] t q same h = h
  refused_onward a b (s ∷ ts) t q same (inl h) =
      inl (h.0, first_onward (IsPast eq nothing a s) (IsPast eq nothing b s) (λ p. past_onward a b s p (same s (inl refl))) (λ p. past_onward b a s p (sym (same s (inl refl)))) (quantities eq) q h.1)
  refused_onward a b (s ∷ ts) t q same (inr h) =
      inr (
        range_onward (IsPast eq nothing a s) (IsPast eq nothing b s) (λ p. past_onward a b s p (same s (inl refl))) (λ p. past_onward b a s p (sym (same s (inl refl)))) (quantities eq) h.0,
        refused_onward a b ts t q (λ u i. same u (inr i)) h.1,
      )

  module _ (a b : Plain → Weighed) (ts : List Plain) (same : (u : Plain) → IsIn u ts → a u ≡ b u) where
    none_refused : (vs : List TreeValues) (us : List Plain) (t : Plain) (q : Quantity) → AreValuesOf eq nothing a us vs → IsFirstRefused eq nothing a us t q → ⊥
    none_refused vs [] t q h k = k
    none_refused [] (s ∷ us) t q h k = h
    none_refused (v ∷ vs) (s ∷ us) t q h (inl k) = none_first (IsPast eq nothing a s) (quantities eq) q h.0 k.1
    none_refused (v ∷ vs) (s ∷ us) t q h (inr k) = none_refused vs us t q h.2 k.1

    refused_one_by : (us : List Plain) (t u : Plain) (p q : Quantity) → IsFirstRefused eq nothing a us t p → IsFirstRefused eq nothing a us u q → (t ≡ u) × (p ≡ q)
    refused_one_by [] t u p q h k = absurd h
    refused_one_by (s ∷ us) t u p q (inl h) (inl k) = (h.0 ∙ sym k.0, first_one (IsPast eq nothing a s) (quantities eq) p q h.1 k.1)
    refused_one_by (s ∷ us) t u p q (inl h) (inr k) = absurd (none_first (IsPast eq nothing a s) (quantities eq) p k.0 h.1)
    refused_one_by (s ∷ us) t u p q (inr h) (inl k) = absurd (none_first (IsPast eq nothing a s) (quantities eq) q h.0 k.1)
    refused_one_by (s ∷ us) t u p q (inr h) (inr k) = refused_one_by us t u p q h.1 k.1

    pub not_refused : (vs : List TreeValues) (t : Plain) (q : Quantity) → AreValuesOf eq nothing a ts vs → IsFirstRefused eq nothing b ts t q → ⊥
    not_refused vs t q h k = none_refused vs ts t q h (refused_onward b a ts t q (λ u i. sym (same u i)) k)

    pub refused_one : (t u : Plain) (p q : Quantity) → IsFirstRefused eq nothing a ts t p → IsFirstRefused eq nothing b ts u q → (t ≡ u) × (p ≡ q)
    refused_one t u p q h k = refused_one_by ts t u p q h (refused_onward b a ts u q (λ v i. sym (same v i)) k)
