-- A tree that vanishes has in each term a tree that vanishes.
use Rattle.std.proofs.Common.{◌≡◌, ℕ, zero, suc, ◌<◌, ◌⊎◌, inl, inr, Bool, true, ◌||◌, List, [], ◌∷◌, length, refl, sym, ap, ◌∙◌, arith}
use Rattle.std.specs.List.{list_any}
use Rattle.std.proofs.lemmas.Bool.{cases_lt}
use Rattle.ordered_lists.specs.Members.{IsIn}
use Rattle.exact_sums.specs.Keyed.{keys}
use Rattle.degree_numbers.specs.declared.types.Types.{Types}
use Rattle.plain_trees.specs.Plain.{Plain}
use Rattle.plain_trees.specs.Coproducts.{Extracted, extraction_terms}
use Rattle.gaussian_pairings.specs.Vanishing.{some_below, has_odd_group, has_odd_direction, is_odd, has_integrated, vanishes}
use Rattle.antipode_laws.specs.Inheritance.{has_some, is_decorated, has_odd, has_odd_sum}
use Rattle.antipode_laws.proofs.SomeTree.{or_cases, or_left, or_right, some_weaker}
use Rattle.antipode_laws.proofs.Parities.{odd_group, odd_direction}
use Rattle.antipode_laws.proofs.DecoratedRoots.{decorated_root}
use Rattle.antipode_laws.proofs.IntegratedEdges.{integrated_edge}

from_below : (n : ℕ) (test : ℕ → Bool) → some_below n test ≡ true → (g : ℕ) × (g < n) × (test g ≡ true)
from_below zero test h = absurd cc
from_below (suc n) test h =
    elim (or_cases (some_below n test) (test n) h) [
      | inl e ↦ (let r = from_below n test e in let less = r.1 in (r.0, omega (arith, less), r.2))
      | inr e ↦ (n, omega arith, e)
    ]

at_last : (g n : ℕ) → g < suc n → (g ≡ n) ⊎ (g < n)
at_last g n l = elim (cases_lt g n) [ inl less ↦ inr less | inr most ↦ inl (omega (arith, l, most)) ]

below_found : (n : ℕ) (test : ℕ → Bool) (g : ℕ) → g < n → test g ≡ true → some_below n test ≡ true
below_found zero test g l h = absurd (omega (arith, l))
below_found (suc n) test g l h =
    elim (at_last g n l) [
      | inl e ↦ or_right (some_below n test) (test n) (ap test (sym e) ∙ h)
      | inr less ↦ or_left (some_below n test) (test n) (below_found n test g less h)
    ]

module _ (ty : Types) (t : Plain) (k : Extracted) (term : IsIn k (keys (extraction_terms ty t))) where
  abbrev Goal : Type 0
  Goal = has_some (vanishes ty) k ≡ true

  by_root : is_decorated t ≡ true → Goal
  by_root h = some_weaker is_decorated (vanishes ty) (λ s e. or_left (is_decorated s) (is_odd ty s || has_integrated ty s) e) k (decorated_root ty t k term h)

  by_edge : has_integrated ty t ≡ true → Goal
  by_edge h =
      some_weaker (has_integrated ty) (vanishes ty) (λ s e. or_right (is_decorated s) (is_odd ty s || has_integrated ty s) (or_right (is_odd ty s) (has_integrated ty s) e)) k
      (integrated_edge ty t k term h)

  odd_vanishes : (s : Plain) → is_odd ty s ≡ true → vanishes ty s ≡ true
  odd_vanishes s e = or_right (is_decorated s) (is_odd ty s || has_integrated ty s) (or_left (is_odd ty s) (has_integrated ty s) e)

  by_group : has_odd_group ty t ≡ true → Goal
  by_group h =
      let g = from_below (length ty.groups) (λ g. has_odd ty g t) h in
      some_weaker (has_odd ty g.0) (vanishes ty)
      (λ s e. odd_vanishes s (or_left (has_odd_group ty s) (has_odd_direction ty s) (below_found (length ty.groups) (λ i. has_odd ty i s) g.0 g.1 e))) k (odd_group ty t k g.0 term g.2)

  in_direction : (s : Plain) (ds : List ℕ) (i : ℕ) → IsIn i ds → has_odd_sum i s ≡ true → list_any (λ j. has_odd_sum j s) ds ≡ true
  in_direction s [] i m e = absurd m
  in_direction s (d ∷ ds) i m e =
      elim m [
        | inl q ↦ or_left (has_odd_sum d s) (list_any (λ j. has_odd_sum j s) ds) (ap (λ (j : ℕ). has_odd_sum j s) q ∙ e)
        | inr r ↦ or_right (has_odd_sum d s) (list_any (λ j. has_odd_sum j s) ds) (in_direction s ds i r e)
      ]

  some_direction : (ds : List ℕ) → list_any (λ i. has_odd_sum i t) ds ≡ true → (i : ℕ) × IsIn i ds × (has_odd_sum i t ≡ true)
  some_direction [] h = absurd cc
  some_direction (d ∷ ds) h =
      elim (or_cases (has_odd_sum d t) (list_any (λ i. has_odd_sum i t) ds) h) [
        | inl e ↦ (d, inl refl, e)
        | inr e ↦ (let r = some_direction ds e in (r.0, inr r.1, r.2))
      ]

  by_direction : has_odd_direction ty t ≡ true → Goal
  by_direction h =
      let i = some_direction ty.reflect h in
      some_weaker (has_odd_sum i.0) (vanishes ty) (λ s e. odd_vanishes s (or_right (has_odd_group ty s) (has_odd_direction ty s) (in_direction s ty.reflect i.0 i.1 e))) k
      (odd_direction ty t k i.0 term i.2)

  by_parity : is_odd ty t ≡ true → Goal
  by_parity h = elim (or_cases (has_odd_group ty t) (has_odd_direction ty t) h) [ inl e ↦ by_group e | inr e ↦ by_direction e ]

  pub vanishing_tree : vanishes ty t ≡ true → Goal
  vanishing_tree h =
      elim (or_cases (is_decorated t) (is_odd ty t || has_integrated ty t) h) [
        | inl e ↦ by_root e
        | inr e ↦ elim (or_cases (is_odd ty t) (has_integrated ty t) e) [ inl f ↦ by_parity f | inr f ↦ by_edge f ]
      ]
