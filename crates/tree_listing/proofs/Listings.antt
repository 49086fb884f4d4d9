-- From what is found to the listing.
use Rattle.std.proofs.Common.{◌≡◌, ℕ, zero, suc, ◌<◌, ◌≤◌, ◌⊎◌, [], length, Some, None, Option, refl, sym, ap, ◌∙◌, subst, arith, inl, inr}
use Rattle.std.specs.List.Sorted.{IsStrictlySortedBy}
use Rattle.std.specs.Option.{option_map}
use Rattle.degree_numbers.specs.Degree.{degree_zero}
use Rattle.equations.specs.declared.equation.Equation.{Equation}
use Rattle.ordered_lists.specs.Members.{IsIn}
use Rattle.ordered_lists.proofs.Lengths.{length-within}
use Rattle.plain_trees.specs.Plain.{Plain, edge_count_of, decoration_sum_of}
use Rattle.plain_trees.specs.Degree.{degree_of}
use Rattle.normal_rule.specs.declared.rule.RuleRow.{RuleRow}
use Rattle.normal_rule.specs.declared.rule.Rule.{Rule}
use Rattle.conforming_trees.specs.Budgets.{IsNotAbove, IsWhole}
use Rattle.conforming_trees.specs.Listed.{listing_order, IsCandidate, IsListed, IsZero, IsWholeList, IsFirstZero, HasTooManyTrees, HasTooLargeTree}
use Rattle.conforming_trees.proofs.Degrees.{not_above_self}
use Rattle.conforming_trees.proofs.Orders.{listing_order_total}
use Rattle.conforming_trees.proofs.Wholes.{candidate_is_whole}
use Rattle.tree_budgets.specs.declared.plan.RulePlan.{RulePlan}
use Rattle.tree_budgets.specs.Plan.{IsPlan}
use Rattle.tree_pool.specs.Content.{Content, tree_at}
use Rattle.tree_pool.specs.declared.node.TreeId.{TreeId}
use Rattle.tree_listing.specs.declared.found.Found.{Found}
use Rattle.tree_listing.specs.Gathered.{Gathered, IsGood, IsSound, Covers, IsBefore}
use Rattle.tree_listing.proofs.Places.{listing_exact}

at_most_or_more : (a b : ℕ) → (a ≤ b) ⊎ (b < a)
at_most_or_more zero b = inl (omega arith)
at_most_or_more (suc a) zero = inr (omega arith)
at_most_or_more (suc a) (suc b) = elim (at_most_or_more a b) [ inl h ↦ inl (omega (arith, h)) | inr h ↦ inr (omega (arith, h)) ]

sorted_none : (eq : Equation) → IsStrictlySortedBy (listing_order eq.types) []
unfolding IsStrictlySortedBy
sorted_none eq = tt

module _ (eq : Equation) (rule : Rule) where
  pub good_empty : (c : Content) (f : Found) → f.listed.items ≡ [] → f.zero ≡ None → c.types ≡ eq.types → IsGood eq rule c f
  good_empty c f l z types = record {
    keeping = record {
      found = record { listed = rw l (λ k d h. absurd (omega (arith, h))); zero = λ i e. let differ = sym z ∙ e in absurd cc };
      ascending = rw (l, types) (sorted_none eq);
      few = rw l (omega arith);
      wholes = λ k d h. absurd (omega (arith, h));
    };
    sound = record {
      ascending = rw l (sorted_none eq);
      listed = rw l (λ t m. absurd m);
      fit = rw l (λ t m. absurd m);
      zero = λ t e. let none : option_map (λ i. tree_at c i.0) f.zero ≡ None = ap (option_map (λ (i : TreeId). tree_at c i.0)) z in let differ = sym none ∙ e in absurd cc;
    };
  }

  listed_not_above : (t : Plain) → IsListed eq rule t → IsNotAbove (degree_of eq.types t) degree_zero
  listed_not_above t h g = let differ = sym h.negative ∙ g in absurd cc

  zero_not_above : (t : Plain) → IsZero eq rule t → IsNotAbove (degree_of eq.types t) degree_zero
  zero_not_above t h = subst (λ d. IsNotAbove d degree_zero) (sym h.zero) (not_above_self degree_zero)

  -- where no tree is too large
  fits_bounds : (t : Plain) → IsCandidate eq rule t →
      IsNotAbove (degree_of eq.types t) degree_zero → (HasTooLargeTree eq rule → ⊥) →
      (edge_count_of t ≤ 24) × (decoration_sum_of t ≤ 64)
  fits_bounds t k d none =
      elim (at_most_or_more (edge_count_of t) 24) [
        | inr more ↦ absurd (none record { tree = t; candidate = k; at_most_zero = d; large = inl more })
        | inl e ↦
            elim (at_most_or_more (decoration_sum_of t) 64) [
              | inr more ↦ absurd (none record { tree = t; candidate = k; at_most_zero = d; large = inr more })
              | inl s ↦ (e, s)
            ]
      ]

  abbrev pub AllCovered : RulePlan → Gathered → Type 0
  AllCovered plan g = (r : RuleRow) (t : Plain) → IsIn r rule.rows → IsWhole eq rule plan.mosts r t → Covers eq rule g t

  candidate_covered : (plan : RulePlan) (g : Gathered) (t : Plain) → IsPlan eq rule plan →
      AllCovered plan g → IsCandidate eq rule t → IsNotAbove (degree_of eq.types t) degree_zero →
      edge_count_of t ≤ 24 → decoration_sum_of t ≤ 64 → Covers eq rule g t
  candidate_covered plan g t planned all k d e s = let whole = candidate_is_whole eq rule plan.lows plan.mosts t planned.budgets k d e s in all whole.0 t whole.1 whole.2

  pub whole_list : (plan : RulePlan) (g : Gathered) → IsPlan eq rule plan → AllCovered plan g →
      IsSound eq rule g → (HasTooLargeTree eq rule → ⊥) → IsWholeList eq rule g.listed
  whole_list plan g planned all sound none = record {
    ascending = sound.ascending;
    listed = sound.listed;
    whole = λ t h. let b = fits_bounds t h.candidate (listed_not_above t h) none in (candidate_covered plan g t planned all h.candidate (listed_not_above t h) b.0 b.1).listed h;
  }

  zero_by : (zero : Option Plain) → ((z : Plain) → zero ≡ Some z → IsZero eq rule z) →
      ((t : Plain) → IsZero eq rule t → IsBefore zero t) → IsFirstZero eq rule zero
  zero_by None is before = before
  zero_by (Some z) is before = (is z refl, before)

  pub first_zero : (plan : RulePlan) (g : Gathered) → IsPlan eq rule plan → AllCovered plan g →
      IsSound eq rule g → (HasTooLargeTree eq rule → ⊥) → IsFirstZero eq rule g.zero
  first_zero plan g planned all sound none =
      zero_by g.zero sound.zero (λ t h. let b = fits_bounds t h.candidate (zero_not_above t h) none in (candidate_covered plan g t planned all h.candidate (zero_not_above t h) b.0 b.1).zero h)

  pub not_many : (plan : RulePlan) (g : Gathered) → IsPlan eq rule plan → AllCovered plan g →
      IsSound eq rule g → length g.listed ≤ 4000 → HasTooManyTrees eq rule → ⊥
  not_many plan g planned all sound few h =
      let within = length-within (listing_order eq.types) (listing_order_total eq.types) (listing_exact eq.types) h.trees g.listed h.ascending sound.ascending
      (λ t m. let l = h.listed t m in let b = h.fit t m in (candidate_covered plan g t planned all l.candidate (listed_not_above t l) b.0 b.1).listed l) in
      let many = h.many in
      absurd (omega (arith, within, many, few))
