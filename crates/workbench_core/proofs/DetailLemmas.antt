-- The detail of a tree that is given as a text.
use Rattle.std.proofs.Common.{◌≡◌, ◌≤◌, ◌⊎◌, inl, inr, ℕ, List, Ok, Err, refl, ap, subst}
use Rattle.limits.specs.declared.TheConstants.{MOST_PAIRED_NOISES}
use Rattle.degree_numbers.specs.declared.types.Types.{Types}
use Rattle.equations.specs.declared.equation.Equation.{Equation}
use Rattle.plain_trees.specs.Plain.{Plain}
use Rattle.tree_pool.specs.Content.{Content, tree_at}
use Rattle.antipode_laws.specs.Weighed.{Weighed}
use Rattle.antipode_laws.specs.Antipode.{nothing, tree_terms, IsAntipode}
use Rattle.antipode_laws.specs.Constants.{expected, IsConstants}
use Rattle.antipode_laws.proofs.Solutions.{solution, is_solution}
use Rattle.tree_values.specs.declared.Quantity.{Quantity}
use Rattle.tree_details.specs.Detail.{IsDetailText}
use Rattle.tree_details.specs.Ranges.{IsFirstPast, IsInRange}
use Rattle.workbench_core.specs.declared.refusal.Refusal.{Refusal}
use Rattle.workbench_core.specs.declared.refusal.Refusal.TheVariants.{Memory}
use Rattle.workbench_core.specs.Compute.{of_tree}
use Rattle.workbench_core.specs.Detail.{noise_count, IsTooNoisy, IsDetailed}

-- a tree with too many noise edges has no detail
pub noisy : (eq : Equation) (t : Plain) (e : Refusal) → (e ≡ Memory) ⊎ IsTooNoisy eq.types t (Err e) → (e ≡ Memory) ⊎ IsDetailed eq t (Err e)
noisy eq t e (inl memory) = inl memory
noisy eq t e (inr h) = inr (inl h)

-- the tree and the types are the same in a pool that has grown
pub named_again : (c : Content) (ty : Types) (i : ℕ) (t : Plain) (q : Quantity) (e : Refusal) → c.types ≡ ty → tree_at c i ≡ t → (e ≡ Memory) ⊎ (e ≡ of_tree c.types (tree_at c i) q) → (e ≡ Memory) ⊎ (e ≡ of_tree ty t q)
named_again c ty i t q e types same (inl memory) = inl memory
named_again c ty i t q e types same (inr is) =
    inr (subst (λ (u : Plain). e ≡ of_tree ty u q) same (subst (λ (v : Types). e ≡ of_tree v (tree_at c i) q) types is))

module _ (eq : Equation) (t : Plain) (few : noise_count eq.types t ≤ MOST_PAIRED_NOISES) where
  abbrev antipodes : Plain → Weighed
  antipodes = solution eq.types tree_terms nothing

  are_antipodes : IsAntipode eq.types antipodes
  are_antipodes = is_solution eq.types tree_terms nothing

  abbrev constants : Plain → Weighed
  constants = solution eq.types (expected eq.types) nothing

  are_constants : IsConstants eq.types nothing constants
  are_constants = is_solution eq.types (expected eq.types) nothing

  pub written : (text : List ℕ) → IsDetailText eq t text → ((a c : Plain → Weighed) → IsAntipode eq.types a → IsConstants eq.types nothing c → IsInRange eq a c t) → IsDetailed eq t (Ok text)
  written text is range =
      inr (few, (antipodes, constants, are_antipodes, are_constants, inl (record { range = range antipodes constants are_antipodes are_constants; text = text; is_text = is; answer = refl })))

  pub past_at : (q : Quantity) (e : Refusal) → ((a c : Plain → Weighed) → IsAntipode eq.types a → IsConstants eq.types nothing c → IsFirstPast eq a c t q) → (e ≡ Memory) ⊎ (e ≡ of_tree eq.types t q)
      → (e ≡ Memory) ⊎ IsDetailed eq t (Err e)
  past_at q e first (inl memory) = inl memory
  past_at q e first (inr is) =
      inr (inr (few, (antipodes, constants, are_antipodes, are_constants, inr (record { quantity = q; first = first antipodes constants are_antipodes are_constants; answer = ap Err is }))))
