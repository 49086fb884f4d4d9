-- Trees over types in other units vanish together.
use Rattle.std.proofs.Common.{◌≡◌, ℕ, ◌%◌, ◌==◌, not, ◌||◌, cond, [], ◌∷◌, ◌++◌, length, Option, None, Some, refl, ◌∙◌}
use Rattle.std.specs.Prelude.{nat_le}
use Rattle.std.specs.List.{list_any}
use Rattle.std.specs.Ordering.{nat_cmp}
use Rattle.degree_numbers.specs.declared.types.Types.{Types}
use Rattle.degree_numbers.specs.Multi.{is_zero, scaled_size}
use Rattle.degree_numbers.specs.Types.{moments_of}
use Rattle.ordered_lists.specs.Subs.{count_of}
use Rattle.plain_trees.specs.Plain.{Plain, bare, graft, root_of}
use Rattle.gaussian_pairings.specs.Vanishing.{is_noise_kind, is_noise_type, noise_groups, some_below, has_odd_group, sum_in, has_odd_direction, is_within, has_integrated, vanishes}
use Rattle.type_contexts.specs.Same.{AreSameTypes}
use Rattle.row_laws.proofs.SameEntries.{kinds, groups, moments}

module _ (s t : Types) (same : AreSameTypes s t) where
  noise_same : (k : ℕ) → is_noise_type s k ≡ is_noise_type t k
  noise_same k = λ i. is_noise_kind (kinds s t same k i)

  groups_same : (u : Plain) → noise_groups s u ≡ noise_groups t u
  groups_same (bare n) = refl
  groups_same (graft k p c r) = λ i. cond (noise_same k i) (groups s t same k i ∷ []) []
      ++ (groups_same c i ++ groups_same r i)

  odd_group_same : (u : Plain) → has_odd_group s u ≡ has_odd_group t u
  odd_group_same u = λ i. some_below (length (same.groups i))
      (λ g. count_of nat_cmp g (groups_same u i) % 2 == 1)

  odd_direction_same : (u : Plain) → has_odd_direction s u ≡ has_odd_direction t u
  odd_direction_same u = λ i. list_any (λ j. sum_in j u % 2 == 1) (same.reflect i)

  within_same : (moments : Option ℕ) (c : Plain) → is_within s moments c ≡ is_within t moments c
  within_same None c = refl
  within_same (Some r) (bare n) = λ i. nat_le (scaled_size (same.scaling i) n) r
  within_same (Some r) (graft k p c u) = refl

  integrated_same : (u : Plain) → has_integrated s u ≡ has_integrated t u
  integrated_same (bare n) = refl
  integrated_same (graft k p c r) =
      (λ i. (is_within s (moments s t same k i) c || has_integrated s c) || has_integrated s r)
      ∙ (λ i. (within_same (moments_of t k) c i || integrated_same c i) || integrated_same r i)

  pub vanishing_same : (u : Plain) → vanishes s u ≡ vanishes t u
  vanishing_same u = λ i. not (is_zero (root_of u)) ||
      ((odd_group_same u i || odd_direction_same u i) || integrated_same u i)
