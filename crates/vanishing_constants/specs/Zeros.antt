-- Trees whose constants are 0 since they vanish.
--   IsZeroIn ty held t == where the tree t vanishes, 0 is held for it; or nothing is, and no
--       coefficient of its extraction coproduct is out of range
--   IsKnownZero ty held t == where t vanishes, 0 is held for it; or nothing is, and the bound of the
--       coefficients of its extraction coproduct is in range
--   AreKnownZeros ty held ts == so it is for each of the trees ts
--   HoldsZeros ty held more ts == if so, then 0 is held in `more` for each of the trees ts that
--       vanishes
--   with_zero c hs i == hs with 0 for the number i, where its tree vanishes and nothing is held for
--       it
use Rattle.std.specs.Prelude.{◌≡◌, ◌⊎◌, ℕ, true, ◌&&◌, if◌then◌else◌, is_none, List, Option, Some, None}
use Rattle.std.specs.List.{AllByRecursion}
use Rattle.ordered_lists.specs.Members.{IsIn}
use Rattle.degree_numbers.specs.declared.types.Types.{Types}
use Rattle.plain_trees.specs.Plain.{Plain}
use Rattle.plain_trees.specs.Coproducts.{extraction_terms}
use Rattle.tree_pool.specs.Content.{Content, tree_at}
use Rattle.coefficient_bounds.specs.Bounds.{has_small_coefficients}
use Rattle.gaussian_pairings.specs.Vanishing.{vanishes}
use Rattle.antipode_laws.specs.Weighed.{Weighed}
use Rattle.antipode_laws.specs.Antipode.{are_in_range}
use Rattle.twisted_antipode.specs.Held.{Held, with_held}
use Rattle.twisted_antipode.specs.Known.{first_held}
use Rattle.twisted_antipode.specs.Values.{nothing_value}

abbrev pub IsZeroIn : Types → (Plain → Option Weighed) → Plain → Type 0
IsZeroIn ty held t = vanishes ty t ≡ true → (held t ≡ Some nothing_value)
    ⊎ ((held t ≡ None) × (are_in_range (extraction_terms ty t) ≡ true))

abbrev pub IsKnownZero : Types → (Plain → Option Weighed) → Plain → Type 0
IsKnownZero ty held t = vanishes ty t ≡ true → (held t ≡ Some nothing_value)
    ⊎ ((held t ≡ None) × (has_small_coefficients ty t ≡ true))

abbrev pub AreKnownZeros : Types → (Plain → Option Weighed) → List Plain → Type 0
AreKnownZeros ty held ts = AllByRecursion (IsKnownZero ty held) ts

abbrev pub HoldsZeros : Types → (Plain → Option Weighed) → (Plain → Option Weighed) →
    List Plain → Type 0
HoldsZeros ty held more ts = AreKnownZeros ty held ts → (t : Plain) → IsIn t ts →
    vanishes ty t ≡ true → more t ≡ Some nothing_value

abbrev pub with_zero : Content → List Held → ℕ → List Held
with_zero c hs i = if vanishes c.types (tree_at c i) && is_none (first_held hs i)
    then with_held hs i nothing_value else hs
