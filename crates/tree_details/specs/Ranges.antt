-- Which quantities of a detail are out of range.
--   quantities eq == what a detail asks, in this order: the coefficients of the extraction and of
--       the recentring coproduct, the masses of the twisted antipode and of the constant, and for
--       each unknown the mass and the denominator of the elementary differential
--   IsPast eq a c t q == the quantity q of the tree t is out of range, where a are the antipodes
--       and c the constants, and no constant is held
--   IsFirstPast eq a c t q == q is the first of the quantities that is
--   IsInRange eq a c t == none of them is
use Rattle.std.specs.Prelude.{◌≤◌, List, ◌∷◌}
use Rattle.exact_sums.specs.Saturating.{overflow}
use Rattle.plain_trees.specs.Plain.{Plain}
use Rattle.plain_trees.specs.Coproducts.{recentring_terms}
use Rattle.recentring_coproduct.specs.Terms as recentring
use Rattle.equations.specs.declared.equation.Equation.{Equation}
use Rattle.antipode_laws.specs.Weighed.{Weighed}
use Rattle.antipode_laws.specs.Antipode.{nothing}
use Rattle.tree_values.specs.declared.quantity.Quantity.{Quantity}
use Rattle.tree_values.specs.declared.quantity.Quantity.TheVariants.{Extraction, Recentring, Antipode, Constant}
use Rattle.tree_values.specs.Quantities.{quantities_at}
use Rattle.tree_values.specs.Ranges as report

abbrev pub quantities : Equation → List Quantity
quantities eq = Extraction ∷ Recentring ∷ Antipode ∷ Constant ∷ quantities_at eq.unknowns

abbrev pub IsPast : Equation → (Plain → Weighed) → (Plain → Weighed) → Plain → Quantity → Type 0
IsPast eq a c t Recentring = recentring.AreInRange (recentring_terms eq.types t) → ⊥
IsPast eq a c t Antipode = overflow ≤ (a t).mass
IsPast eq a c t q = report.IsPast eq nothing c t q

abbrev pub IsFirstPast : Equation → (Plain → Weighed) → (Plain → Weighed) → Plain → Quantity →
    Type 0
IsFirstPast eq a c t q = report.IsFirstOf (IsPast eq a c t) (quantities eq) q

abbrev pub IsInRange : Equation → (Plain → Weighed) → (Plain → Weighed) → Plain → Type 0
IsInRange eq a c t = report.AreInRange (IsPast eq a c t) (quantities eq)
