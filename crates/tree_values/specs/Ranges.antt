-- Which quantities of a tree are out of range.
--   IsDifferentialPast eq t q == q is a differential or a denominator of the tree t, and out of
--       range: the mass of the differential is; that mass is not 0 and in range, and the
--       denominator is not
--   IsPast eq held c t q == the quantity q of the tree t is out of range, where c are the constants
--       and a tree whose value is held is not asked for coefficients and constant. Recentring and
--       antipode are no quantities of a report
--   IsFirstOf past qs q == q is the first of the quantities qs that is past
--   AreInRange past qs == none of them is
--   IsFirstPast eq held c t q == q is the first quantity of the tree t that is out of range
--   IsInRange eq held c t == no quantity of the tree t is
--   IsFirstRefused eq held c ts t q == t is the first of the trees ts with a quantity that is out
--       of range, and q is its first one
use Rattle.std.specs.Prelude.{◌≡◌, ◌<◌, ◌≤◌, ◌⊎◌, false, List, [], ◌∷◌, Option, None}
use Rattle.std.specs.List.{AllByRecursion}
use Rattle.exact_sums.specs.Saturating.{overflow}
use Rattle.plain_trees.specs.Plain.{Plain}
use Rattle.plain_trees.specs.Coproducts.{extraction_terms}
use Rattle.equations.specs.declared.equation.Equation.{Equation}
use Rattle.elementary_diff.specs.Differentials.{differential_mass, denominator_of}
use Rattle.antipode_laws.specs.Weighed.{Weighed}
use Rattle.antipode_laws.specs.Antipode.{are_in_range}
use Rattle.tree_values.specs.declared.quantity.Quantity.{Quantity}
use Rattle.tree_values.specs.declared.quantity.Quantity.TheVariants.{Extraction, Recentring, Antipode, Constant, Differential, Denominator}
use Rattle.tree_values.specs.Quantities.{quantities}

abbrev pub IsDifferentialPast : Equation → Plain → Quantity → Type 0
IsDifferentialPast eq t Extraction = ⊥
IsDifferentialPast eq t Recentring = ⊥
IsDifferentialPast eq t Antipode = ⊥
IsDifferentialPast eq t Constant = ⊥
IsDifferentialPast eq t (Differential kernel) = overflow ≤ differential_mass eq kernel.0 t
IsDifferentialPast eq t (Denominator kernel) = (0 < differential_mass eq kernel.0 t) ×
    (differential_mass eq kernel.0 t < overflow) × (overflow ≤ denominator_of eq t)

abbrev pub IsPast : Equation → (Plain → Option Weighed) → (Plain → Weighed) → Plain → Quantity →
    Type 0
IsPast eq held c t Extraction = (held t ≡ None) × (are_in_range (extraction_terms eq.types t)
    ≡ false)
IsPast eq held c t Recentring = ⊥
IsPast eq held c t Antipode = ⊥
IsPast eq held c t Constant = (held t ≡ None) × (overflow ≤ (c t).mass)
IsPast eq held c t (Differential kernel) = IsDifferentialPast eq t (Differential kernel)
IsPast eq held c t (Denominator kernel) = IsDifferentialPast eq t (Denominator kernel)

abbrev pub IsFirstOf : (Quantity → Type 0) → List Quantity → Quantity → Type 0
IsFirstOf past [] q = ⊥
IsFirstOf past (p ∷ ps) q = ((q ≡ p) × past p) ⊎ ((past p → ⊥) × IsFirstOf past ps q)

abbrev pub AreInRange : (Quantity → Type 0) → List Quantity → Type 0
AreInRange past qs = AllByRecursion (λ q. past q → ⊥) qs

abbrev pub IsFirstPast : Equation → (Plain → Option Weighed) → (Plain → Weighed) → Plain →
    Quantity → Type 0
IsFirstPast eq held c t q = IsFirstOf (IsPast eq held c t) (quantities eq) q

abbrev pub IsInRange : Equation → (Plain → Option Weighed) → (Plain → Weighed) → Plain → Type 0
IsInRange eq held c t = AreInRange (IsPast eq held c t) (quantities eq)

abbrev pub IsFirstRefused : Equation → (Plain → Option Weighed) → (Plain → Weighed) → List Plain →
    Plain → Quantity → Type 0
IsFirstRefused eq held c [] t q = ⊥
IsFirstRefused eq held c (s ∷ ts) t q = ((t ≡ s) × IsFirstPast eq held c s q)
    ⊎ (IsInRange eq held c s × IsFirstRefused eq held c ts t q)
