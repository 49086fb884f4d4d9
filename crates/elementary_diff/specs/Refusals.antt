-- What is given with an elementary differential, and why one is not given.
--   given_denominator eq k t == the denominator of the tree t; 1 where the mass of the differential
--       of t at kernel k is 0
--   IsRefused eq k t r == why that differential is not given: its mass is out of range; its mass is
--       not 0 and in range, and its denominator is out of range; or memory is wanted
use Rattle.std.specs.Prelude.{ℕ, ◌<◌, ◌≤◌, ◌==◌, cond, ⊤}
use Rattle.exact_sums.specs.Saturating.{overflow}
use Rattle.equations.specs.declared.Equation.{Equation}
use Rattle.plain_trees.specs.Plain.{Plain}
use Rattle.elementary_diff.specs.Differentials.{differential_mass, denominator_of}
use Rattle.elementary_diff.specs.declared.answer.DiffRefusal.{DiffRefusal}
use Rattle.elementary_diff.specs.declared.answer.DiffRefusal.TheVariants.{CoefficientTooLarge, DenominatorTooLarge, Memory}

abbrev pub given_denominator : Equation → ℕ → Plain → ℕ
given_denominator eq k t = cond (differential_mass eq k t == 0) 1 (denominator_of eq t)

abbrev pub IsRefused : Equation → ℕ → Plain → DiffRefusal → Type 0
IsRefused eq k t CoefficientTooLarge = overflow ≤ differential_mass eq k t
IsRefused eq k t DenominatorTooLarge = (0 < differential_mass eq k t)
    × (differential_mass eq k t < overflow) × (overflow ≤ denominator_of eq t)
IsRefused eq k t Memory = ⊤
