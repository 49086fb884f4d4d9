-- The denominator of an elementary differential.
use Rattle.std.proofs.Common.{◌≡◌, ℕ, ◌*◌, ◌^◌, ◌<◌, ◌==◌, cond, refl, ap, ◌∙◌, arith}
use Rattle.std.proofs.lemmas.Bool.Decides.{nat_tests}
use Rattle.equations.specs.declared.Equation.{Equation}
use Rattle.exact_sums.specs.Saturating.{overflow, saturated, saturating_times}
use Rattle.exact_sums.proofs.SaturatingLaws.{saturated_in_range, saturating_times_saturated}
use Rattle.plain_trees.specs.Plain.{Plain}
use Rattle.elementary_diff.specs.Differentials.{differential_mass, denominator_of}
use Rattle.elementary_diff.specs.Refusals.{given_denominator}

pub denominator-value : (r x y common q s n : ℕ) → r ≡ saturating_times x y → x ≡ saturated s →
    y ≡ saturated (common ^ n) → common ≡ saturated q → q < overflow → r ≡ saturated (s * q ^ n)
denominator-value r x y common q s n h i j k fits =
    h ∙ ap (λ (z : ℕ). saturating_times z y) i ∙ ap (saturating_times (saturated s)) j
    ∙ ap (λ (z : ℕ). saturating_times (saturated s) (saturated (z ^ n))) (k ∙ saturated_in_range q fits) ∙ saturating_times_saturated s (q ^ n)

other-than-0 : (n d : ℕ) → 0 < n → cond (n == 0) 1 d ≡ d
other-than-0 n d h = grind (arith, nat_tests)

pub given-none : (eq : Equation) (k : ℕ) (t : Plain) → differential_mass eq k t ≡ 0 → given_denominator eq k t ≡ 1
given-none eq k t h = rw h refl

pub given-some : (eq : Equation) (k : ℕ) (t : Plain) → 0 < differential_mass eq k t → given_denominator eq k t ≡ denominator_of eq t
given-some eq k t h = other-than-0 (differential_mass eq k t) (denominator_of eq t) h
