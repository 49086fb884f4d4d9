-- Terms that have one forest in common: their sum is the product of the forest and of the sum of
-- their quotients.
--   with_forest fs qs == the terms with the forest fs and the quotients qs, each with its
--       coefficient
--   quotient_sum of_quotient qs == the sum of coefficient times value of the quotient
--   quotient_mass of_quotient qs == the sum of the coefficients of those quotients that count
use Rattle.std.specs.Prelude.{ℕ, pos, if◌then◌else◌, List, map, flat_map}
use Rattle.exact_sums.specs.Saturating.{saturated, saturating_sum}
use Rattle.plain_trees.specs.Plain.{Plain}
use Rattle.plain_trees.specs.Coproducts.{Extracted}
use Rattle.symbol_polys.specs.Polynomials.{PlainTerm, times_all}
use Rattle.antipode_laws.specs.Weighed.{has_terms}

abbrev pub with_forest : List Plain → List (Plain × ℕ) → List (Extracted × ℕ)
with_forest fs qs = map (λ q. ((fs, q.0), q.1)) qs

abbrev pub quotient_sum : (Plain → List PlainTerm) → List (Plain × ℕ) → List PlainTerm
quotient_sum of_quotient qs = flat_map (λ q. times_all (pos q.1) (of_quotient q.0)) qs

abbrev pub quotient_mass : (Plain → List PlainTerm) → List (Plain × ℕ) → ℕ
quotient_mass of_quotient qs = saturating_sum
    (map (λ q. if has_terms (of_quotient q.0) then saturated q.1 else 0) qs)
