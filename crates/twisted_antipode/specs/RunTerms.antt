-- Terms of an extraction coproduct with one forest, by numbers.
--   IsCoefficient z == z is above 0 and in range
--   IsRunTerm c e == the quotient of the term e is a tree of the pool, and its coefficient is such
--       a number
--   quotients_in c es == the quotients of the terms es, each with its coefficient
--   multiple_of n w == n times a value
--   run_value reading ty qs == the sum of coefficient times value of the quotient, with the sum of
--       the coefficients of those that count as its mass
use Rattle.std.specs.Prelude.{◌≡◌, ◌<◌, ℕ, ℤ, pos, unsigned_abs, List, length, map}
use Rattle.exact_sums.specs.Saturating.{overflow, saturating_times}
use Rattle.degree_numbers.specs.declared.types.Types.{Types}
use Rattle.plain_trees.specs.Plain.{Plain}
use Rattle.symbol_polys.specs.Polynomials.{times_all}
use Rattle.tree_pool.specs.Content.{Content, tree_at}
use Rattle.extraction_coproduct.specs.declared.term.ExtractTerm.{ExtractTerm}
use Rattle.antipode_laws.specs.Weighed.{Weighed}
use Rattle.antipode_laws.specs.Runs.{quotient_sum, quotient_mass}
use Rattle.twisted_antipode.specs.declared.quotient.Reading.{Reading}
use Rattle.twisted_antipode.specs.Quotients.{quotient_terms}

pub record IsCoefficient (z : ℤ) : Type 0 where
  pub above : 0 < unsigned_abs z
  pub is : z ≡ pos (unsigned_abs z)
  pub fits : unsigned_abs z < overflow

pub record IsRunTerm (c : Content) (e : ExtractTerm) : Type 0 where
  pub quotient : e.quotient.0 < length c.trees
  pub coefficient : IsCoefficient e.coefficient

abbrev pub quotients_in : Content → List ExtractTerm → List (Plain × ℕ)
quotients_in c es = map (λ e. (tree_at c e.quotient.0, unsigned_abs e.coefficient)) es

abbrev pub multiple_of : ℕ → Weighed → Weighed
multiple_of n w = record { terms = times_all (pos n) w.terms; mass = saturating_times n w.mass }

abbrev pub run_value : Reading → Types → List (Plain × ℕ) → Weighed
run_value reading ty qs = record {
  terms = quotient_sum (quotient_terms reading ty) qs;
  mass = quotient_mass (quotient_terms reading ty) qs;
}
