-- How large the coefficients of a value are.
--   IsWithinMass w == the absolute coefficients of w add up to at most its mass, or the mass is the
--       overflow
use Rattle.std.specs.Prelude.{◌≤◌}
use Rattle.exact_sums.specs.Saturating.{saturated}
use Rattle.symbol_polys.specs.Polynomials.{size_of}
use Rattle.antipode_laws.specs.Weighed.{Weighed}

abbrev pub IsWithinMass : Weighed → Type 0
IsWithinMass w = saturated (size_of w.terms) ≤ w.mass
