-- Polynomials that stand for lists of terms.
-- Working notions of the code and of proofs, which no contract of a public call names:
--   IsSumWithin us most p == p is a polynomial with the coefficients of the terms us, and its mass
--       is at most most
use Rattle.std.specs.Prelude.{ℕ, ◌≤ℤ◌, pos, List}
use Rattle.symbol_polys.specs.Polynomials.{PlainTerm, HaveSameCoefficients}
use Rattle.symbol_polys.specs.View.{terms_of, IsPoly}
use Rattle.symbol_polys.specs.declared.poly.Poly.{Poly}

pub record IsSumWithin (us : List PlainTerm) (most : ℕ) (p : Poly) : Type 0 where
  pub poly : IsPoly p
  pub coefficients : HaveSameCoefficients (terms_of p.terms) us
  pub mass : p.mass ≤ℤ pos most
