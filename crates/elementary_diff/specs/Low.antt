-- Monomials whose variables have derivatives that are far from the range of their numbers.
-- Working notions of the code and of proofs, which no contract of a public call names:
--   most_entry == the greatest entry that is met: 8 in a right side, and 4,096 total derivatives
--   AreAtMost b xs == the numbers are at most b
--   IsLow b s == the entries of the multiindex of s are
--   IsLowMonomial b m == m is a monomial, and its symbols are low
--   AreLow b ts == the monomials of the terms are
use Rattle.std.specs.Prelude.{ℕ, ◌≤◌, List}
use Rattle.std.specs.List.{AllByRecursion}
use Rattle.symbol_polys.specs.Symbols.{PlainSymbol, multiindex_in, IsMonomial}
use Rattle.symbol_polys.specs.Polynomials.{PlainTerm, monomials}

abbrev pub most_entry : ℕ
most_entry = 5000

abbrev pub AreAtMost : ℕ → List ℕ → Type 0
AreAtMost b xs = AllByRecursion (λ x. x ≤ b) xs

abbrev pub IsLow : ℕ → PlainSymbol → Type 0
IsLow b s = AreAtMost b (multiindex_in s)

pub record IsLowMonomial (b : ℕ) (m : List PlainSymbol) : Type 0 where
  pub monomial : IsMonomial m
  pub low : AllByRecursion (IsLow b) m

abbrev pub AreLow : ℕ → List PlainTerm → Type 0
AreLow b ts = AllByRecursion (IsLowMonomial b) (monomials ts)
