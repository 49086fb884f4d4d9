-- Polynomials as lists of terms with a mass.
-- What contracts of public calls say:
--   PlainTerm == a coefficient and the symbols of a monomial
--   monomials ts == the monomials of the terms
--   coefficient_of m ts == the coefficient of the monomial m: the sum of the coefficients of the
--       terms with m
--   HaveSameCoefficients ts us == each monomial has one coefficient in both lists
--   size_of ts == the sum of the absolute coefficients
--   IsPolynomial mass ts == the terms ascend, each monomial stands once, no coefficient is 0, and
--       the sum of the absolute coefficients is at most the mass
--   IsSumOf us ts == ts is the sum of the terms us: it ascends, each monomial stands once, with the
--       coefficient that it has in us, no coefficient is 0, and the sum of the absolute
--       coefficients is at most that of us
--   times z t, times_all z ts == a term, a list of terms, times the number z
--   IsRefused too_large e == why a call on polynomials gives no answer: its mass is too large, or
--       memory is wanted
-- Working notions of the code and of proofs:
--   term_order t u == the order of the monomials of two terms
use Rattle.std.specs.Prelude.{◌≡◌, ℕ, ◌<◌, ◌≤◌, cond, List, [], ◌∷◌, map, ⊤, ℤ, pos, ◌+ℤ◌, ◌*ℤ◌, ◌≤ℤ◌, unsigned_abs}
use Rattle.std.specs.List.{AllByRecursion}
use Rattle.std.specs.List.Sorted.{IsStrictlySortedBy}
use Rattle.std.specs.Ordering.{is_eq, on}
use Rattle.std.specs.declared.cmp.Ordering.{Ordering}
use Rattle.exact_sums.specs.Sums.{total}
use Rattle.symbol_polys.specs.Symbols.{PlainSymbol, monomial_order, IsMonomial}
use Rattle.symbol_polys.specs.declared.error.PolyError.{PolyError}
use Rattle.symbol_polys.specs.declared.error.PolyError.TheVariants.{CoefficientTooLarge, PolyText, Memory}

pub record PlainTerm : Type 0 where
  pub coefficient : ℤ
  pub symbols : List PlainSymbol

abbrev pub monomials : List PlainTerm → List (List PlainSymbol)
monomials ts = map (λ t. t.symbols) ts

abbrev pub coefficient_of : List PlainSymbol → List PlainTerm → ℤ
coefficient_of m [] = pos 0
coefficient_of m (t ∷ ts) =
    cond (is_eq (monomial_order t.symbols m)) t.coefficient (pos 0) +ℤ coefficient_of m ts

abbrev pub HaveSameCoefficients : List PlainTerm → List PlainTerm → Type 0
HaveSameCoefficients ts us = (m : List PlainSymbol) → coefficient_of m ts ≡ coefficient_of m us

abbrev pub term_order : PlainTerm → PlainTerm → Ordering
term_order = on (λ t. t.symbols) monomial_order

abbrev pub size_of : List PlainTerm → ℕ
size_of ts = total (λ t. unsigned_abs t.coefficient) ts

pub record IsPolynomial (mass : ℤ) (ts : List PlainTerm) : Type 0 where
  pub each : AllByRecursion IsMonomial (monomials ts)
  pub ascending : IsStrictlySortedBy monomial_order (monomials ts)
  pub not_zero : AllByRecursion (λ t. 0 < unsigned_abs t.coefficient) ts
  pub within : pos (size_of ts) ≤ℤ mass

pub record IsSumOf (us ts : List PlainTerm) : Type 0 where
  pub ascending : IsStrictlySortedBy monomial_order (monomials ts)
  pub not_zero : AllByRecursion (λ t. 0 < unsigned_abs t.coefficient) ts
  pub coefficients : HaveSameCoefficients ts us
  pub size : size_of ts ≤ size_of us

abbrev pub times : ℤ → PlainTerm → PlainTerm
times z t = record { coefficient = z *ℤ t.coefficient; symbols = t.symbols }

abbrev pub times_all : ℤ → List PlainTerm → List PlainTerm
times_all z ts = map (times z) ts

abbrev pub IsRefused : Type 0 → PolyError → Type 0
IsRefused too_large CoefficientTooLarge = too_large
IsRefused too_large PolyText = ⊥
IsRefused too_large Memory = ⊤
