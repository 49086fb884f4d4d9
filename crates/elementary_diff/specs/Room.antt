-- Terms whose derivatives keep their coefficients in range: each derivative multiplies a
-- coefficient by a power, which is at most the number of symbols, and takes a symbol away.
-- Working notions of the code and of proofs, which no contract of a public call names:
--   HasRoom t == the symbols of t are those of a monomial, and its absolute coefficient times the
--       factorial of their number is in range
--   HaveRoom ts == all terms do
use Rattle.std.specs.Prelude.{◌<◌, ◌*◌, unsigned_abs, List, length}
use Rattle.std.specs.List.{AllByRecursion}
use Rattle.exact_sums.specs.Saturating.{overflow}
use Rattle.exact_sums.specs.Binomials.{factorial}
use Rattle.symbol_polys.specs.Symbols.{IsMonomial}
use Rattle.symbol_polys.specs.Polynomials.{PlainTerm}

pub record HasRoom (t : PlainTerm) : Type 0 where
  pub monomial : IsMonomial t.symbols
  pub fits : unsigned_abs t.coefficient * factorial (length t.symbols) < overflow

abbrev pub HaveRoom : List PlainTerm → Type 0
HaveRoom ts = AllByRecursion HasRoom ts
