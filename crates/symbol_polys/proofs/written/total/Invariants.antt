use Rattle.std.proofs.Common.{◌≡◌, ◌+◌, ◌≤◌, true, drop, map}
use Rattle.std.specs.List.{AllByRecursion}
use Rattle.exact_sums.specs.Saturating.{overflow, saturated}
use Rattle.symbol_polys.specs.Polynomials.{size_of}
use Rattle.numerals.specs.Numerals.{is_numeral}
use Rattle.symbol_polys.specs.TermReading.{written_of}
use Rattle.symbol_polys.proofs.written.total.Given as goal

abbrev pub invariant-loop-term : goal.invariant-loop-term
invariant-loop-term l =
    let rest = drop l.term-index l.terms in
    record {
      sum : saturated (l.sum + size_of (map written_of rest)) ≡ saturated (size_of (map written_of l.terms));
      within : l.sum ≤ overflow;
      numerals : AllByRecursion (λ w. is_numeral w.digits.now ≡ true) rest;
    }
