use Rattle.std.proofs.Common.{◌≡◌, ◌<◌, ◌++◌, true, map}
use Rattle.std.specs.List.{AllByRecursion}
use Rattle.std.specs.Vec.Iter.{into_iter_items}
use Rattle.exact_sums.specs.Saturating.{overflow}
use Rattle.symbol_polys.specs.Polynomials.{size_of}
use Rattle.numerals.specs.Numerals.{is_numeral}
use Rattle.symbol_polys.specs.TermReading.{written_of}
use Rattle.symbol_polys.specs.View.{terms_of}
use Rattle.symbol_polys.proofs.written.poly_terms.Given as goal

abbrev pub invariant-loop-term : goal.invariant-loop-term
invariant-loop-term l =
    let rest = into_iter_items l.term-iterator in
    record {
      terms : terms_of l.made ++ map written_of rest ≡ map written_of l.fn.terms.items;
      numerals : AllByRecursion (λ w. is_numeral w.digits.now ≡ true) rest;
      fits : size_of (map written_of rest) < overflow;
    }
