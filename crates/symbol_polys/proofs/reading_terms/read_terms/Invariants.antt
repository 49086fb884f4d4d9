use Rattle.std.proofs.Common.{◌≡◌, ◌++◌, List, map, drop}
use Rattle.std.specs.List.{AllByRecursion}
use Rattle.symbol_polys.specs.Polynomials.{PlainTerm}
use Rattle.symbol_polys.specs.TermReading.{split_sign, written_of, IsTermOf, IsWritten}
use Rattle.symbol_polys.proofs.Following.{Writes}
use Rattle.symbol_polys.proofs.TermTexts.{sign_and_body}
use Rattle.symbol_polys.proofs.reading_terms.read_terms.Given as goal

abbrev pub invariant-loop-piece : goal.invariant-loop-piece
invariant-loop-piece l =
    let ty = l.names.types.now in
    let ps = l.names.parameters.now in
    record {
      written : AllByRecursion (IsWritten ty ps) l.terms.items;
      back : (ts : List PlainTerm) → Writes (IsTermOf ty ps) (λ p. split_sign p.now) (sign_and_body ty ps) l.piece-items ts →
          (us : List PlainTerm) × Writes (IsTermOf ty ps) (λ p. split_sign p.now) (sign_and_body ty ps) (drop l.piece-index l.piece-items) us × (map written_of l.terms.items ++ us ≡ ts);
    }
