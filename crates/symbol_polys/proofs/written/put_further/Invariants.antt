use Rattle.std.proofs.Common.{◌≡◌, ◌++◌, drop, map}
use Rattle.std.specs.List.{AllByRecursion}
use Rattle.symbol_polys.specs.TermReading.{written_of, IsWritten}
use Rattle.symbol_polys.specs.Text.{signed_texts}
use Rattle.symbol_polys.proofs.written.put_further.Given as goal

abbrev pub invariant-loop-term : goal.invariant-loop-term
invariant-loop-term l =
    let rest = drop l.term-index l.terms in
    let ty = l.names.types.now in
    let ps = l.names.parameters.now in
    record {
      text : l.out.items ++ signed_texts ty ps (map written_of rest) ≡ l.fn.out.items ++ signed_texts ty ps (map written_of l.terms);
      written : AllByRecursion (IsWritten ty ps) rest;
    }
