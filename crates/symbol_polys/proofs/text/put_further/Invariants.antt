use Rattle.std.proofs.Common.{◌≡◌, ◌++◌, drop}
use Rattle.std.specs.List.{AllByRecursion}
use Rattle.symbol_polys.specs.Text.{IsTermOver, signed_texts}
use Rattle.symbol_polys.specs.View.{terms_of}
use Rattle.symbol_polys.proofs.text.put_further.Given as goal

abbrev pub invariant-loop-term : goal.invariant-loop-term
invariant-loop-term l =
    let rest = terms_of (drop l.term-index l.terms) in
    let ty = l.names.types.now in
    let ps = l.names.parameters.now in
    record {
      text : l.out.items ++ signed_texts ty ps rest ≡ l.fn.out.items ++ signed_texts ty ps (terms_of l.terms);
      over : AllByRecursion (IsTermOver ty ps) rest;
    }
