use Rattle.std.proofs.Common.{◌≡◌, ◌++◌, map, drop}
use Rattle.extraction_coproduct.specs.Terms.{term_of, AreInRange}
use Rattle.extraction_coproduct.proofs.finish.terms_of.Given as goal

abbrev pub invariant-loop-line : goal.invariant-loop-line
invariant-loop-line l =
    record {
      terms : l.terms.items ++ map term_of (drop l.line-index l.lines) ≡ map term_of l.lines;
      range : AreInRange (drop l.line-index l.lines) → AreInRange l.lines;
    }
