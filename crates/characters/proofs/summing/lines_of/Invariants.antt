use Rattle.std.proofs.Common.{◌≡◌, ◌++◌, map, drop}
use Rattle.characters.specs.Asked.{line_of}
use Rattle.characters.proofs.summing.lines_of.Given as goal

abbrev pub invariant-loop-term : goal.invariant-loop-term
invariant-loop-term l = l.lines.items ++ map line_of (drop l.term-index l.terms) ≡ map line_of l.terms
