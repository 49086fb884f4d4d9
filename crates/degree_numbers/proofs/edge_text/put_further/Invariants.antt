use Rattle.std.proofs.Common.{◌≡◌, ◌++◌, drop}
use Rattle.degree_numbers.specs.EdgeText.{further_text}
use Rattle.degree_numbers.proofs.edge_text.put_further.Given as goal

abbrev pub invariant-loop-x : goal.invariant-loop-x
invariant-loop-x l = l.out.items ++ further_text (drop l.x-index l.entries) ≡ l.initial.out.items ++ further_text l.entries
