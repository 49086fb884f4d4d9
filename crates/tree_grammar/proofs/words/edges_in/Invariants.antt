use Rattle.std.proofs.Common.{◌≡◌, ◌+◌, ◌≤◌, drop}
use Rattle.tree_grammar.specs.Words.{edges_in}
use Rattle.tree_grammar.proofs.words.edges_in.Given as goal

abbrev pub invariant-loop-i : goal.invariant-loop-i
invariant-loop-i l = record {
  sum : l.count + edges_in (drop l.i l.text) ≡ edges_in l.text;
  few : l.count ≤ l.i;
}
