use Rattle.std.proofs.Common.{◌≡◌, ◌≤◌, drop}
use Rattle.tree_grammar.specs.Step.{place_from, place_in}
use Rattle.tree_grammar.proofs.places.stop.Given as goal

abbrev pub invariant-loop-i : goal.invariant-loop-i
invariant-loop-i l = record {
  place : place_from l.types l.i l.s (drop l.i l.text) ≡ place_in l.types l.text;
  depth : l.s.depth ≤ l.i;
}
