use Rattle.std.proofs.Common.{◌≡◌, drop}
use Rattle.tree_grammar.specs.Words.{unknown_from, first_unknown}
use Rattle.tree_grammar.proofs.words.first_unknown.Given as goal

abbrev pub invariant-loop-i : goal.invariant-loop-i
invariant-loop-i l = unknown_from l.types l.i (drop l.i l.text) ≡ first_unknown l.types l.text
