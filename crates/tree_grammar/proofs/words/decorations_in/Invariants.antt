use Rattle.std.proofs.Common.{◌≡◌, ◌+◌, ◌-◌, ◌^◌, ◌<◌, min, drop}
use Rattle.tree_grammar.specs.Words.{words_sum, entry_value, decorations_in}
use Rattle.tree_grammar.proofs.words.decorations_in.Given as goal

abbrev pub invariant-loop-i : goal.invariant-loop-i
invariant-loop-i l = record {
  sum : min (l.total + words_sum entry_value (drop l.i l.text)) (2 ^ 32 - 1) ≡ decorations_in l.text;
  fits : l.total < 2 ^ 32;
}
