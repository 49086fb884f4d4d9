use Rattle.std.proofs.Common.{◌≡◌}
use Rattle.tree_examples.proofs.beside_a_walk.have_same_numbers.Given as goal

abbrev pub invariant-loop-number : goal.invariant-loop-number
invariant-loop-number l = l.pool.types ≡ l.types
