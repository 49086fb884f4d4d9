use Rattle.std.proofs.Common.{◌≡◌, ◌++◌, drop, flat_map}
use Rattle.tree_details.specs.Detail.{pair_text}
use Rattle.tree_details.proofs.pairings.put_pairs.Given as goal

abbrev pub invariant-loop-pair : goal.invariant-loop-pair
invariant-loop-pair l = l.out.items ++ flat_map pair_text (drop l.pair-index l.pairs) ≡ l.fn.out.items ++ flat_map pair_text l.pairs
