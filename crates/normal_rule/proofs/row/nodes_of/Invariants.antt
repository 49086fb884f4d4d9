use Rattle.std.proofs.Common.{◌≡◌, take}
use Rattle.normal_rule.specs.Made.{nodes_of}
use Rattle.normal_rule.proofs.row.nodes_of.Given as goal

abbrev pub invariant-loop-term : goal.invariant-loop-term
invariant-loop-term l = l.nodes.keys ≡ nodes_of (take l.term-index l.right)
