use Rattle.std.proofs.Common.{◌≡◌, ◌++◌, drop}
use Rattle.normal_rule.specs.Text.{further_edges_text}
use Rattle.normal_rule.proofs.text.put_further.Given as goal

abbrev pub invariant-loop-edge : goal.invariant-loop-edge
invariant-loop-edge l = l.out.items ++ further_edges_text l.types (drop l.edge-index l.edges) ≡ l.initial.out.items ++ further_edges_text l.types l.edges
