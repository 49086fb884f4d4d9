use Rattle.std.proofs.Common.{◌≡◌, ◌++◌, drop}
use Rattle.counterterm_report.specs.Report.{node_lines}
use Rattle.counterterm_report.proofs.rules.put_nodes.Given as goal

abbrev pub invariant-loop-node : goal.invariant-loop-node
invariant-loop-node l = l.out.items ++ node_lines l.types (drop l.node-index l.nodes) ≡ l.fn.out.items ++ node_lines l.types l.nodes
