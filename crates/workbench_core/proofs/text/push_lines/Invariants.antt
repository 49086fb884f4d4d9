use Rattle.std.proofs.Common.{◌≡◌, ◌++◌, take, List, ℕ}
use Rattle.workbench_core.specs.CheckText.{AreLines}
use Rattle.workbench_core.proofs.text.push_lines.Given as goal

-- the lines of the node types so far were written
abbrev pub invariant-loop-node : goal.invariant-loop-node
invariant-loop-node l = (piece : List ℕ) × AreLines l.eq l.kernel.0 (take l.node-index l.nodes) piece × (l.text.items ≡ l.fn.text.items ++ piece)
