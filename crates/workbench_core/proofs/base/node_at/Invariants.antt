use Rattle.std.proofs.Common.{◌≡◌, drop}
use Rattle.workbench_core.specs.Base.{node_in}
use Rattle.workbench_core.proofs.base.node_at.Given as goal

-- the row is found among those that are left
abbrev pub invariant-loop-row : goal.invariant-loop-row
invariant-loop-row l = node_in l.rows l.kernel.0 l.node ≡ node_in (drop l.row-index l.rows) l.kernel.0 l.node
