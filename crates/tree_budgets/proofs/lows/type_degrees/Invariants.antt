use Rattle.std.proofs.Common.{◌≡◌, map, take}
use Rattle.tree_budgets.proofs.lows.type_degrees.Given as goal

abbrev pub invariant-loop-entry : goal.invariant-loop-entry
invariant-loop-entry l = l.degrees ≡ map (λ e. e.degree) (take l.entry-index l.entry-items)
