use Rattle.std.proofs.Common.{◌≡◌, map, take}
use Rattle.degree_numbers.specs.Degree.{degree_zero}
use Rattle.tree_budgets.proofs.mosts.zeros.Given as goal

abbrev pub invariant-loop : goal.invariant-loop
invariant-loop l = l.degrees ≡ map (λ e. degree_zero) (take l.index l.items)
