use Rattle.std.proofs.Common.{◌≡◌, ◌-◌}
use Rattle.equations.specs.EdgeTypes.{edge_type_order}
use Rattle.equation_file.specs.Products.{placed_often}
use Rattle.equation_file.proofs.resolve.place_factor_often.Given as goal

-- the rounds that are left make of the list so far what all rounds make of the list
abbrev pub invariant-loop : goal.invariant-loop
invariant-loop l = placed_often (l.times - l.counter) edge_type_order l.factors.items l.factor ≡ placed_often l.times edge_type_order l.initial.factors.items l.factor
