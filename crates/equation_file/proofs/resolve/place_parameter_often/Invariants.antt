use Rattle.std.proofs.Common.{◌≡◌, ◌-◌}
use Rattle.std.specs.Ordering.{nat_cmp}
use Rattle.equation_file.specs.Products.{placed_often}
use Rattle.equation_file.proofs.resolve.place_parameter_often.Given as goal

-- the rounds that are left make of the list so far what all rounds make of the list
abbrev pub invariant-loop : goal.invariant-loop
invariant-loop l = placed_often (l.times - l.counter) nat_cmp l.parameters.items l.parameter ≡ placed_often l.times nat_cmp l.initial.parameters.items l.parameter
