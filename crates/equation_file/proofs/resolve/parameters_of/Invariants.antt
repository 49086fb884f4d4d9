use Rattle.std.proofs.Common.{◌≡◌, [], take, fold}
use Rattle.equation_file.specs.Products.{with_parameter}
use Rattle.equation_file.proofs.resolve.parameters_of.Given as goal

abbrev pub invariant-loop-factor : goal.invariant-loop-factor
invariant-loop-factor l = l.found.items ≡ fold (with_parameter l.names) [] (take l.factor-index l.factor-items)
