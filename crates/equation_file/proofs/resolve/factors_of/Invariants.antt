use Rattle.std.proofs.Common.{◌≡◌, [], take, fold}
use Rattle.equation_file.specs.Products.{with_factor}
use Rattle.equation_file.proofs.resolve.factors_of.Given as goal

abbrev pub invariant-loop-factor : goal.invariant-loop-factor
invariant-loop-factor l = l.found.items ≡ fold (with_factor l.names) [] (take l.factor-index l.factor-items)
