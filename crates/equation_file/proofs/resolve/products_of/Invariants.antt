use Rattle.std.proofs.Common.{◌≡◌, take}
use Rattle.equation_file.specs.Products.{products}
use Rattle.equation_file.proofs.resolve.products_of.Given as goal

abbrev pub invariant-loop-term : goal.invariant-loop-term
invariant-loop-term l = l.found ≡ products l.names (take l.term-index l.terms)
