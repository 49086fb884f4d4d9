use Rattle.std.proofs.Common.{◌≡◌, ◌++◌, take}
use Rattle.symbol_polys.specs.Products.{products_with}
use Rattle.symbol_polys.specs.View.{term_of, terms_of}
use Rattle.symbol_polys.proofs.products.push_products.Given as goal

abbrev pub invariant-loop-u : goal.invariant-loop-u
invariant-loop-u l = l.terms.items ≡ l.fn.terms.items ++ products_with (term_of l.t) (terms_of (take l.u-index l.us))
