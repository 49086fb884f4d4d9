use Rattle.std.proofs.Common.{◌≡◌, ◌≤◌, ◌+◌, ◌*◌, ◌+ℤ◌, List, drop}
use Rattle.symbol_polys.specs.Symbols.{PlainSymbol}
use Rattle.symbol_polys.specs.Polynomials.{coefficient_of, size_of}
use Rattle.symbol_polys.specs.Products.{products}
use Rattle.symbol_polys.specs.View.{terms_of}
use Rattle.symbol_polys.proofs.products.all_products.Given as goal

abbrev pub invariant-loop-t : goal.invariant-loop-t
invariant-loop-t l =
    let rest = terms_of (drop l.t-index l.ts) in
    record {
      coefficients : (m : List PlainSymbol) → coefficient_of m l.terms.items +ℤ coefficient_of m (products rest (terms_of l.us)) ≡ coefficient_of m (products (terms_of l.ts) (terms_of l.us));
      size : size_of l.terms.items + size_of rest * size_of (terms_of l.us) ≤ size_of (terms_of l.ts) * size_of (terms_of l.us);
    }
