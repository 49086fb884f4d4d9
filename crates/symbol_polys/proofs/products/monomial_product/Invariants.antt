use Rattle.std.proofs.Common.{◌≡◌, ◌+◌, ◌-◌, ◌≤◌, ◌++◌, map, drop, length}
use Rattle.std.specs.List.Sorted.{IsSorted}
use Rattle.symbol_polys.specs.Symbols.{symbol_order}
use Rattle.symbol_polys.specs.Products.{monomial_product}
use Rattle.symbol_polys.specs.View.{symbol_of}
use Rattle.symbol_polys.proofs.products.monomial_product.Given as goal

abbrev pub invariant-loop-i : goal.invariant-loop-i
invariant-loop-i l =
    let m = map symbol_of (drop l.i l.a) in
    let n = map symbol_of (drop l.j l.b) in
    record {
      within_a : l.i ≤ length l.a;
      within_b : l.j ≤ length l.b;
      sorted_a : IsSorted symbol_order m;
      sorted_b : IsSorted symbol_order n;
      whole : map symbol_of l.product ++ monomial_product m n ≡ monomial_product (map symbol_of l.a) (map symbol_of l.b);
    }

abbrev pub decreases-loop-i : goal.decreases-loop-i
decreases-loop-i l = (length l.a - l.i) + (length l.b - l.j)
