use Rattle.std.proofs.Common.{◌-◌, length, take, drop}
use Rattle.elementary_diff.proofs.Rooms.{factors-monomial}
use Rattle.elementary_diff.proofs.sides.+factor_product.Goals as goal

pub with_symbol-requires-clause-symbols : goal.with_symbol-requires-clause-symbols
with_symbol-requires-clause-symbols t c =
    let fs = c.args.factors.now in
    rw (c.as_slice.ensures, c.in_ok-product-in-len1-up.ensures.value) (factors-monomial c.args.types.now (take (length fs - 1) (drop 1 fs)))
