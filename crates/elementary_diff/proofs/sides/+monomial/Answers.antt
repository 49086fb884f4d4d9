use Rattle.std.proofs.Common.{◌-◌, length, take, drop}
use Rattle.elementary_diff.proofs.Rooms.{right-monomial}
use Rattle.elementary_diff.proofs.sides.+monomial.Goals as goal

pub with_symbol-requires-clause-symbols : goal.with_symbol-requires-clause-symbols
with_symbol-requires-clause-symbols t c =
    let ps = c.args.parameters.now in
    rw (c.as_slice.ensures, c.in_ok-product-in-len1-up.ensures.value) (right-monomial c.args.types.now (take (length ps - 1) (drop 1 ps)) c.args.factors.now)
