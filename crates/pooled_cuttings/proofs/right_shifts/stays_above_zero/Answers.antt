use Rattle.std.proofs.Common.{◌≡◌, ap, arith, ◌-ℤ◌, ◌∙◌}
use Rattle.std.proofs.lemmas.Int.{ints}
use Rattle.std.specs.Ordering.{is_gt}
use Rattle.pooled_cuttings.proofs.Degrees.{shift_within}
use Rattle.pooled_cuttings.proofs.RightFitting.{order_by}
use Rattle.pooled_cuttings.proofs.right_shifts.stays_above_zero.Goals as goal

pub less-left-requires : goal.less-left-requires
less-left-requires c =
    let s = shift_within c.args.types.now c.args.s.now.entries c.requires.types c.requires.small in
    let d = c.requires.within in
    omega (arith, ints, s, d, c.shift_size.ensures)

pub returns : goal.returns
returns c =
    let same : c.less-left.result.a ≡ c.args.branch.now.a -ℤ c.shift_size.result = omega (arith, ints, c.less-left.ensures.a) in
    c.is_gt.ensures
    ∙ ap is_gt (c.order.ensures
    ∙ order_by c.args.types.now c.args.branch.now c.less-left.result c.args.s.now.entries c.shift_size.result same c.less-left.ensures.b c.shift_size.ensures)
