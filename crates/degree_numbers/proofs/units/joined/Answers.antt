use Rattle.std.proofs.Common.{◌≡◌, ◌*◌, ◌/◌, ◌-◌, ◌^◌, min, arith}
use Rattle.std.proofs.Math.Nat.{pos_of_dvd_of_pos}
use Rattle.degree_numbers.proofs.Common.{joined_by}
use Rattle.degree_numbers.proofs.units.joined.Goals as goal

pub nonzero_div-a : goal.nonzero_div-a
nonzero_div-a c = pos_of_dvd_of_pos c.gcd.ensures.0 c.requires.a

pub returns : goal.returns
returns c =
    let is : c.min.result ≡ min (c.args.a / c.gcd.result * c.args.b) (2 ^ 63 - 1) = omega (arith, c.min.ensures, c.saturating_mul.ensures) in
    joined_by c.args.a c.args.b c.gcd.result c.min.result c.gcd.ensures c.requires.a c.requires.b is
