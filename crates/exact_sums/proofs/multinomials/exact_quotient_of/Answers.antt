use Rattle.std.proofs.Common.{◌≡◌, ◌*◌, ◌<◌, arith}
use Rattle.exact_sums.proofs.MultinomialLaws.{exact_quotient}
use Rattle.exact_sums.proofs.multinomials.exact_quotient_of.Goals as goal

pub returns : goal.returns
returns c = λ v e.
    let m = c.from-m.result in
    let d = c.from-d.result in
    let p : 0 < d = omega arith in
    let h : v * d ≡ c.args.c * m = rw (c.from-d.ensures, c.from-m.ensures) e in
    let q = exact_quotient c.args.c m d v p h in
    omega (arith, q)
