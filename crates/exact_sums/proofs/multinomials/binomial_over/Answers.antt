use Rattle.std.proofs.Common.{◌≡◌, ◌+◌, ◌*◌, ◌≤◌, ℕ, ap, sym, ◌∙◌, arith}
use Rattle.exact_sums.specs.Saturating.{saturated}
use Rattle.exact_sums.specs.Binomials.{binomial}
use Rattle.exact_sums.proofs.MultinomialLaws.{binomial-zero, binomial_next, binomial_rises_to}
use Rattle.exact_sums.proofs.multinomials.binomial_over.Goals as goal

pub loop-i-init : goal.loop-i-init
loop-i-init c = record { value = sym (binomial-zero (c.args.b + 0)); below = omega arith }

pub returns-then-c : goal.returns-then-c
returns-then-c c =
    let b = c.args.b in
    let i = c.loop-i.i in
    let v = binomial (b + (i + 1)) (i + 1) in
    let h : c.exact_quotient_of-c.result ≡ saturated v =
    c.exact_quotient_of-c.ensures v (binomial_next b i ∙ ap (λ (n : ℕ). n * (b + i + 1)) (sym c.loop-i.invariant.value)) in
    let k : i + 1 ≤ c.args.k = omega arith in
    let g = binomial_rises_to b (i + 1) c.args.k k in
    omega (arith, h, g)

pub loop-i-preserved : goal.loop-i-preserved
loop-i-preserved c =
    let b = c.args.b in
    let i = c.loop-i.i in
    let v = binomial (b + (i + 1)) (i + 1) in
    let h : c.exact_quotient_of-c.result ≡ saturated v =
    c.exact_quotient_of-c.ensures v (binomial_next b i ∙ ap (λ (n : ℕ). n * (b + i + 1)) (sym c.loop-i.invariant.value)) in
    record { value = omega (arith, h); below = omega (arith, h) }
