use Rattle.std.proofs.Common.{◌≡◌, ◌+◌, ◌-◌, ℕ, arith, ap, ◌∙◌}
use Rattle.exact_sums.specs.Saturating.{saturated}
use Rattle.exact_sums.specs.Binomials.{binomial}
use Rattle.exact_sums.proofs.MultinomialLaws.{binomial_symmetric}
use Rattle.exact_sums.proofs.multinomials.binomial.Goals as goal

pub returns-else-k-rest : goal.returns-else-k-rest
returns-else-k-rest c =
    let n = c.args.n in
    let k = c.args.k in
    let e : k + (n - k) ≡ n = omega arith in
    let s : binomial (k + (n - k)) (n - k) ≡ binomial (k + (n - k)) k = binomial_symmetric (n - k) k in
    c.binomial_over-else-k-rest.ensures ∙ ap saturated (s ∙ ap (λ (m : ℕ). binomial m k) e)
