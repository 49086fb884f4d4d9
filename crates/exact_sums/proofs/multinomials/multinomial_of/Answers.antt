use Rattle.std.proofs.Common.{◌≡◌, ◌+◌, ◌*◌, ◌<◌, ℕ, List, [], ◌∷◌, drop, get_or, length, ap, sym, ◌∙◌, arith}
use Rattle.std.proofs.lemmas.List.{drop_all, drop_more}
use Rattle.std.proofs.lemmas.List.Sums.{sum_by-drop_more}
use Rattle.exact_sums.specs.Saturating.{saturated, saturating_times}
use Rattle.exact_sums.specs.Binomials.{binomial}
use Rattle.exact_sums.proofs.MultinomialLaws.{multinomial_from, ways_start, ways_more, ways_end}
use Rattle.exact_sums.proofs.multinomials.multinomial_of.Goals as goal

pub loop-x-init : goal.loop-x-init
loop-x-init c =
    let h : c.of-ways.result ≡ saturated 1 = c.of-ways.ensures in
    record { below = omega (arith, h); size = omega arith; ways = ap (λ (n : ℕ). saturated (n * multinomial_from 0 c.args.parts.now)) h ∙ ways_start c.args.parts.now }

pub loop-x-preserved : goal.loop-x-preserved
loop-x-preserved c =
    let xs = c.args.parts.now in
    let i = c.loop-x.x-index in
    let x = get_or xs i 0 in
    let s = c.loop-x.size in
    let rest = drop (i + 1) xs in
    let lt : i < length xs = omega arith in
    let cut : drop i xs ≡ x ∷ rest = drop_more xs i 0 lt in
    let whole = sum_by-drop_more (λ (n : ℕ). n) xs i 0 lt in
    let w = c.loop-x.ways in
    let t : c.times-ways.result ≡ saturating_times w (saturated (binomial (s + x) x)) = c.times-ways.ensures ∙ ap (λ (n : ℕ). saturating_times w n) c.binomial.ensures in
    record {
      below = omega (arith, t);
      size = omega (arith, whole);
      ways =
          ap (λ (n : ℕ). saturated (n * multinomial_from (s + x) rest)) t
          ∙ ways_more s w x rest
          ∙ ap (λ (ys : List ℕ). saturated (w * multinomial_from s ys)) (sym cut)
          ∙ c.loop-x.invariant.ways;
    }

pub returns : goal.returns
returns c =
    let xs = c.args.parts.now in
    let i = c.loop-x.x-index in
    let s = c.loop-x.size in
    let w = c.loop-x.ways in
    let cut : drop i xs ≡ [] = drop_all i xs c.loop-x-test.false in
    sym (ways_end s w c.loop-x.invariant.below) ∙ ap (λ (ys : List ℕ). saturated (w * multinomial_from s ys)) (sym cut) ∙ c.loop-x.invariant.ways
