-- How large binomials are.
use Rattle.std.proofs.Common.{◌≡◌, ℕ, zero, suc, ◌+◌, ◌^◌, ◌≤◌, List, [], ◌∷◌, sum, ap, subst, sym, ◌∙◌, arith}
use Rattle.std.proofs.Math.Nat.{pow-suc, one-le-pow, pow-le-pow_left}
use Rattle.std.proofs.lemmas.Nat.{mul-le, pow-add}
use Rattle.exact_sums.specs.Binomials.{binomial}
use Rattle.exact_sums.proofs.MultinomialLaws.{binomial-zero, binomial-self}
use Rattle.degree_numbers.specs.Multi.{plus_of}
use Rattle.plain_trees.specs.Multinomials.{choose}
use Rattle.tree_cuttings.proofs.Multinomials.{choose-self}
use Rattle.cutting_sizes.proofs.Counts.{sum-cons}

pub half_power : (m k : ℕ) → binomial (suc m) k ≤ 2 ^ m
unfolding binomial
half_power m zero = one-le-pow m 2 (omega arith)
half_power zero (suc zero) = omega arith
half_power zero (suc (suc k)) = omega arith
half_power (suc m) (suc k) = let e = pow-suc 2 m in omega
    (arith, half_power m k, half_power m (suc k), e)

pascal : (x y : ℕ) → binomial (suc x + suc y) (suc x) ≡ binomial (x + suc y) x + binomial
    (suc x + y) (suc x)
unfolding binomial
pascal x y =
    let whole : suc x + suc y ≡ suc (x + suc y) = omega arith in
    let other : x + suc y ≡ suc x + y = omega arith in
    ap (λ (n : ℕ). binomial n (suc x)) whole
    ∙ ap (λ (n : ℕ). binomial (x + suc y) x + binomial n (suc x)) other

power_step : (y : ℕ) → ((x : ℕ) → binomial (x + y) x ≤ (1 + x) ^ y) → (x : ℕ) →
    binomial (x + suc y) x ≤ (1 + x) ^ suc y
power_step y h zero = let e = binomial-zero (0 + suc y) in let p =
    one-le-pow (suc y) 1 (omega arith) in omega (arith, e, p)
power_step y h (suc x) =
    let here = power_step y h x in
    let other = h (suc x) in
    let more : (1 + x) ^ y ≤ (1 + suc x) ^ y = pow-le-pow_left (omega arith) y in
    let scaled = mul-le ((1 + x) ^ y) (1 + x) ((1 + suc x) ^ y) (1 + x) more (omega arith) in
    let small = pow-suc (1 + x) y in
    let large = pow-suc (1 + suc x) y in
    let parted = pascal x y in
    omega (arith, here, other, scaled, small, large, parted)

pub binomial_power : (y x : ℕ) → binomial (x + y) x ≤ (1 + x) ^ y
binomial_power zero x =
    let e : x + 0 ≡ x = omega arith in
    let self : binomial (x + 0) x ≤ 1 = subst (λ (n : ℕ). binomial n x ≤ 1) (sym e)
    (omega (arith, binomial-self x)) in
    let p = one-le-pow zero (1 + x) (omega arith) in
    omega (arith, self, p)
binomial_power (suc y) x = power_step y (binomial_power y) x

pub choose_power : (a b : List ℕ) → choose (plus_of a b) a ≤ (1 + sum a) ^ sum b
choose_power [] b = one-le-pow (sum b) (1 + sum []) (omega arith)
choose_power (x ∷ a) [] =
    let e = choose-self (x ∷ a) in
    let p = one-le-pow (sum []) (1 + sum (x ∷ a)) (omega arith) in
    omega (arith, e, p)
choose_power (x ∷ a) (y ∷ b) =
    let all = 1 + (x + sum a) in
    let first : (1 + x) ^ y ≤ all ^ y = pow-le-pow_left (omega arith) y in
    let second : (1 + sum a) ^ sum b ≤ all ^ sum b = pow-le-pow_left (omega arith) (sum b) in
    let one = binomial_power y x in
    let rest = choose_power a b in
    let both = mul-le (binomial (x + y) x) (choose (plus_of a b) a) (all ^ y) (all ^ sum b)
    (omega (arith, one, first)) (omega (arith, rest, second)) in
    let joined = pow-add all y (sum b) in
    rw (sum-cons x a, sum-cons y b) (omega (arith, both, joined))
