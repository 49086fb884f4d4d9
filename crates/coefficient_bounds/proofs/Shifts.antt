-- The binomials of the shifts of an edge, summed up.
use Rattle.std.proofs.Common.{◌≡◌, ℕ, zero, suc, ◌+◌, ◌*◌, ◌^◌, ◌≤◌, ◌<◌, ◌-◌, inl, inr, List, [], ◌∷◌, map, flat_map, sum, length, sym, ap, subst, ◌∙◌, arith}
use Rattle.std.proofs.Math.Nat.{pow-suc, one-le-pow, pow-le-pow_left, pow-le-pow_right}
use Rattle.std.proofs.lemmas.Nat.{mul-le, pow-add}
use Rattle.std.proofs.lemmas.Bool.{cases_lt}
use Rattle.exact_sums.specs.Sums.{total}
use Rattle.exact_sums.specs.Binomials.{binomial}
use Rattle.exact_sums.proofs.MultinomialLaws.{binomial-zero}
use Rattle.exact_sums.proofs.SumLaws.{total-map, total-flat_map, total_ext}
use Rattle.degree_numbers.specs.Multi.{plus_of}
use Rattle.plain_trees.specs.Multinomials.{down_from, below, choose}
use Rattle.plain_trees.specs.Cutting.{limits, shifts}
use Rattle.plain_trees.specs.Coproducts.{each_direction}
use Rattle.tree_cuttings.proofs.Bounds.{total_none}
use Rattle.cutting_sizes.proofs.Counts.{sum-cons}
use Rattle.cutting_sizes.proofs.Made.{IsBelow, below_is}
use Rattle.coefficient_bounds.proofs.Binomials.{half_power}

-- in one direction: r is taken so far, and z is the bound of the sums over the other directions, to
-- the power of what is left
module _ (r m B z : ℕ) (some : 1 ≤ z) (top : ℕ) (G : ℕ → ℕ)
    (inner : (k e : ℕ) → k ≤ top → k + r + e ≡ m → G k ≤ B * binomial (k + r) k * z ^ e)
    (none : (k : ℕ) → k ≤ top → m < k + r → G k ≡ 0) where
  turned : (a P : ℕ) → a ≡ P * z → a ≡ z * P
  turned a P e = omega (arith, e)

  step : (b p y e w P : ℕ) → b ≤ p → w ≤ B * (p * (z * P)) → y ≤ B * b * P →
      y + w ≤ B * (p * (1 + z) * P)
  step b p y e w P small rest here =
      let one = mul-le (B * b) P (B * p) P (mul-le B b B p (omega arith) small) (omega arith) in
      omega (arith, rest, here, one)

  within : (n e : ℕ) → n ≤ top → n + r + e ≡ m →
      total G (down_from n) ≤ B * ((1 + z) ^ (n + r) * z ^ e)
  within zero e t h =
      let here = inner zero e t h in
      let one = binomial-zero (0 + r) in
      let here_one : G 0 ≤ B * 1 * z ^ e = subst (λ (b : ℕ). G 0 ≤ B * b * z ^ e) one here in
      let some_power = one-le-pow (0 + r) (1 + z) (omega arith) in
      let power = mul-le 1 (z ^ e) ((1 + z) ^ (0 + r)) (z ^ e) some_power (omega arith) in
      let scaled = mul-le B (1 * z ^ e) B ((1 + z) ^ (0 + r) * z ^ e) (omega arith) power in
      omega (arith, here_one, scaled)
  within (suc n) e t h =
      let rest = within n (suc e) (omega (arith, t)) (omega (arith, h)) in
      let here = inner (suc n) e t h in
      let same : suc n + r ≡ suc (n + r) = omega arith in
      let here_same : G (suc n) ≤ B * binomial (suc (n + r)) (suc n) * z ^ e =
      subst (λ (i : ℕ). G (suc n) ≤ B * binomial i (suc n) * z ^ e) same here in
      let half = half_power (n + r) (suc n) in
      let more : 2 ^ (n + r) ≤ (1 + z) ^ (n + r) = pow-le-pow_left (omega (arith, some)) (n + r) in
      let small : binomial (suc (n + r)) (suc n) ≤ (1 + z) ^ (n + r) = omega (arith, half, more) in
      let up = pow-suc z e in
      let rest_up : total G (down_from n) ≤ B * ((1 + z) ^ (n + r) * (z * z ^ e)) =
      subst (λ (i : ℕ). total G (down_from n) ≤ B * ((1 + z) ^ (n + r) * i))
      (turned (z ^ suc e) (z ^ e) up) rest in
      let all = step (binomial (suc (n + r)) (suc n)) ((1 + z) ^ (n + r)) (G (suc n)) e
      (total G (down_from n)) (z ^ e) small rest_up here_same in
      let last : (1 + z) ^ (suc n + r) ≡ (1 + z) ^ (n + r) * (1 + z) =
      ap (λ (i : ℕ). (1 + z) ^ i) same ∙ pow-suc (1 + z) (n + r) in
      subst (λ (i : ℕ). total G (down_from (suc n)) ≤ B * (i * z ^ e)) (sym last) all

  fits : (n e : ℕ) → n ≤ top → n + r + e ≡ m → total G (down_from n) ≤ B * (1 + z) ^ m
  fits n e t h =
      let most = within n e t h in
      let more : z ^ e ≤ (1 + z) ^ e = pow-le-pow_left (omega arith) e in
      let power = mul-le ((1 + z) ^ (n + r)) (z ^ e) ((1 + z) ^ (n + r)) ((1 + z) ^ e) (omega arith)
      more in
      let joined = pow-add (1 + z) (n + r) e in
      let whole : (1 + z) ^ (n + r + e) ≡ (1 + z) ^ m = ap (λ (i : ℕ). (1 + z) ^ i) h in
      let scaled = mul-le B ((1 + z) ^ (n + r) * z ^ e) B ((1 + z) ^ m) (omega arith)
      (omega (arith, power, joined, whole)) in
      omega (arith, most, scaled)

  to : (n : ℕ) → n ≤ top → total G (down_from n) ≤ B * (1 + z) ^ m
  to zero t = elim (cases_lt m (0 + r)) [
    | inl over ↦ let e = none 0 t over in omega (arith, e)
    | inr under ↦ fits 0 (m - (0 + r)) t (omega (arith, under))
  ]
  to (suc n) t = elim (cases_lt m (suc n + r)) [
    | inl over ↦ let e = none (suc n) t over in let rest =
        to n (omega (arith, t)) in omega (arith, e, rest)
    | inr under ↦ fits (suc n) (m - (suc n + r)) t (omega (arith, under))
  ]

  pub direction_most : total G (down_from top) ≤ B * (1 + z) ^ m
  direction_most = to top (omega arith)

-- the sum with one entry in front
abbrev Row : ℕ → ℕ → List ℕ → ℕ → List ℕ → ℕ → ℕ → (List ℕ → ℕ) → Type 0
Row d n p y r m B g =
    (k e : ℕ) → k ≤ n → k + y + e ≡ m →
    total (λ s. g (k ∷ s)) (shifts (each_direction d n) p) ≤ B * binomial (k + y) k * (1 + d) ^ e

-- a sum of which all are 0 beyond m
beyond : (k y m : ℕ) (l r : List ℕ) (g : List ℕ → ℕ) →
    ((s : List ℕ) → IsBelow s l → m < sum (k ∷ s) + sum (y ∷ r) → g (k ∷ s) ≡ 0) → m < k + y →
    total (λ s. g (k ∷ s)) (below l) ≡ 0
beyond k y m l r g none over =
    total_none (λ s. IsBelow s l) (λ s. g (k ∷ s))
    (λ s b. none s b (omega (arith, over, sum-cons k s, sum-cons y r))) (below l) (below_is l)

split : (n : ℕ) (l : List ℕ) (g : List ℕ → ℕ) →
    total g (flat_map (λ k. map (λ ks. k ∷ ks) (below l)) (down_from n))
    ≡ total (λ k. total (λ s. g (k ∷ s)) (below l)) (down_from n)
split n l g =
    total-flat_map g (λ k. map (λ ks. k ∷ ks) (below l)) (down_from n)
    ∙ total_ext (λ k. total g (map (λ ks. k ∷ ks) (below l)))
    (λ k. total (λ s. g (k ∷ s)) (below l)) (down_from n)
    (λ k. total-map g (λ ks. k ∷ ks) (below l))

-- in all directions, where r is taken so far, and more than m in all is none
pub shifts_most : (p r : List ℕ) (d n m B : ℕ) (g : List ℕ → ℕ) → length r ≡ length p →
    ((s : List ℕ) → IsBelow s (limits (each_direction d n) p) → g s ≤ B * choose (plus_of s r) s) →
    ((s : List ℕ) → IsBelow s (limits (each_direction d n) p) → m < sum s + sum r → g s ≡ 0) →
    total g (shifts (each_direction d n) p) ≤ B * (1 + d) ^ m
shifts_most [] r d n m B g same most none =
    let here = most [] tt in
    let some = one-le-pow m (1 + d) (omega arith) in
    let scaled = mul-le B 1 B ((1 + d) ^ m) (omega arith) some in
    omega (arith, here, scaled)
shifts_most (x ∷ p) [] d n m B g same most none = absurd (omega (arith, same))
shifts_most (x ∷ p) (y ∷ r) zero n m B g same most none =
    let rest : ℕ = total (λ s. g (0 ∷ s)) (below (limits [] p)) in
    let whole = split 0 (limits [] p) g in
    elim (cases_lt m (0 + y)) [
      | inl over ↦ let e = beyond 0 y m (limits [] p) r g (λ s b. none (0 ∷ s) (omega arith, b))
          over in omega (arith, whole, e)
      | inr under ↦
          let one = binomial-zero (0 + y) in
          let here = shifts_most p r zero n (m - y) B (λ s. g (0 ∷ s)) (omega (arith, same))
          (λ s b. let h = most (0 ∷ s) (omega arith, b) in
          let t = ap (λ (i : ℕ). B * (i * choose (plus_of s r) s)) one in omega (arith, h, t))
          (λ s b over. none (0 ∷ s) (omega arith, b)
          (omega (arith, over, under, sum-cons 0 s, sum-cons y r))) in
          let less : (1 + 0) ^ (m - y) ≤ (1 + 0) ^ m =
          pow-le-pow_right (omega arith) (omega arith) in
          let scaled = mul-le B ((1 + 0) ^ (m - y)) B ((1 + 0) ^ m) (omega arith) less in
          omega (arith, whole, here, scaled)
    ]
shifts_most (x ∷ p) (y ∷ r) (suc d) n m B g same most none =
    let l = limits (each_direction d n) p in
    let inner : Row d n p y r m B g =
    λ k e below_n sums.
    shifts_most p r d n e (B * binomial (k + y) k) (λ s. g (k ∷ s)) (omega (arith, same))
    (λ s b. let h = most (k ∷ s) (below_n, b) in omega (arith, h))
    (λ s b over. none (k ∷ s) (below_n, b)
    (omega (arith, over, sums, sum-cons k s, sum-cons y r))) in
    let none_here : (k : ℕ) → k ≤ n → m < k + y → total (λ s. g (k ∷ s)) (below l) ≡ 0 =
    λ k below_n over. beyond k y m l r g (λ s b. none (k ∷ s) (below_n, b)) over in
    let most_all = direction_most y m B (1 + d) (omega arith) n
    (λ k. total (λ s. g (k ∷ s)) (below l)) inner none_here in
    let whole = split n l g in
    let one : 1 + (1 + d) ≡ 1 + suc d = omega arith in
    let power = ap (λ (i : ℕ). B * i ^ m) one in
    omega (arith, whole, most_all, power)
