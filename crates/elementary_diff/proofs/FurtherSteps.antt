-- The steps of the total derivatives by a decoration: direction by direction, each as often as the
-- decoration says, and like terms are collected after each.
use Rattle.std.proofs.Common.{◌≡◌, ℕ, zero, suc, ◌+◌, ◌*◌, ◌^◌, ◌-◌, ◌<◌, ◌≤◌, ℤ, unsigned_abs, List, [], ◌∷◌, length, get_or, sum, refl, sym, ap, subst, ◌∙◌, arith}
use Rattle.std.specs.List.{AllByRecursion}
use Rattle.std.proofs.Math.Nat.{pow-zero, pow-suc}
use Rattle.std.proofs.lemmas.Nat.{mul-le}
use Rattle.std.proofs.lemmas.List.Sums.{sum_by_from}
use Rattle.exact_sums.specs.Saturating.{overflow}
use Rattle.exact_sums.specs.Sums.{total}
use Rattle.symbol_polys.specs.Polynomials.{PlainTerm, monomials, size_of, HaveSameCoefficients, IsPolynomial}
use Rattle.symbol_polys.specs.Symbols.{IsMonomial}
use Rattle.symbol_polys.proofs.Collected.{collected-all, collected-weighed}
use Rattle.elementary_diff.specs.Differentials.{total_derivative, total_derivatives}
use Rattle.elementary_diff.specs.Low.{most_entry, IsLowMonomial, AreLow}
use Rattle.elementary_diff.specs.Masses.{variable_count, weight}
use Rattle.elementary_diff.proofs.Masses.{weight-total, weight-none}
use Rattle.elementary_diff.proofs.TotalLaws.{totals-same, low-total, low-more, are_monomials}

-- what is left of the decoration, from a direction on, of which so many are done
abbrev pub rest_at : ℕ → ℕ → List ℕ → List ℕ
rest_at d done [] = []
rest_at zero done (m ∷ ms) = (m - done) ∷ ms
rest_at (suc d) done (m ∷ ms) = rest_at d done ms

all_left : (m : ℕ) → m - 0 ≡ m
all_left m = omega arith

pub rest-whole : (ms : List ℕ) → rest_at 0 0 ms ≡ ms
rest-whole [] = refl
rest-whole (m ∷ ms) = ap (λ (n : ℕ). n ∷ ms) (all_left m)

pub rest-cut : (d done : ℕ) (ms : List ℕ) → d < length ms → rest_at d done ms ≡ (get_or ms d 0 - done) ∷ rest_at (suc d) 0 ms
rest-cut d done [] h = absurd (omega (arith, h))
rest-cut zero done (m ∷ ms) h = ap (λ (ns : List ℕ). (m - done) ∷ ns) (sym (rest-whole ms))
rest-cut (suc d) done (m ∷ ms) h = rest-cut d done ms (omega (arith, h))

pub rest-end : (d done : ℕ) (ms : List ℕ) → length ms ≤ d → rest_at d done ms ≡ []
rest-end d done [] h = refl
rest-end zero done (m ∷ ms) h = absurd (omega (arith, h))
rest-end (suc d) done (m ∷ ms) h = rest-end d done ms (omega (arith, h))

abbrev pub count_in : List ℕ → ℕ
count_in ms = total (λ m. m) ms

pub count-sum : (ms : List ℕ) → count_in ms ≡ sum ms
count-sum [] = refl
count-sum (m ∷ ms) =
    let all : sum (m ∷ ms) ≡ 0 + m + sum ms = sum_by_from (λ x. x) (0 + m) ms in
    let rest = count-sum ms in
    omega (arith, all, rest)

-- the weight grows with the power, from 1 on
power-grows : (v n : ℕ) → v ^ 1 ≤ v ^ suc n
power-grows zero n = omega (arith, pow-suc 0 0, pow-suc 0 n, none (0 ^ 0), none (0 ^ n))
  where
    none : (x : ℕ) → x * 0 ≡ 0
    none x = omega arith
power-grows (suc v) n =
    let least = some (suc v) n (omega arith) in
    let both = mul-le 1 (suc v) (suc v ^ n) (suc v) least (omega arith) in
    omega (arith, both, pow-suc (suc v) n, pow-suc (suc v) 0, ap (λ (x : ℕ). x * suc v) (pow-zero (suc v)))
  where
    some : (v n : ℕ) → 1 ≤ v → 1 ≤ v ^ n
    some v zero h = omega (arith, pow-zero v)
    some v (suc n) h = omega (arith, pow-suc v n, mul-le 1 1 (v ^ n) v (some v n h) h)

weight-grows : (n : ℕ) (ts : List PlainTerm) → weight 1 ts ≤ weight (suc n) ts
weight-grows n [] = omega arith
weight-grows n (t ∷ ts) =
    let v = variable_count t.symbols in
    let c = unsigned_abs t.coefficient in
    let rest = weight-grows n ts in
    omega (arith, mul-le c (v ^ 1) c (v ^ suc n) (omega arith) (power-grows v n), rest)

pub next-fits : (d n : ℕ) (ts : List PlainTerm) → weight (suc n) ts < overflow → size_of (total_derivative d ts) < overflow
next-fits d n ts h = omega (arith, weight-none (total_derivative d ts), weight-total d 0 ts, weight-grows n ts, h)

pub next-weight : (d n : ℕ) (mass : ℤ) (ts us : List PlainTerm) → IsPolynomial mass us →
    HaveSameCoefficients us (total_derivative d ts) → weight n us ≤ weight (suc n) ts
next-weight d n mass ts us p h = omega (arith, collected-weighed (λ m. variable_count m ^ n) mass us (total_derivative d ts) p h, weight-total d n ts)

pub next-low : (b d : ℕ) (mass : ℤ) (ts us : List PlainTerm) → IsPolynomial mass us →
    HaveSameCoefficients us (total_derivative d ts) → AreLow b ts → AreLow (suc b) us
next-low b d mass ts us p h l = collected-all (IsLowMonomial (suc b)) mass us (total_derivative d ts) p h (low-total b d ts l)

pub next-same : (d k : ℕ) (ms : List ℕ) (ts us whole : List PlainTerm) →
    HaveSameCoefficients us (total_derivative d ts) →
    HaveSameCoefficients (total_derivatives d (suc k ∷ ms) ts) whole →
    HaveSameCoefficients (total_derivatives d (k ∷ ms) us) whole
next-same d k ms ts us whole h w = λ m. totals-same d (k ∷ ms) us (total_derivative d ts) h m ∙ w m

-- where the total derivatives by n are on the way: from direction d on, ms is left of n, and ts are
-- the terms that it acts on
pub record IsOnTheWay (n ms : List ℕ) (d : ℕ) (left ts : List PlainTerm) : Type 0 where
  pub few : count_in ms ≤ sum n
  pub low : AreLow (8 + (sum n - count_in ms)) ts
  pub weight : weight (count_in ms) ts ≤ weight (sum n) left
  pub same : HaveSameCoefficients (total_derivatives d ms ts) (total_derivatives 0 n left)

abbrev pub AreDerived : List ℕ → ℕ → ℕ → List PlainTerm → List PlainTerm → Type 0
AreDerived n d done left ts = IsOnTheWay n (rest_at d done n) d left ts

way-next : (n ms : List ℕ) (d k : ℕ) (left ts us : List PlainTerm) (mass : ℤ) →
    IsPolynomial mass us → HaveSameCoefficients us (total_derivative d ts) →
    IsOnTheWay n (suc k ∷ ms) d left ts → IsOnTheWay n (k ∷ ms) d left us
way-next n ms d k left ts us mass p h w =
    let more : count_in (suc k ∷ ms) ≡ suc (count_in (k ∷ ms)) = omega arith in
    let heavier = ap (λ (x : ℕ). weight x ts) more in
    let lower : suc (8 + (sum n - count_in (suc k ∷ ms))) ≡ 8 + (sum n - count_in (k ∷ ms)) = omega (arith, more, w.few) in
    record {
      few = omega (arith, more, w.few);
      low = subst (λ (b : ℕ). AreLow b us) lower (next-low (8 + (sum n - count_in (suc k ∷ ms))) d mass ts us p h w.low);
      weight = omega (arith, next-weight d (count_in (k ∷ ms)) mass ts us p h, heavier, w.weight);
      same = next-same d k ms ts us (total_derivatives 0 n left) h w.same;
    }

way-turned : (n ms : List ℕ) (d : ℕ) (left ts : List PlainTerm) → IsOnTheWay n (0 ∷ ms) d left ts → IsOnTheWay n ms (suc d) left ts
way-turned n ms d left ts w =
    let none : count_in (0 ∷ ms) ≡ count_in ms = omega arith in
    record {
      few = omega (arith, none, w.few);
      low = subst (λ (c : ℕ). AreLow (8 + (sum n - c)) ts) none w.low;
      weight = subst (λ (c : ℕ). weight c ts ≤ weight (sum n) left) none w.weight;
      same = w.same;
    }

-- the same in the words of the loop over the directions
at-rest : (n : List ℕ) (d done : ℕ) → d < length n → done < get_or n d 0 → rest_at d done n ≡ suc (get_or n d 0 - (done + 1)) ∷ rest_at (suc d) 0 n
at-rest n d done h k = rest-cut d done n h ∙ ap (λ (m : ℕ). m ∷ rest_at (suc d) 0 n) (omega (arith, k))

pub derived-start : (n : List ℕ) (left : List PlainTerm) → AreLow 8 left → AreDerived n 0 0 left left
derived-start n left l =
    let all = count-sum n in
    subst (λ (ms : List ℕ). IsOnTheWay n ms 0 left left) (sym (rest-whole n))
    (record {
      few = omega (arith, all);
      low = subst (λ (b : ℕ). AreLow b left) (omega (arith, all)) l;
      weight = omega (arith, ap (λ (c : ℕ). weight c left) all);
      same = λ m. refl;
    })

pub derived-next : (n : List ℕ) (d done : ℕ) (left ts us : List PlainTerm) (mass : ℤ) →
    d < length n → done < get_or n d 0 → IsPolynomial mass us →
    HaveSameCoefficients us (total_derivative d ts) →
    AreDerived n d done left ts → AreDerived n d (done + 1) left us
derived-next n d done left ts us mass h k p e w =
    let ms = rest_at (suc d) 0 n in
    subst (λ (rs : List ℕ). IsOnTheWay n rs d left us) (sym (rest-cut d (done + 1) n h))
    (way-next n ms d (get_or n d 0 - (done + 1)) left ts us mass p e (subst (λ (rs : List ℕ). IsOnTheWay n rs d left ts) (at-rest n d done h k) w))

pub derived-turned : (n : List ℕ) (d done : ℕ) (left ts : List PlainTerm) → d < length n →
    get_or n d 0 ≤ done → AreDerived n d done left ts → AreDerived n (d + 1) 0 left ts
derived-turned n d done left ts h k w =
    let ms = rest_at (suc d) 0 n in
    let none : get_or n d 0 - done ≡ 0 = omega (arith, k) in
    let cut = subst (λ (rs : List ℕ). IsOnTheWay n rs d left ts) (rest-cut d done n h) w in
    subst (λ (e : ℕ). AreDerived n e 0 left ts) (omega arith) (way-turned n ms d left ts (subst (λ (m : ℕ). IsOnTheWay n (m ∷ ms) d left ts) none cut))

pub derived-fits : (n : List ℕ) (d done : ℕ) (left ts : List PlainTerm) → d < length n →
    done < get_or n d 0 → weight (sum n) left < overflow → AreDerived n d done left ts →
    size_of (total_derivative d ts) < overflow
derived-fits n d done left ts h k f w =
    let rest = count_in ((get_or n d 0 - (done + 1)) ∷ rest_at (suc d) 0 n) in
    let is : count_in (rest_at d done n) ≡ suc rest = ap count_in (at-rest n d done h k) ∙ omega arith in
    next-fits d rest ts (omega (arith, ap (λ (c : ℕ). weight c ts) is, w.weight, f))

pub derived-low : (n : List ℕ) (d done : ℕ) (left ts : List PlainTerm) → sum n ≤ 4096 → AreDerived n d done left ts → AreLow most_entry ts
derived-low n d done left ts few w = low-more (8 + (sum n - count_in (rest_at d done n))) most_entry ts (omega (arith, few)) w.low

pub derived-end : (n : List ℕ) (d : ℕ) (left ts : List PlainTerm) → length n ≤ d → AreDerived n d 0 left ts →
    AllByRecursion IsMonomial (monomials ts) × HaveSameCoefficients ts (total_derivatives 0 n left) × (size_of ts ≤ weight (sum n) left)
derived-end n d left ts h w =
    let end = subst (λ (ms : List ℕ). IsOnTheWay n ms d left ts) (rest-end d 0 n h) w in
    (are_monomials (8 + (sum n - 0)) ts end.low, end.same, omega (arith, weight-none ts, end.weight))
