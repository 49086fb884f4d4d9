-- Sums over terms with one forest.
use Rattle.std.proofs.Common.{◌≡◌, ℕ, ◌+◌, ◌*◌, ℤ, pos, neg_ℤ, ◌+ℤ◌, ◌*ℤ◌, sum, true, false, cond, if◌then◌else◌, List, [], ◌∷◌, ◌++◌, map, refl, sym, ap, ◌∙◌, arith}
use Rattle.std.proofs.Math.IntN.{*ℤ_comm, zero-*ℤ}
use Rattle.std.proofs.lemmas.Int.{ints}
use Rattle.std.proofs.lemmas.List.{map-append}
use Rattle.std.proofs.lemmas.Grind.{flat_map-append}
use Rattle.exact_sums.specs.Saturating.{saturated, saturating_plus, saturating_times, saturating_sum}
use Rattle.exact_sums.proofs.SaturatingLaws.{saturated_add_left, saturated_add_right, saturated_mul_left, saturating_sum_is}
use Rattle.cutting_sizes.proofs.Counts.{sum-cons}
use Rattle.plain_trees.specs.Plain.{Plain}
use Rattle.plain_trees.specs.Coproducts.{Extracted}
use Rattle.symbol_polys.specs.Symbols.{PlainSymbol}
use Rattle.symbol_polys.specs.Polynomials.{PlainTerm, coefficient_of, HaveSameCoefficients, times, times_all}
use Rattle.symbol_polys.specs.Products.{term_product, products_with, products}
use Rattle.symbol_polys.proofs.AddLaws.{coefficient_of-append}
use Rattle.symbol_polys.proofs.PolyLaws.{coefficient_of-times_all}
use Rattle.symbol_polys.proofs.SignedLaws.{times_times, sum_times}
use Rattle.symbol_polys.proofs.JoinLaws.{same_term}
use Rattle.antipode_laws.specs.Weighed.{Weighed, has_terms, forest_terms, forest_mass, negated, negated_sum, term_mass, mass_sum}
use Rattle.antipode_laws.specs.Runs.{with_forest, quotient_sum, quotient_mass}

-- the second factor of a product: a sum, a multiple
products-sum : (m : List PlainSymbol) (ts us vs : List PlainTerm) →
    coefficient_of m (products ts (us ++ vs)) ≡ coefficient_of m (products ts us) +ℤ coefficient_of m (products ts vs)
products-sum m [] us vs = refl
products-sum m (t ∷ ts) us vs =
    let whole = coefficient_of-append m (products_with t (us ++ vs)) (products ts (us ++ vs)) in
    let both = ap (coefficient_of m) (map-append (term_product t) us vs) ∙ coefficient_of-append m (products_with t us) (products_with t vs) in
    let rest = products-sum m ts us vs in
    let left = coefficient_of-append m (products_with t us) (products ts us) in
    let right = coefficient_of-append m (products_with t vs) (products ts vs) in
    omega (arith, ints, whole, both, rest, left, right)

swapped : (a z b : ℤ) → a *ℤ (z *ℤ b) ≡ z *ℤ (a *ℤ b)
swapped a z b = sym (times_times a z b) ∙ ap (λ (x : ℤ). x *ℤ b) (*ℤ_comm a z) ∙ times_times z a b

with_multiple : (z : ℤ) (t : PlainTerm) (us : List PlainTerm) → products_with t (times_all z us) ≡ times_all z (products_with t us)
with_multiple z t [] = refl
with_multiple z t (u ∷ us) =
    ap (λ (v : PlainTerm). v ∷ products_with t (times_all z us)) (same_term (term_product t (times z u)) (times z (term_product t u)) (swapped t.coefficient z u.coefficient) refl)
    ∙ ap (λ (vs : List PlainTerm). times z (term_product t u) ∷ vs) (with_multiple z t us)

products-multiple : (z : ℤ) (ts us : List PlainTerm) → products ts (times_all z us) ≡ times_all z (products ts us)
products-multiple z [] us = refl
products-multiple z (t ∷ ts) us =
    ap (λ (vs : List PlainTerm). vs ++ products ts (times_all z us)) (with_multiple z t us)
    ∙ ap (λ (vs : List PlainTerm). times_all z (products_with t us) ++ vs) (products-multiple z ts us)
    ∙ sym (map-append (times z) (products_with t us) (products ts us))

minus_one : (z : ℤ) → neg_ℤ (pos 1) *ℤ z ≡ neg_ℤ z
minus_one z = omega (arith, ints)

cancelled : (x y : ℤ) → x +ℤ y ≡ pos 0 → x ≡ neg_ℤ y
cancelled x y h = omega (arith, ints, h)

minus_times : (c : ℕ) (z : ℤ) → neg_ℤ (pos c) *ℤ z ≡ neg_ℤ (pos c *ℤ z)
minus_times c z =
    let none : neg_ℤ (pos c) +ℤ pos c ≡ pos 0 = omega (arith, ints) in
    cancelled (neg_ℤ (pos c) *ℤ z) (pos c *ℤ z) (sym (sum_times (neg_ℤ (pos c)) (pos c) z) ∙ ap (λ (y : ℤ). y *ℤ z) none ∙ zero-*ℤ z)

minus_sum : (x y a b n m : ℤ) → x ≡ neg_ℤ a → y ≡ neg_ℤ b → n ≡ a +ℤ b → m ≡ neg_ℤ n → x +ℤ y ≡ m
minus_sum x y a b n m h k l o = omega (arith, ints, h, k, l, o)

module _ (of_quotient : Plain → List PlainTerm) (a : Plain → Weighed) (fs : List Plain) where
  abbrev F : List PlainTerm
  F = forest_terms a fs

  abbrev at : List PlainSymbol → List PlainTerm → ℤ
  at m ts = coefficient_of m (products F ts)

  one_minus : (m : List PlainSymbol) (q : Plain × ℕ) →
      coefficient_of m (negated of_quotient a ((fs, q.0), q.1)) ≡ neg_ℤ (at m (times_all (pos q.1) (of_quotient q.0)))
  one_minus m q =
      coefficient_of-times_all (neg_ℤ (pos q.1)) m (products F (of_quotient q.0)) ∙ minus_times q.1 (at m (of_quotient q.0))
      ∙ ap neg_ℤ (sym (ap (coefficient_of m) (products-multiple (pos q.1) F (of_quotient q.0)) ∙ coefficient_of-times_all (pos q.1) m (products F (of_quotient q.0))))

  run_minus : (m : List PlainSymbol) (qs : List (Plain × ℕ)) →
      coefficient_of m (negated_sum of_quotient a (with_forest fs qs)) ≡ neg_ℤ (at m (quotient_sum of_quotient qs))
  run_minus m [] = ap (λ (ts : List PlainTerm). neg_ℤ (coefficient_of m ts)) (sym (products_none F))
    where
      products_none : (ts : List PlainTerm) → products ts [] ≡ []
      products_none [] = refl
      products_none (t ∷ ts) = products_none ts
  run_minus m (q ∷ qs) =
      coefficient_of-append m (negated of_quotient a ((fs, q.0), q.1)) (negated_sum of_quotient a (with_forest fs qs))
      ∙ minus_sum (coefficient_of m (negated of_quotient a ((fs, q.0), q.1))) (coefficient_of m (negated_sum of_quotient a (with_forest fs qs)))
      (at m (times_all (pos q.1) (of_quotient q.0))) (at m (quotient_sum of_quotient qs)) (at m (quotient_sum of_quotient (q ∷ qs))) (neg_ℤ (at m (quotient_sum of_quotient (q ∷ qs))))
      (one_minus m q) (run_minus m qs) (products-sum m F (times_all (pos q.1) (of_quotient q.0)) (quotient_sum of_quotient qs)) refl

  pub run_terms : (qs : List (Plain × ℕ)) →
      HaveSameCoefficients (negated_sum of_quotient a (with_forest fs qs)) (times_all (neg_ℤ (pos 1)) (products F (quotient_sum of_quotient qs)))
  run_terms qs = λ m. run_minus m qs ∙ sym (coefficient_of-times_all (neg_ℤ (pos 1)) m (products F (quotient_sum of_quotient qs)) ∙ minus_one (at m (quotient_sum of_quotient qs)))

  -- masses
  abbrev counted : Plain × ℕ → ℕ
  counted q = if has_terms (of_quotient q.0) then saturated q.1 else 0

  abbrev mass : Plain × ℕ → ℕ
  mass q = term_mass of_quotient a ((fs, q.0), q.1)

  one_mass : (q : Plain × ℕ) → mass q ≡ saturated (counted q * forest_mass a fs)
  one_mass q =
      elim (has_terms (of_quotient q.0)) as (λ b. cond b (saturating_times q.1 (forest_mass a fs)) 0 ≡ saturated (cond b (saturated q.1) 0 * forest_mass a fs)) [
        | true ↦ sym (saturated_mul_left q.1 (forest_mass a fs))
        | false ↦ (let none : 0 ≡ 0 * forest_mass a fs = omega arith in ap saturated none)
      ]

  abbrev masses : List (Plain × ℕ) → List ℕ
  masses qs = map (term_mass of_quotient a) (with_forest fs qs)

  sum_masses : (qs : List (Plain × ℕ)) → saturated (sum (masses qs)) ≡ saturated (sum (map counted qs) * forest_mass a fs)
  sum_masses [] = let none : 0 ≡ 0 * forest_mass a fs = omega arith in ap saturated none
  sum_masses (q ∷ qs) =
      let first = one_mass q in
      let more : sum (map counted (q ∷ qs)) * forest_mass a fs ≡ counted q * forest_mass a fs + sum (map counted qs) * forest_mass a fs = rw (sum-cons (counted q) (map counted qs)) (omega arith) in
      ap saturated (sum-cons (mass q) (masses qs) ∙ ap (λ (n : ℕ). n + sum (masses qs)) first)
      ∙ saturated_add_left (counted q * forest_mass a fs) (sum (masses qs))
      ∙ sym (saturated_add_right (counted q * forest_mass a fs) (sum (masses qs)))
      ∙ ap (λ (n : ℕ). saturated (counted q * forest_mass a fs + n)) (sum_masses qs)
      ∙ saturated_add_right (counted q * forest_mass a fs) (sum (map counted qs) * forest_mass a fs)
      ∙ ap saturated (sym more)

  pub run_mass : (qs : List (Plain × ℕ)) → mass_sum of_quotient a (with_forest fs qs) ≡ saturating_times (quotient_mass of_quotient qs) (forest_mass a fs)
  run_mass qs =
      saturating_sum_is (masses qs) ∙ sum_masses qs ∙ sym (saturated_mul_left (sum (map counted qs)) (forest_mass a fs))
      ∙ ap (λ (n : ℕ). saturating_times n (forest_mass a fs)) (sym (saturating_sum_is (map counted qs)))

-- one run after the other
pub sum_of_both : (of_quotient : Plain → List PlainTerm) (a : Plain → Weighed) (xs ys : List (Extracted × ℕ)) →
    negated_sum of_quotient a (xs ++ ys) ≡ negated_sum of_quotient a xs ++ negated_sum of_quotient a ys
sum_of_both of_quotient a xs ys = flat_map-append (negated of_quotient a) xs ys

pub sums_of_both : (ms ns : List ℕ) → saturating_sum (ms ++ ns) ≡ saturating_plus (saturating_sum ms) (saturating_sum ns)
sums_of_both ms ns =
    let all = saturating_sum_is (ms ++ ns) in
    let first = saturating_sum_is ms in
    let rest = saturating_sum_is ns in
    let both = sum-append ms ns in
    omega (arith, all, first, rest, both)
  where
    sum-append : (ms ns : List ℕ) → sum (ms ++ ns) ≡ sum ms + sum ns
    sum-append [] ns = omega arith
    sum-append (m ∷ ms) ns = omega (arith, sum-append ms ns, sum-cons m (ms ++ ns), sum-cons m ms)

pub mass_of_both : (of_quotient : Plain → List PlainTerm) (a : Plain → Weighed) (xs ys : List (Extracted × ℕ)) →
    mass_sum of_quotient a (xs ++ ys) ≡ saturating_plus (mass_sum of_quotient a xs) (mass_sum of_quotient a ys)
mass_of_both of_quotient a xs ys = ap saturating_sum (map-append (term_mass of_quotient a) xs ys) ∙ sums_of_both (map (term_mass of_quotient a) xs) (map (term_mass of_quotient a) ys)

pub quotient_sums_of_both : (of_quotient : Plain → List PlainTerm) (qs rs : List (Plain × ℕ)) →
    quotient_sum of_quotient (qs ++ rs) ≡ quotient_sum of_quotient qs ++ quotient_sum of_quotient rs
quotient_sums_of_both of_quotient qs rs = flat_map-append (λ (q : Plain × ℕ). times_all (pos q.1) (of_quotient q.0)) qs rs
