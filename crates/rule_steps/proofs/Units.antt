-- Edge types raised by one more unit in a direction.
use Rattle.std.proofs.Common.{◌≡◌, ℕ, zero, suc, ◌+◌, ◌≤◌, ◌<◌, List, [], ◌∷◌, length, refl, sym, ap, ◌∙◌, subst, arith, inl, inr, ◌⊎◌}
use Rattle.std.specs.List.{AllByRecursion}
use Rattle.degree_numbers.specs.Multi.{plus_of}
use Rattle.tree_cuttings.proofs.Multinomials.{plus_assoc, plus_comm}
use Rattle.conforming_trees.specs.Conforming.{EdgeLabel}
use Rattle.rule_stages.specs.Stages.{IsRaised}
use Rattle.rule_steps.specs.Units.{bump, bump_label, IsBumped}

bump-plus-left : (d : ℕ) (xs ys : List ℕ) → d < length xs → bump d (plus_of xs ys) ≡ plus_of (bump d xs) ys
bump-plus-left d [] ys h = absurd (omega (arith, h))
bump-plus-left zero (x ∷ xs) [] h = refl
bump-plus-left (suc d) (x ∷ xs) [] h = refl
bump-plus-left zero (x ∷ xs) (y ∷ ys) h = let first : suc (x + y) ≡ suc x + y = omega arith in cc
bump-plus-left (suc d) (x ∷ xs) (y ∷ ys) h = ap (λ (l : List ℕ). (x + y) ∷ l) (bump-plus-left d xs ys (omega (arith, h)))

-- one unit, and nothing else
abbrev pub unit_at : ℕ → List ℕ
unit_at zero = 1 ∷ []
unit_at (suc d) = 0 ∷ unit_at d

bump-unit : (d : ℕ) (xs : List ℕ) → d < length xs → plus_of (unit_at d) xs ≡ bump d xs
bump-unit d [] h = absurd (omega (arith, h))
bump-unit zero (x ∷ xs) h = let first : 1 + x ≡ suc x = omega arith in cc
bump-unit (suc d) (x ∷ xs) h = let first : 0 + x ≡ x = omega arith in let rest : plus_of (unit_at d) xs ≡ bump d xs = bump-unit d xs (omega (arith, h)) in cc

-- one unit of a sum is one of a part
OfFirst : ℕ → List ℕ → List ℕ → List ℕ → Type 0
OfFirst d n shift rest = (less : List ℕ) × (shift ≡ plus_of (unit_at d) less) × (n ≡ plus_of less rest) × (d < length less)

OfSecond : ℕ → List ℕ → List ℕ → List ℕ → Type 0
OfSecond d n shift rest = (less : List ℕ) × (rest ≡ plus_of (unit_at d) less) × (n ≡ plus_of shift less) × (d < length less)

unit-split : (d : ℕ) (n shift rest : List ℕ) → d < length n → plus_of (unit_at d) n ≡ plus_of shift rest → OfFirst d n shift rest ⊎ OfSecond d n shift rest
unfolding OfFirst OfSecond
unit-split d [] shift rest h e = absurd (omega (arith, h))
unit-split d (x ∷ xs) [] rest h e = inr (x ∷ xs, sym e, refl, h)
unit-split zero (x ∷ xs) (s ∷ ss) [] h e = inl (x ∷ xs, sym e, refl, h)
unit-split (suc d) (x ∷ xs) (s ∷ ss) [] h e = inl (x ∷ xs, sym e, refl, h)
unit-split zero (x ∷ xs) (suc s ∷ ss) (r ∷ rs) h e =
    let first : 1 + x ≡ suc s + r = cc in
    let rest : xs ≡ plus_of ss rs = cc in
    let same : suc s ≡ 1 + s = omega arith in
    let both : x ≡ s + r = omega (arith, first) in
    inl (s ∷ ss, cc, cc, omega arith)
unit-split zero (x ∷ xs) (zero ∷ ss) (zero ∷ rs) h e = absurd (let first : 1 + x ≡ 0 + 0 = cc in omega (arith, first))
unit-split zero (x ∷ xs) (zero ∷ ss) (suc r ∷ rs) h e =
    let first : 1 + x ≡ 0 + suc r = cc in
    let rest : xs ≡ plus_of ss rs = cc in
    let same : suc r ≡ 1 + r = omega arith in
    let both : x ≡ 0 + r = omega (arith, first) in
    inr (r ∷ rs, cc, cc, omega arith)
unit-split (suc d) (x ∷ xs) (s ∷ ss) (r ∷ rs) h e =
    let first : 0 + x ≡ s + r = cc in
    let rest : plus_of (unit_at d) xs ≡ plus_of ss rs = cc in
    let here : x ≡ s + r = omega (arith, first) in
    let nought_s : s ≡ 0 + s = omega arith in
    let nought_r : r ≡ 0 + r = omega arith in
    elim (unit-split d xs ss rs (omega (arith, h)) rest) [
      | inl one ↦ (let p = one.1 in let q = one.2 in let l = one.3 in inl (s ∷ one.0, cc, cc, omega (arith, l)))
      | inr two ↦ (let p = two.1 in let q = two.2 in let l = two.3 in inr (r ∷ two.0, cc, cc, omega (arith, l)))
    ]

-- each edge type has direction d
abbrev pub HasDirection : ℕ → EdgeLabel → Type 0
HasDirection d e = d < length e.1

pub length-plus-left : (xs ys : List ℕ) → length xs ≤ length (plus_of xs ys)
length-plus-left [] ys = omega arith
length-plus-left (x ∷ xs) [] = omega arith
length-plus-left (x ∷ xs) (y ∷ ys) = let rest = length-plus-left xs ys in omega (arith, rest)

swap : (u m s : List ℕ) → plus_of u (plus_of m s) ≡ plus_of m (plus_of u s)
swap u m s = sym (plus_assoc u m s) ∙ ap (λ l. plus_of l s) (plus_comm u m) ∙ plus_assoc m u s

-- with one more unit there is what there was, and each of these raised by it
pub one_more : (d : ℕ) (n : List ℕ) (ms qs rs : List EdgeLabel) →
    AllByRecursion (HasDirection d) ms → IsRaised n ms qs → IsBumped d qs rs →
    IsRaised (plus_of (unit_at d) n) ms rs
one_more d n [] [] rs wide h b = absurd b
one_more d n [] (q ∷ qs) rs wide h b = absurd h
one_more d n (m ∷ ms) [] rs wide h b = absurd h
one_more d n (m ∷ ms) (q ∷ qs) [] wide h b = absurd b
one_more d n (m ∷ ms) (q ∷ qs) (r ∷ rs) wide h b =
    elim b [
      | inl here ↦
          let parted : plus_of (unit_at d) n ≡ plus_of (plus_of (unit_at d) h.0) h.1 = ap (plus_of (unit_at d)) h.2 ∙ sym (plus_assoc (unit_at d) h.0 h.1) in
          let long : d < length q.1 = (let w = wide.0 in let l = length-plus-left m.1 h.0 in let e = ap length h.4 in omega (arith, w, l, e)) in
          let label : r.1 ≡ plus_of m.1 (plus_of (unit_at d) h.0) =
          ap (λ (e : EdgeLabel). e.1) here.0 ∙ sym (bump-unit d q.1 long) ∙ ap (plus_of (unit_at d)) h.4 ∙ swap (unit_at d) m.1 h.0 in
          (plus_of (unit_at d) h.0, h.1, parted, ap (λ (e : EdgeLabel). e.0) here.0 ∙ h.3, label, subst (IsRaised h.1 ms) (sym here.1) h.5)
      | inr later ↦
          let parted : plus_of (unit_at d) n ≡ plus_of h.0 (plus_of (unit_at d) h.1) = ap (plus_of (unit_at d)) h.2 ∙ swap (unit_at d) h.0 h.1 in
          (h.0, plus_of (unit_at d) h.1, parted, ap (λ (e : EdgeLabel). e.0) later.0 ∙ h.3, ap (λ (e : EdgeLabel). e.1) later.0 ∙ h.4, one_more d h.1 ms qs rs wide.1 h.5 later.1)
    ]

abbrev pub MoreFrom : ℕ → List ℕ → List EdgeLabel → List EdgeLabel → Type 0
MoreFrom d n ms rs = IsRaised n ms rs ⊎ ((qs : List EdgeLabel) × IsRaised n ms qs × IsBumped d qs rs)

pub one_less : (d : ℕ) (n : List ℕ) (ms rs : List EdgeLabel) → d < length n →
    AllByRecursion (HasDirection d) ms → IsRaised (plus_of (unit_at d) n) ms rs → MoreFrom d n ms rs
unfolding OfFirst OfSecond
one_less d n [] [] long wide h = inl tt
one_less d n [] (r ∷ rs) long wide h = absurd h
one_less d n (m ∷ ms) [] long wide h = absurd h
one_less d n (m ∷ ms) (r ∷ rs) long wide h =
    elim (unit-split d n h.0 h.1 long h.2) [
      | inl first ↦
          let q : EdgeLabel = (m.0, plus_of m.1 first.0) in
          let wide_q : d < length q.1 = (let w = wide.0 in let l = length-plus-left m.1 first.0 in omega (arith, w, l)) in
          let label : r.1 ≡ bump d q.1 = h.4 ∙ ap (plus_of m.1) first.1 ∙ sym (swap (unit_at d) m.1 first.0) ∙ bump-unit d q.1 wide_q in
          let same : r ≡ bump_label d q = ap (λ (k : ℕ). (k, r.1)) h.3 ∙ ap (λ (l : List ℕ). (m.0, l)) label in
          inr (q ∷ rs, (first.0, h.1, first.2, refl, refl, h.5), inl (same, refl))
      | inr second ↦
          elim (one_less d second.0 ms rs second.3 wide.1 (subst (λ (l : List ℕ). IsRaised l ms rs) second.1 h.5)) [
            | inl old ↦ inl (h.0, second.0, second.2, h.3, h.4, old)
            | inr new ↦ inr (r ∷ new.0, (h.0, second.0, second.2, h.3, h.4, new.1), inr (refl, new.2))
          ]
    ]
