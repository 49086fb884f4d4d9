-- The fractions that a degree text writes have denominators above 0.
use Rattle.std.proofs.Common.{◌≡◌, ℕ, ◌<◌, Bool, true, false, true≢false, List, [], ◌∷◌, length, Option, None, Some, refl, sym, subst, ap, arith}
use Rattle.std.proofs.Math.Logic.{inl, inr}
use Rattle.std.specs.Prelude.{◌⊎◌, ⊤, ◌==◌, unwrap_or, if◌then◌else◌}
use Rattle.std.specs.Bool.{beq}
use Rattle.std.proofs.lemmas.Bool.Decides.{nat_tests}
use Rattle.text_parts.specs.Reading.{◌>>=◌, number_at, mark_at, if_there, nonzero_at, nonzero_after, is_trimmed}
use Rattle.degree_numbers.specs.DegreeText.{Part, factor_at, unit, multiple_at, part_at, sign_at, first_at, second_at, differ, parts_at, nothing, fraction_with, Written, written, written_of}

is_there : {A : Type 0} → Option A → Bool
is_there None = false
is_there (Some a) = true

none_some : {A P : Type 0} (a : A) → ◌≡◌ {A = Option A} None (Some a) → P
unfolding is_there
none_some a h = absurd (true≢false (sym (ap is_there h)))

-- what is read in two steps is read in the first, and then in the second
bind_some : {A B : Type 0} (r : Option A) (f : A → Option B) (b : B) → (r >>= f) ≡ Some b → (a : A) × (r ≡ Some a) × (f a ≡ Some b)
bind_some None f b h = none_some b h
bind_some (Some a) f b h = (a, refl, h)

or_else : {A : Type 0} → A → Option A → A
or_else d None = d
or_else d (Some a) = a

same_some : {A : Type 0} (a b : A) → ◌≡◌ {A = Option A} (Some a) (Some b) → a ≡ b
unfolding or_else
same_some a b h = ap (or_else a) h

-- what stands behind an optional mark is read there, or the mark is not there
there_or : {A : Type 0} (o : Option (List ℕ)) (there : List ℕ → A) (without a : A) →
    if_there o there without ≡ a → ((rest : List ℕ) × (there rest ≡ a)) ⊎ (without ≡ a)
there_or None there without a h = inr h
there_or (Some rest) there without a h = inl (rest, h)

-- which side of a test was taken
side_of : {A : Type 0} (c : Bool) (first second a : A) → (if c then first else second) ≡ a → ((c ≡ true) × (first ≡ a)) ⊎ ((c ≡ false) × (second ≡ a))
side_of true first second a h = inl (refl, h)
side_of false first second a h = inr (refl, h)

above_zero : (n : ℕ) → (n == 0) ≡ false → 0 < n
above_zero n h = grind (arith, nat_tests)

nonzero_above : (text : List ℕ) (r : ℕ × List ℕ) → nonzero_at text ≡ Some r → 0 < r.0
unfolding nonzero_at
nonzero_above text r h =
    let n = bind_some (number_at text) _ r h in
    elim (side_of (n.0.0 == 0) None (Some n.0) (Some r) n.2) [
      | inl p ↦ none_some r p.1
      | inr p ↦ subst (λ x. 0 < x.0) (same_some n.0 r p.1) (above_zero n.0.0 p.0)
    ]

nonzero_after_above : (mark : ℕ) (text : List ℕ) (r : ℕ × List ℕ) → nonzero_after mark text ≡ Some r → 0 < r.0
unfolding nonzero_after
nonzero_after_above mark text r h =
    elim (there_or (mark_at mark text) nonzero_at (Some (1, text)) (Some r) h) [
      | inl p ↦ nonzero_above p.0 r p.1
      | inr p ↦ subst (λ x. 0 < x.0) (same_some (1, text) r p) (omega arith)
    ]

multiple_above : (negative : Bool) (text : List ℕ) (r : Part × List ℕ) → multiple_at negative text ≡ Some r → 0 < r.0.fraction.den
unfolding multiple_at
multiple_above negative text r h =
    let n = bind_some (number_at text) _ r h in
    let d = bind_some (nonzero_after 47 n.0.1) _ r n.2 in
    let k = bind_some (factor_at d.0.1) _ r d.2 in
    let made : Part = record { fraction = record { negative = negative; num = n.0.0; den = d.0.0 }; has_k = k.0.0 } in
    subst (λ x. 0 < x.0.fraction.den) (same_some (made, k.0.1) r k.2) (nonzero_after_above 47 n.0.1 d.0 d.1)

abbrev k_alone : Bool → Part
k_alone negative = record { fraction = unit negative; has_k = true }

part_above : (negative : Bool) (text : List ℕ) (r : Part × List ℕ) → part_at negative text ≡ Some r → 0 < r.0.fraction.den
unfolding part_at
part_above negative text r h =
    elim (there_or (mark_at 107 text) (λ rest. Some (k_alone negative, rest)) (multiple_at negative text) (Some r) h) [
      | inl p ↦ subst (λ x. 0 < x.0.fraction.den) (same_some (k_alone negative, p.0) r p.1) (omega arith)
      | inr p ↦ multiple_above negative text r p
    ]

first_above : (text : List ℕ) (r : Part × List ℕ) → first_at text ≡ Some r → 0 < r.0.fraction.den
unfolding first_at
first_above text r h = part_above (unwrap_or (sign_at text) (false, text)).0 (unwrap_or (sign_at text) (false, text)).1 r h

abbrev IsSecondAbove : Option Part → Type 0
IsSecondAbove None = ⊤
IsSecondAbove (Some p) = 0 < p.fraction.den

second_above : (text : List ℕ) (r : Option Part) → second_at text ≡ Some r → IsSecondAbove r
unfolding second_at
second_above [] r h = subst IsSecondAbove (same_some None r h) tt
second_above (c ∷ cs) r h =
    let s = bind_some (sign_at (c ∷ cs)) _ r h in
    let p = bind_some (part_at s.0.0 s.0.1) _ r s.2 in
    elim (side_of (length p.0.1 == 0) (Some (Some p.0.0)) None (Some r) p.2) [
      | inl q ↦ subst IsSecondAbove (same_some (Some p.0.0) r q.1) (part_above s.0.0 s.0.1 p.0 p.1)
      | inr q ↦ none_some r q.1
    ]

abbrev IsPairAbove : Part × Option Part → Type 0
IsPairAbove ps = (0 < ps.0.fraction.den) × IsSecondAbove ps.1

parts_above : (text : List ℕ) (r : Part × Option Part) → parts_at text ≡ Some r → IsPairAbove r
unfolding parts_at
parts_above text r h =
    let f = bind_some (first_at text) _ r h in
    let s = bind_some (second_at f.0.1) _ r f.2 in
    elim (side_of (differ f.0.0 s.0) (Some (f.0.0, s.0)) None (Some r) s.2) [
      | inl q ↦ subst IsPairAbove (same_some (f.0.0, s.0) r q.1) (first_above text f.0 f.1, second_above f.0.1 s.0 s.1)
      | inr q ↦ none_some r q.1
    ]

-- what is written has denominators above 0
pub record IsAbove (w : Written) : Type 0 where
  pub plain : 0 < w.plain.den
  pub with_k : 0 < w.with_k.den

chosen : {A : Type 0} (P : A → Type 0) (c : Bool) (a b : A) → P a → P b → P (if c then a else b)
chosen P true a b p q = p
chosen P false a b p q = q

fraction_above : (has_k : Bool) (first : Part) (second : Option Part) → 0 < first.fraction.den →
    IsSecondAbove second → 0 < (fraction_with has_k first second).den
fraction_above has_k first None above above_second = chosen (λ f. 0 < f.den) (beq first.has_k has_k) first.fraction nothing above (omega arith)
fraction_above has_k first (Some second) above above_second = chosen (λ f. 0 < f.den) (beq first.has_k has_k) first.fraction second.fraction above above_second

pub written_above : (text : List ℕ) (w : Written) → written_of text ≡ Some w → IsAbove w
unfolding written_of
written_above text w h =
    elim (side_of (is_trimmed text) (parts_at text >>= (λ parts. Some (written parts.0 parts.1))) None (Some w) h) [
      | inl p ↦
          let ps = bind_some (parts_at text) _ w p.1 in
          let above = parts_above text ps.0 ps.1 in
          subst IsAbove (same_some (written ps.0.0 ps.0.1) w ps.2)
          record { plain = fraction_above false ps.0.0 ps.0.1 above.0 above.1; with_k = fraction_above true ps.0.0 ps.0.1 above.0 above.1 }
      | inr p ↦ none_some w p.1
    ]
