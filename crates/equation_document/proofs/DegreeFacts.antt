-- What is true of the degrees that a text is read as.
use Rattle.std.proofs.Common.{◌≡◌, ℕ, ◌<◌, ◌≤◌, Bool, true, false, List, [], ◌∷◌, length, Option, None, Some, sym, subst, arith}
use Rattle.std.proofs.Math.Logic.{inl, inr}
use Rattle.std.specs.Prelude.{⊤, ◌==◌, nat_lt, find, unwrap_or, if◌then◌else◌}
use Rattle.std.specs.Bool.{beq}
use Rattle.std.proofs.lemmas.Bool.Decides.{nat_tests}
use Rattle.text_parts.specs.Reading.{◌>>=◌, number_at, mark_at, nonzero_after, is_trimmed}
use Rattle.degree_numbers.specs.DegreeText.{Part, factor_at, unit, multiple_at, part_at, sign_at, first_at, second_at, differ, parts_at, nothing, fraction_with, large_in, first_large, Written, written, written_of}
use Rattle.degree_numbers.specs.Fraction.{Fraction}
use Rattle.equation_document.proofs.DocumentRead.{IsDegreeRead}
use Rattle.equation_document.proofs.FirstOfLemmas.{neither}
use Rattle.right_side_text.proofs.TermFacts.{bind_some, none_some, same_some, there_or, side_of, nonzero_after_above}

multiple_above : (negative : Bool) (text : List ℕ) (r : Part × List ℕ) → multiple_at negative text ≡ Some r → 0 < r.0.fraction.den
unfolding multiple_at
multiple_above negative text r h =
    let n = bind_some (number_at text) _ r h in
    let d = bind_some (nonzero_after 47 n.0.1) _ r n.2 in
    let k = bind_some (factor_at d.0.1) _ r d.2 in
    let made : Part = record { fraction = record { negative = negative; num = n.0.0; den = d.0.0 }; has_k = k.0.0 } in
    subst (λ x. 0 < x.0.fraction.den) (same_some (made, k.0.1) r k.2) (nonzero_after_above 47 n.0.1 d.0 d.1)

abbrev k_alone : Bool → Part
k_alone negative = record { fraction = unit negative; has_k = true }

part_above : (negative : Bool) (text : List ℕ) (r : Part × List ℕ) → part_at negative text ≡ Some r → 0 < r.0.fraction.den
unfolding part_at
part_above negative text r h =
    elim (there_or (mark_at 107 text) (λ rest. Some (k_alone negative, rest)) (multiple_at negative text) (Some r) h) [
      | inl p ↦ subst (λ x. 0 < x.0.fraction.den) (same_some (k_alone negative, p.0) r p.1) (omega arith)
      | inr p ↦ multiple_above negative text r p
    ]

first_above : (text : List ℕ) (r : Part × List ℕ) → first_at text ≡ Some r → 0 < r.0.fraction.den
unfolding first_at
first_above text r h = part_above (unwrap_or (sign_at text) (false, text)).0 (unwrap_or (sign_at text) (false, text)).1 r h

abbrev IsSecondAbove : Option Part → Type 0
IsSecondAbove None = ⊤
IsSecondAbove (Some p) = 0 < p.fraction.den

second_above : (text : List ℕ) (r : Option Part) → second_at text ≡ Some r → IsSecondAbove r
unfolding second_at
second_above [] r h = subst IsSecondAbove (same_some None r h) tt
second_above (c ∷ cs) r h =
    let s = bind_some (sign_at (c ∷ cs)) _ r h in
    let p = bind_some (part_at s.0.0 s.0.1) _ r s.2 in
    elim (side_of (length p.0.1 == 0) (Some (Some p.0.0)) None (Some r) p.2) [
      | inl q ↦ subst IsSecondAbove (same_some (Some p.0.0) r q.1) (part_above s.0.0 s.0.1 p.0 p.1)
      | inr q ↦ none_some r q.1
    ]

abbrev IsPairAbove : Part × Option Part → Type 0
IsPairAbove ps = (0 < ps.0.fraction.den) × IsSecondAbove ps.1

parts_above : (text : List ℕ) (r : Part × Option Part) → parts_at text ≡ Some r → IsPairAbove r
unfolding parts_at
parts_above text r h =
    let f = bind_some (first_at text) _ r h in
    let s = bind_some (second_at f.0.1) _ r f.2 in
    elim (side_of (differ f.0.0 s.0) (Some (f.0.0, s.0)) None (Some r) s.2) [
      | inl q ↦ subst IsPairAbove (same_some (f.0.0, s.0) r q.1) (first_above text f.0 f.1, second_above f.0.1 s.0 s.1)
      | inr q ↦ none_some r q.1
    ]

-- the denominator of f is not 0; and where no number is past 1,000,000, so are none of f
record IsFractionRead (large : Option ℕ) (f : Fraction) : Type 0 where
  above : 0 < f.den
  num : large ≡ None → f.num ≤ 1000000
  den : large ≡ None → f.den ≤ 1000000

not_past : (n : ℕ) → nat_lt 1000000 n ≡ false → n ≤ 1000000
not_past n h = grind (arith, nat_tests)

none_past : (n m : ℕ) → find (λ i. nat_lt 1000000 i) (n ∷ m ∷ []) ≡ None → (n ≤ 1000000) × (m ≤ 1000000)
none_past n m h =
    elim (side_of (nat_lt 1000000 n) (Some n) (find (λ i. nat_lt 1000000 i) (m ∷ [])) None h) [
      | inl p ↦ none_some n (sym p.1)
      | inr p ↦ elim (side_of (nat_lt 1000000 m) (Some m) None None p.1) [
        | inl q ↦ none_some m (sym q.1)
        | inr q ↦ (not_past n p.0, not_past m q.0)
      ]
    ]

small_read : (large : Option ℕ) (f : Fraction) → 0 < f.den → (large ≡ None → large_in f ≡ None) → IsFractionRead large f
small_read large f above small = record { above = above; num = λ e. (none_past f.num f.den (small e)).0; den = λ e. (none_past f.num f.den (small e)).1 }

nothing_read : (large : Option ℕ) → IsFractionRead large nothing
nothing_read large = record { above = omega arith; num = λ e. omega arith; den = λ e. omega arith }

chosen : {A : Type 0} (P : A → Type 0) (c : Bool) (a b : A) → P a → P b → P (if c then a else b)
chosen P true a b p q = p
chosen P false a b p q = q

fraction_read : (has_k : Bool) (first : Part) (second : Option Part) → 0 < first.fraction.den →
    IsSecondAbove second →
    IsFractionRead (first_large first second) (fraction_with has_k first second)
fraction_read has_k first None above above_second =
    let large = first_large first None in
    chosen (IsFractionRead large) (beq first.has_k has_k) first.fraction nothing
    (small_read large first.fraction above (λ e. (neither (large_in first.fraction) None e).0)) (nothing_read large)
fraction_read has_k first (Some second) above above_second =
    let large = first_large first (Some second) in
    chosen (IsFractionRead large) (beq first.has_k has_k) first.fraction second.fraction
    (small_read large first.fraction above (λ e. (neither (large_in first.fraction) (large_in second.fraction) e).0))
    (small_read large second.fraction above_second (λ e. (neither (large_in first.fraction) (large_in second.fraction) e).1))

parts_read : (first : Part) (second : Option Part) → 0 < first.fraction.den → IsSecondAbove second → IsDegreeRead (written first second)
parts_read first second above above_second =
    let plain = fraction_read false first second above above_second in
    let k = fraction_read true first second above above_second in
    record { plain_above = plain.above; k_above = k.above; plain_num = plain.num; plain_den = plain.den; k_num = k.num; k_den = k.den }

pub degree_read : (text : List ℕ) (w : Written) → written_of text ≡ Some w → IsDegreeRead w
unfolding written_of
degree_read text w h =
    elim (side_of (is_trimmed text) (parts_at text >>= (λ parts. Some (written parts.0 parts.1))) None (Some w) h) [
      | inl p ↦
          let ps = bind_some (parts_at text) _ w p.1 in
          let above = parts_above text ps.0 ps.1 in
          subst IsDegreeRead (same_some (written ps.0.0 ps.0.1) w ps.2) (parts_read ps.0.0 ps.0.1 above.0 above.1)
      | inr p ↦ none_some w p.1
    ]
