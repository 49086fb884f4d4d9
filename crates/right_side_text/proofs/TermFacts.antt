-- What is true of the terms that a right side is read as.
--   IsFactorWritten dims f == the derivative of f has no entry or one for each dimension, its power
--       is not 0
--   IsTermWritten dims t == so is each factor of t, and the denominator of its coefficient is not 0
use Rattle.std.proofs.Common.{◌≡◌, ℕ, zero, suc, ◌+◌, ◌<◌, Bool, true, false, true≢false, List, [], ◌∷◌, ◌++◌, length, Option, None, Some, refl, sym, subst, ap, arith}
use Rattle.std.proofs.Math.Logic.{inl, inr}
use Rattle.std.specs.Prelude.{◌⊎◌, ◌==◌, unwrap_or, if◌then◌else◌}
use Rattle.std.specs.List.{AllByRecursion}
use Rattle.std.proofs.lemmas.Bool.Decides.{nat_tests}
use Rattle.std.proofs.lemmas.List.{length-append}
use Rattle.text_parts.specs.Reading.{◌>>=◌, skip, digits_len, number_at, mark_at, if_there, nonzero_at, nonzero_after, is_trimmed}
use Rattle.right_side_text.specs.Grammar.{name_at, entry_at, entries_at, derivative_at, factor_at, factors_at, coefficient_at, bare_at, with_coefficient_at, term_at, sign_at, terms_at, first_at, sum_at, right_side}
use Rattle.right_side_text.specs.declared.written.WrittenFactor.{WrittenFactor}
use Rattle.right_side_text.specs.declared.written.WrittenFraction.{WrittenFraction}
use Rattle.right_side_text.specs.declared.written.WrittenTerm.{WrittenTerm}

pub record IsFactorWritten (dims : ℕ) (f : WrittenFactor) : Type 0 where
  pub entries : (length f.entries ≡ 0) ⊎ (length f.entries ≡ dims)
  pub power : 0 < f.power

pub record IsTermWritten (dims : ℕ) (t : WrittenTerm) : Type 0 where
  pub den_above : 0 < t.coefficient.den
  pub factors : AllByRecursion (IsFactorWritten dims) t.factors

is_there : {A : Type 0} → Option A → Bool
is_there None = false
is_there (Some a) = true

pub none_some : {A P : Type 0} (a : A) → ◌≡◌ {A = Option A} None (Some a) → P
unfolding is_there
none_some a h = absurd (true≢false (sym (ap is_there h)))

-- what is read in two steps is read in the first, and then in the second
pub bind_some : {A B : Type 0} (r : Option A) (f : A → Option B) (b : B) → (r >>= f) ≡ Some b → (a : A) × (r ≡ Some a) × (f a ≡ Some b)
bind_some None f b h = none_some b h
bind_some (Some a) f b h = (a, refl, h)

or_else : {A : Type 0} → A → Option A → A
or_else d None = d
or_else d (Some a) = a

pub same_some : {A : Type 0} (a b : A) → ◌≡◌ {A = Option A} (Some a) (Some b) → a ≡ b
unfolding or_else
same_some a b h = ap (or_else a) h

-- what stands behind an optional mark is read there, or the mark is not there
pub there_or : {A : Type 0} (o : Option (List ℕ)) (there : List ℕ → A) (without a : A) →
    if_there o there without ≡ a → ((rest : List ℕ) × (there rest ≡ a)) ⊎ (without ≡ a)
there_or None there without a h = inr h
there_or (Some rest) there without a h = inl (rest, h)

-- which side of a test was taken
pub side_of : {A : Type 0} (c : Bool) (first second a : A) → (if c then first else second) ≡ a → ((c ≡ true) × (first ≡ a)) ⊎ ((c ≡ false) × (second ≡ a))
side_of true first second a h = inl (refl, h)
side_of false first second a h = inr (refl, h)

pub all_push : {A : Type 0} (P : A → Type 0) (xs : List A) (x : A) → AllByRecursion P xs → P x → AllByRecursion P (xs ++ x ∷ [])
all_push P [] x h p = (p, tt)
all_push P (y ∷ xs) x h p = (h.0, all_push P xs x h.1 p)

above_zero : (n : ℕ) → (n == 0) ≡ false → 0 < n
above_zero n h = grind (arith, nat_tests)

pub nonzero_above : (text : List ℕ) (r : ℕ × List ℕ) → nonzero_at text ≡ Some r → 0 < r.0
unfolding nonzero_at
nonzero_above text r h =
    let n = bind_some (number_at text) _ r h in
    elim (side_of (n.0.0 == 0) None (Some n.0) (Some r) n.2) [
      | inl p ↦ none_some r p.1
      | inr p ↦ subst (λ x. 0 < x.0) (same_some n.0 r p.1) (above_zero n.0.0 p.0)
    ]

pub nonzero_after_above : (mark : ℕ) (text : List ℕ) (r : ℕ × List ℕ) → nonzero_after mark text ≡ Some r → 0 < r.0
unfolding nonzero_after
nonzero_after_above mark text r h =
    elim (there_or (mark_at mark text) nonzero_at (Some (1, text)) (Some r) h) [
      | inl p ↦ nonzero_above p.0 r p.1
      | inr p ↦ subst (λ x. 0 < x.0) (same_some (1, text) r p) (omega arith)
    ]

entries_length : (n mark : ℕ) (found text : List ℕ) (r : List ℕ × List ℕ) → entries_at n mark found text ≡ Some r → length r.0 ≡ length found + n
unfolding entries_at
entries_length zero mark found text r h = subst (λ x. length x.0 ≡ length found + 0) (same_some (found, text) r h) (omega arith)
entries_length (suc n) mark found text r h =
    let b = bind_some (entry_at mark text) _ r h in
    let rest = entries_length n 44 (found ++ b.0.0 ∷ []) b.0.1 r b.2 in
    omega (arith, rest, length-append found (b.0.0 ∷ []))

closed : (dims : ℕ) (rest : List ℕ) (r : List ℕ × List ℕ) →
    (entries_at dims 40 [] rest >>= (λ entries. mark_at 41 entries.1 >>= (λ close_rest. Some (entries.0, close_rest)))) ≡ Some r →
    length r.0 ≡ dims
closed dims rest r h =
    let b = bind_some (entries_at dims 40 [] rest) _ r h in
    let c = bind_some (mark_at 41 b.0.1) _ r b.2 in
    let e = entries_length dims 40 [] rest b.0 b.1 in
    subst (λ x. length x.0 ≡ dims) (same_some (b.0.0, c.0) r c.2) (omega (arith, e))

derivative_fits : (dims : ℕ) (text : List ℕ) (r : List ℕ × List ℕ) → derivative_at dims text ≡ Some r → (length r.0 ≡ 0) ⊎ (length r.0 ≡ dims)
unfolding derivative_at
derivative_fits dims text r h =
    elim (there_or (mark_at 39 text) (λ rest. entries_at dims 40 [] rest >>= (λ entries. mark_at 41 entries.1 >>= (λ close_rest. Some (entries.0, close_rest)))) (Some ([], text)) (Some r) h) [
      | inl p ↦ inr (closed dims p.0 r p.1)
      | inr p ↦ inl (subst (λ x. length x.0 ≡ 0) (same_some ([], text) r p) refl)
    ]

factor_written : (dims : ℕ) (text : List ℕ) (r : WrittenFactor × List ℕ) → factor_at dims text ≡ Some r → IsFactorWritten dims r.0
unfolding factor_at
factor_written dims text r h =
    let n = bind_some (name_at text) _ r h in
    let d = bind_some (derivative_at dims n.0.1) _ r n.2 in
    let p = bind_some (nonzero_after 94 d.0.1) _ r d.2 in
    let made : WrittenFactor = record { name = n.0.0; entries = d.0.0; power = p.0.0 } in
    let is : IsFactorWritten dims made = record { entries = derivative_fits dims n.0.1 d.0 d.1; power = nonzero_after_above 94 d.0.1 p.0 p.1 } in
    subst (λ x. IsFactorWritten dims x.0) (same_some (made, p.0.1) r p.2) is

factors_written : (n dims : ℕ) (found : List WrittenFactor) (text : List ℕ) (r : List WrittenFactor × List ℕ) →
    AllByRecursion (IsFactorWritten dims) found → factors_at n dims found text ≡ Some r →
    AllByRecursion (IsFactorWritten dims) r.0
unfolding factors_at
factors_written zero dims found text r so h = none_some r h
factors_written (suc n) dims found text r so h =
    let f = bind_some (factor_at dims text) _ r h in
    let more = all_push (IsFactorWritten dims) found f.0.0 so (factor_written dims text f.0 f.1) in
    elim (there_or (mark_at 42 f.0.1) (factors_at n dims (found ++ f.0.0 ∷ [])) (Some (found ++ f.0.0 ∷ [], f.0.1)) (Some r) f.2) [
      | inl p ↦ factors_written n dims (found ++ f.0.0 ∷ []) p.0 r more p.1
      | inr p ↦ subst (λ x. AllByRecursion (IsFactorWritten dims) x.0) (same_some (found ++ f.0.0 ∷ [], f.0.1) r p) more
    ]

coefficient_above : (negative : Bool) (text : List ℕ) (r : WrittenFraction × List ℕ) → coefficient_at negative text ≡ Some r → 0 < r.0.den
unfolding coefficient_at
coefficient_above negative text r h =
    let n = bind_some (number_at text) _ r h in
    let d = bind_some (nonzero_after 47 n.0.1) _ r n.2 in
    let made : WrittenFraction = record { negative = negative; num = n.0.0; den = d.0.0 } in
    subst (λ x. 0 < x.0.den) (same_some (made, d.0.1) r d.2) (nonzero_after_above 47 n.0.1 d.0 d.1)

bare_written : (dims : ℕ) (negative : Bool) (text : List ℕ) (r : WrittenTerm × List ℕ) → bare_at dims negative text ≡ Some r → IsTermWritten dims r.0
unfolding bare_at
bare_written dims negative text r h =
    let f = bind_some (factors_at (length text) dims [] text) _ r h in
    let made : WrittenTerm = record { coefficient = record { negative = negative; num = 1; den = 1 }; factors = f.0.0 } in
    let is : IsTermWritten dims made = record { den_above = omega arith; factors = factors_written (length text) dims [] text f.0 tt f.1 } in
    subst (λ x. IsTermWritten dims x.0) (same_some (made, f.0.1) r f.2) is

factors_behind : (dims : ℕ) (text : List ℕ) (r : List WrittenFactor × List ℕ) →
    if_there (mark_at 42 text) (λ rest. factors_at (length rest) dims [] rest) (Some ([], text)) ≡ Some r →
    AllByRecursion (IsFactorWritten dims) r.0
factors_behind dims text r h =
    elim (there_or (mark_at 42 text) (λ rest. factors_at (length rest) dims [] rest) (Some ([], text)) (Some r) h) [
      | inl p ↦ factors_written (length p.0) dims [] p.0 r tt p.1
      | inr p ↦ subst (λ x. AllByRecursion (IsFactorWritten dims) x.0) (same_some ([], text) r p) tt
    ]

with_coefficient_written : (dims : ℕ) (negative : Bool) (text : List ℕ) (r : WrittenTerm × List ℕ) →
    with_coefficient_at dims negative text ≡ Some r → IsTermWritten dims r.0
unfolding with_coefficient_at
with_coefficient_written dims negative text r h =
    let c = bind_some (coefficient_at negative text) _ r h in
    let f = bind_some (if_there (mark_at 42 c.0.1) (λ rest. factors_at (length rest) dims [] rest) (Some ([], c.0.1))) _ r c.2 in
    let made : WrittenTerm = record { coefficient = c.0.0; factors = f.0.0 } in
    let is : IsTermWritten dims made = record { den_above = coefficient_above negative text c.0 c.1; factors = factors_behind dims c.0.1 f.0 f.1 } in
    subst (λ x. IsTermWritten dims x.0) (same_some (made, f.0.1) r f.2) is

term_written : (dims : ℕ) (negative : Bool) (text : List ℕ) (r : WrittenTerm × List ℕ) → term_at dims negative text ≡ Some r → IsTermWritten dims r.0
unfolding term_at
term_written dims negative text r h =
    elim (side_of (digits_len text == 0) (bare_at dims negative text) (with_coefficient_at dims negative text) (Some r) h) [
      | inl p ↦ bare_written dims negative text r p.1
      | inr p ↦ with_coefficient_written dims negative text r p.1
    ]

terms_written : (n dims : ℕ) (found : List WrittenTerm) (text : List ℕ) (r : List WrittenTerm) →
    AllByRecursion (IsTermWritten dims) found → terms_at n dims found text ≡ Some r →
    AllByRecursion (IsTermWritten dims) r
unfolding terms_at
terms_written zero dims found text r so h = none_some r h
terms_written (suc n) dims found text r so h =
    elim (side_of (length text == 0) (Some found) (sign_at text >>= (λ sign. term_at dims sign.0 sign.1 >>= (λ term. terms_at n dims (found ++ term.0 ∷ []) term.1))) (Some r) h) [
      | inl p ↦ subst (AllByRecursion (IsTermWritten dims)) (same_some found r p.1) so
      | inr p ↦
          let s = bind_some (sign_at text) _ r p.1 in
          let t = bind_some (term_at dims s.0.0 s.0.1) _ r s.2 in
          terms_written n dims (found ++ t.0.0 ∷ []) t.0.1 r (all_push (IsTermWritten dims) found t.0.0 so (term_written dims s.0.0 s.0.1 t.0 t.1)) t.2
    ]

first_written : (dims : ℕ) (text : List ℕ) (r : WrittenTerm × List ℕ) → first_at dims text ≡ Some r → IsTermWritten dims r.0
unfolding first_at
first_written dims text r h = term_written dims (unwrap_or (sign_at text) (false, text)).0 (unwrap_or (sign_at text) (false, text)).1 r h

sum_written : (dims : ℕ) (text : List ℕ) (r : List WrittenTerm) → sum_at dims text ≡ Some r → AllByRecursion (IsTermWritten dims) r
unfolding sum_at
sum_written dims text r h =
    let f = bind_some (first_at dims text) _ r h in
    terms_written (length text) dims (f.0.0 ∷ []) f.0.1 r (first_written dims text f.0 f.1, tt) f.2

-- the terms of a right side
pub right_side_written : (dims : ℕ) (text : List ℕ) (r : List WrittenTerm) → right_side dims text ≡ Some r → AllByRecursion (IsTermWritten dims) r
unfolding right_side
right_side_written dims text r h =
    elim (side_of (length (skip text) == 0) (Some []) (if is_trimmed text then sum_at dims text else None) (Some r) h) [
      | inl p ↦ subst (AllByRecursion (IsTermWritten dims)) (same_some [] r p.1) tt
      | inr p ↦ elim (side_of (is_trimmed text) (sum_at dims text) None (Some r) p.1) [
        | inl q ↦ sum_written dims text r q.1
        | inr q ↦ none_some r q.1
      ]
    ]
