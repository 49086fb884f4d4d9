-- Tests of types, and what they decide.
use Rattle.std.proofs.Common.{◌≡◌, ◌≢◌, ℕ, zero, suc, ◌+◌, ◌-◌, ◌*◌, ◌/◌, ◌<◌, ◌≤◌, Bool, true, false, not, nat_lt, nat_le, List, [], ◌∷◌, length, take, drop, get_or, ℤ, unsigned_abs, arith, refl, ap, sym, subst, ◌∙◌, add-one, length-drop}
use Rattle.std.specs.Prelude.{◌==◌, ◌&&◌, ◌↔◌, IsTrue, Option, Some, None}
use Rattle.std.specs.Option.{is_some}
use Rattle.std.specs.List.{AllByRecursion, list_all}
use Rattle.std.proofs.Math.Nat.{div-mul_cancel, mul-div_cancel, dvd-mul_right}
use Rattle.std.proofs.lemmas.Bool.{and_parts, and_from, not-true, leb-true, le-leb, ltb-true, lt-ltb, true≢false}
use Rattle.std.proofs.lemmas.Slice.Eq.{bytes_eq-Decides}
use Rattle.std.specs.Str.{bytes_eq}
use Rattle.std.proofs.lemmas.Bool.Decides.{nat_tests}
use Rattle.std.proofs.Math.Seq.{take-length}
use Rattle.std.proofs.lemmas.Nat.Gcd.{dvd_antisymm, dvd_refl}
use Rattle.text_parts.specs.Reading.{most}
use Rattle.degree_numbers.specs.Fraction.{IsLowest, IsCommon, IsLeastCommon}
use Rattle.degree_numbers.specs.Types.{IsScaling, IsWritable, AreDirections, AreDifferent}
use Rattle.type_contexts.specs.Different.{begins_new}
use Rattle.degree_numbers.proofs.InUnits.{lowest_exists}
use Rattle.degree_numbers.proofs.LowestTerms.{whole_to, whole_from, cancelled}

pub all_true : {A : Type 0} (p : A → Bool) (P : A → Type 0) → ((x : A) → p x ≡ true → P x) → (xs : List A) → list_all p xs ≡ true → AllByRecursion P xs
all_true p P told [] h = tt
all_true p P told (x ∷ xs) h = let both = and_parts (p x) (list_all p xs) h in (told x both.0, all_true p P told xs both.1)

pub all_tested : {A : Type 0} (p : A → Bool) (P : A → Type 0) → ((x : A) → P x → p x ≡ true) → (xs : List A) → AllByRecursion P xs → list_all p xs ≡ true
all_tested p P told [] h = refl
all_tested p P told (x ∷ xs) h = and_from (p x) (list_all p xs) (told x h.0) (all_tested p P told xs h.1)

abbrev is_entry : ℕ → Bool
is_entry s = nat_lt 0 s && nat_le s 10

entry_true : (s : ℕ) → is_entry s ≡ true → (0 < s) × (s ≤ 10)
entry_true s h = let both = and_parts (nat_lt 0 s) (nat_le s 10) h in (ltb-true 0 s both.0, leb-true s 10 both.1)

entry_tested : (s : ℕ) → (0 < s) × (s ≤ 10) → is_entry s ≡ true
entry_tested s h = and_from (nat_lt 0 s) (nat_le s 10) (lt-ltb 0 s h.0) (le-leb s 10 h.1)

zero_true : (s : ℕ) → (s == 0) ≡ true → s ≡ 0
zero_true s h = grind (arith, nat_tests)

zero_tested : (s : ℕ) → s ≡ 0 → (s == 0) ≡ true
zero_tested s h = grind (arith, nat_tests)

pub scaling_true : (dims : ℕ) (s : List ℕ) → length s ≡ 5 → 0 < dims → dims ≤ 5 →
    list_all (λ x. nat_lt 0 x && nat_le x 10) (take dims s) ≡ true →
    list_all (λ x. x == 0) (drop dims s) ≡ true → IsScaling dims s
scaling_true dims s five some few entries rest = record {
  some = some;
  most = few;
  entries = five;
  within = all_true is_entry (λ x. (0 < x) × (x ≤ 10)) entry_true (take dims s) entries;
  rest = all_true (λ x. x == 0) (λ x. x ≡ 0) zero_true (drop dims s) rest;
}

pub scaling_entries : (dims : ℕ) (s : List ℕ) → IsScaling dims s → list_all (λ x. nat_lt 0 x && nat_le x 10) (take dims s) ≡ true
scaling_entries dims s h = all_tested is_entry (λ x. (0 < x) × (x ≤ 10)) entry_tested (take dims s) h.within

pub scaling_rest : (dims : ℕ) (s : List ℕ) → IsScaling dims s → list_all (λ x. x == 0) (drop dims s) ≡ true
scaling_rest dims s h = all_tested (λ x. x == 0) (λ x. x ≡ 0) zero_tested (drop dims s) h.rest

-- the least common denominator of one fraction is its denominator in lowest terms
common_is_lowest : (negative : Bool) (size den b n d : ℕ) → 0 < den → den ≤ 1000000 → IsCommon b (record { negative = negative; num = size; den = den } ∷ []) → IsLowest size den n d → b ≡ d
common_is_lowest negative size den b n d above fits common low =
    let exact : IsLeastCommon b (record { negative = negative; num = size; den = den } ∷ []) =
    ((elim (nat_lt b most) as (λ t. nat_lt b most ≡ t → IsLeastCommon b (record { negative = negative; num = size; den = den } ∷ [])) [
      | true ↦ λ e. common.exact (ltb-true b most e)
      | false ↦ λ e. let le : most ≤ den = common.past (grind (arith, nat_tests, e)) den above (dvd-mul_right den size, tt) in absurd (omega (arith, le))
    ]) refl) in
    dvd_antisymm (exact.least d (whole_from size den n d d low (dvd_refl d), tt)) (whole_to size den n d b above low exact.clears.0)

lowest_whole : (size den n d : ℕ) → 0 < den → IsLowest size den n d → (0 < den / d) × (size / (den / d) ≡ n)
lowest_whole size den n d above low =
    let q = den / d in
    let q_is : q * d ≡ den = div-mul_cancel d (whole_to size den n d den above low (dvd-mul_right den size)) in
    let some : 0 < q = positive q d den q_is above in
    let turned : n * q * d ≡ size * d = (let one : n * q * d ≡ n * (q * d) = omega arith in one ∙ ap (λ x. n * x) q_is ∙ low.equal) in
    let same : n * q ≡ size = cancelled d (n * q) size low.den_above turned in
    (some, ap (λ x. x / q) (sym same) ∙ mul-div_cancel n some)
  where
    positive : (q d m : ℕ) → q * d ≡ m → 0 < m → 0 < q
    positive zero d m e h = absurd (omega (arith, e, h))
    positive (suc q) d m e h = omega arith

-- the numerator in lowest terms
pub numerator : (negative : Bool) (size den b : ℕ) → 0 < den → den ≤ 1000000 → IsCommon b (record { negative = negative; num = size; den = den } ∷ []) → (0 < den / b) × ((n d : ℕ) → IsLowest size den n d → size / (den / b) ≡ n)
numerator negative size den b above fits common = (
  (let low = lowest_exists size den above in subst (λ x. 0 < den / x) (sym (common_is_lowest negative size den b low.0 low.1 above fits common low.2)) (lowest_whole size den low.0 low.1 above low.2).0),
  λ n d low. subst (λ x. size / (den / x) ≡ n) (sym (common_is_lowest negative size den b n d above fits common low)) (lowest_whole size den n d above low).1,
)

pub writable : (den m : ℕ) (z : ℤ) → 0 < den → den ≤ 1000000 → unsigned_abs z ≤ 20 * den →
    ((n d : ℕ) → IsLowest (unsigned_abs z) den n d → m ≡ n) →
    IsTrue (nat_le m 1000000) ↔ IsWritable den z
writable den m z above fits small is = (
  λ t. let low = lowest_exists (unsigned_abs z) den above in
      let n_is = is low.0 low.1 low.2 in
      let few = leb-true m 1000000 t in
      record { size = small; written = (low.0, low.1, low.2, omega (arith, n_is, few), omega (arith, low.4)) },
  λ w. let n_is = is w.written.0 w.written.1 w.written.2 in le-leb m 1000000 (omega (arith, n_is, w.written.3)),
)

-- what holds of all holds of each
pub all_at : {A : Type 0} (P : A → Type 0) (xs : List A) (i : ℕ) (x : A) → i < length xs → x ≡ get_or xs i x → AllByRecursion P xs → P x
all_at P [] i x lt is h = absurd (omega (arith, lt))
all_at P (y ∷ ys) zero x lt is h = subst P (sym is) h.0
all_at P (y ∷ ys) (suc i) x lt is h = all_at P ys i x (omega (arith, lt)) is h.1

new_true : (name : List ℕ) (names : List (List ℕ)) → list_all (λ n. not (bytes_eq n name)) names ≡ true → AllByRecursion (λ other. other ≢ name) names
new_true name = all_true (λ n. not (bytes_eq n name)) (λ other. other ≢ name) (λ n t same. true≢false (sym ((bytes_eq-Decides n name).1 same) ∙ not-true (bytes_eq n name) t))

new_tested : (name : List ℕ) (names : List (List ℕ)) → AllByRecursion (λ other. other ≢ name) names → list_all (λ n. not (bytes_eq n name)) names ≡ true
new_tested name = all_tested (λ n. not (bytes_eq n name)) (λ other. other ≢ name) (λ n other. ap not (differ (bytes_eq n name) (λ t. other ((bytes_eq-Decides n name).0 t))))
  where
    differ : (b : Bool) → (b ≡ true → ⊥) → b ≡ false
    differ true other = absurd (other refl)
    differ false other = refl

different_rest : (names : List (List ℕ)) → begins_new names ≡ true → AreDifferent names ↔ AreDifferent (drop 1 names)
different_rest [] test = (λ h. h, λ h. h)
different_rest (name ∷ names) test = (λ h. h.1, λ h. (new_true name names test, h))

begins_different : (names : List (List ℕ)) → AreDifferent names → begins_new names ≡ true
begins_different [] h = refl
begins_different (name ∷ names) h = new_tested name names h.0

later : {A : Type 0} (xs : List A) (i : ℕ) → drop 1 (drop i xs) ≡ drop (suc i) xs
later [] zero = refl
later [] (suc i) = refl
later (x ∷ xs) zero = refl
later (x ∷ xs) (suc i) = later xs i

pub whole_rest : {A : Type 0} (xs : List A) (i : ℕ) → take (length xs - i) (drop i xs) ≡ drop i xs
whole_rest xs i = ap (λ n. take n (drop i xs)) (sym (length-drop i xs)) ∙ take-length (drop i xs)

-- names that differ, with one more in front
pub different_more : (names : List (List ℕ)) (i : ℕ) →
    begins_new (take (length names - i) (drop i names)) ≡ true →
    AreDifferent names ↔ AreDifferent (drop i names) →
    AreDifferent names ↔ AreDifferent (drop (i + 1) names)
different_more names i test told =
    let rest = different_rest (drop i names) (ap begins_new (sym (whole_rest names i)) ∙ test) in
    rw add-one (subst (λ ns. AreDifferent names ↔ AreDifferent ns) (later names i) (λ h. rest.0 (told.0 h), λ h. told.1 (rest.1 h)))

pub not_different : (names : List (List ℕ)) (i : ℕ) →
    begins_new (take (length names - i) (drop i names)) ≡ false →
    AreDifferent names ↔ AreDifferent (drop i names) → AreDifferent names → ⊥
not_different names i test told h = true≢false (sym (begins_different (drop i names) (told.0 h)) ∙ ap begins_new (sym (whole_rest names i)) ∙ test)

-- what is not there
pub none_of : (m : Option ℕ) → is_some m ≡ false → m ≡ None
none_of None h = refl
none_of (Some r) h = absurd (true≢false h)

-- a direction among others
pub directions_at : (past dims : ℕ) (xs : List ℕ) (i : ℕ) → i < length xs →
    AreDirections past dims (drop i xs) → (past < get_or xs i 0) × (get_or xs i 0 ≤ dims)
directions_at past dims [] i lt h = absurd (omega (arith, lt))
directions_at past dims (x ∷ xs) zero lt h = (h.0, h.1)
directions_at past dims (x ∷ xs) (suc i) lt h = directions_at past dims xs i (omega (arith, lt)) h
