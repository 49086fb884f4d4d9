-- The least common denominator, found by divisibility, is the least number that clears all
-- fractions.
use Rattle.std.proofs.Common.{◌≡◌, ℕ, ◌+◌, ◌-◌, ◌*◌, ◌%◌, ◌<◌, ◌≤◌, ◌==◌, Bool, true, false, true≢false, not, nat_lt, ◌&&◌, List, [], ◌∷◌, ◌++◌, map, length, get_or, take, refl, sym, ap, subst, ◌∙◌, arith}
use Rattle.std.specs.Int.{◌∣◌}
use Rattle.std.specs.List.{prefix_len, range_with_len}
use Rattle.std.proofs.lemmas.Bool.Decides.{nat_tests}
use Rattle.std.proofs.lemmas.List.FromFn.{length-range_with_len, get_or-range_with_len}
use Rattle.std.proofs.lemmas.List.{take_more, map_push, take_all}
use Rattle.std.proofs.lemmas.List.Sums.{prefix_len-le-length, prefix_len_passes, prefix_len_stops}
use Rattle.std.proofs.lemmas.Nat.Gcd.{dvd_of_mod-eq-zero, mod-eq-zero_of_dvd, le_of_dvd}
use Rattle.text_parts.specs.Reading.{most}
use Rattle.degree_numbers.specs.Fraction.{Fraction, ClearsAll, IsLeastCommon, IsCommon}
use Rattle.right_side_text.specs.declared.written.WrittenFraction.{WrittenFraction}
use Rattle.equation_document.specs.Denominator.{clears, clears_all, least_within, least_common}

abbrev pub plain : WrittenFraction → Fraction
plain f = record { negative = f.negative; num = f.num; den = f.den }

is_zero : (n : ℕ) → n ≡ 0 → (n == 0) ≡ true
is_zero n h = grind (arith, nat_tests)

pub zero_is : (n : ℕ) → (n == 0) ≡ true → n ≡ 0
zero_is n h = grind (arith, nat_tests)

pub both : (a b : Bool) → (a && b) ≡ true → (a ≡ true) × (b ≡ true)
both true b h = (refl, h)
both false b h = search

pub cleared : (l : ℕ) (fs : List WrittenFraction) → ClearsAll l (map plain fs) → clears_all l fs ≡ true
cleared l [] h = refl
cleared l (f ∷ fs) h = rw (is_zero ((l * f.num) % f.den) (mod-eq-zero_of_dvd f.den h.0), cleared l fs h.1) refl

pub clear : (l : ℕ) (fs : List WrittenFraction) → clears_all l fs ≡ true → ClearsAll l (map plain fs)
clear l [] h = tt
clear l (f ∷ fs) h =
    let t = both (clears l f) (clears_all l fs) h in
    (dvd_of_mod-eq-zero f.den (zero_is ((l * f.num) % f.den) t.0), clear l fs t.1)

pub below : (n m : ℕ) → nat_lt n m ≡ true → n < m
below n m e = grind (arith, nat_tests)

pub not_below : (n m : ℕ) → nat_lt n m ≡ false → m ≤ n
not_below n m e = grind (arith, nat_tests)

pub not_passed : (b : Bool) → not b ≡ false → b ≡ true
not_passed true h = refl
not_passed false h = search

-- the first number from 1 to m at which a test fails
first_failing : (p : ℕ → Bool) (m n : ℕ) → 0 < n → n ≤ m → p n ≡ false → ((x : ℕ) → 0 < x → p x ≡ false → n ≤ x) → n ≡ 1 + prefix_len p (range_with_len 1 m)
first_failing p m n lt le is least =
    let k = prefix_len p (range_with_len 1 m) in
    let len : length (range_with_len 1 m) ≡ m = length-range_with_len 1 m in
    let not_past : ¬ (n - 1 < k) = λ h.
    let place : get_or (range_with_len 1 m) (n - 1) 0 ≡ n = get_or-range_with_len 1 m (n - 1) 0 (omega (arith, lt, le)) ∙ omega (arith, lt) in
    true≢false (sym (prefix_len_passes p (range_with_len 1 m) (n - 1) 0 h) ∙ ap p place ∙ is) in
    let not_before : ¬ (k < n - 1) = λ h.
    let stops = prefix_len_stops p (range_with_len 1 m) 0 (omega (arith, len, h, le)) in
    let place : get_or (range_with_len 1 m) k 0 ≡ 1 + k = get_or-range_with_len 1 m k 0 (omega (arith, h, le)) in
    let up : n ≤ 1 + k = least (1 + k) (omega arith) (sym (ap p place) ∙ stops) in
    absurd (omega (arith, up, h)) in
    omega (arith, not_past, not_before, lt)

-- where it fails at none of them
none_failing : (p : ℕ → Bool) (m : ℕ) → ((x : ℕ) → 0 < x → p x ≡ false → m < x) → m + 1 ≡ 1 + prefix_len p (range_with_len 1 m)
none_failing p m past =
    let k = prefix_len p (range_with_len 1 m) in
    let len : length (range_with_len 1 m) ≡ m = length-range_with_len 1 m in
    let le : k ≤ length (range_with_len 1 m) = prefix_len-le-length p (range_with_len 1 m) in
    let not_before : ¬ (k < m) = λ h.
    let stops = prefix_len_stops p (range_with_len 1 m) 0 (omega (arith, len, h)) in
    let place : get_or (range_with_len 1 m) k 0 ≡ 1 + k = get_or-range_with_len 1 m k 0 h in
    let up : m < 1 + k = past (1 + k) (omega arith) (sym (ap p place) ∙ stops) in
    absurd (omega (arith, up, h)) in
    omega (arith, not_before, len, le)

-- where one number clears all and divides all that do, it is the least
exact_within : (m n : ℕ) (fs : List WrittenFraction) → 0 < n → n ≤ m → ClearsAll n (map plain fs) →
    ((x : ℕ) → ClearsAll x (map plain fs) → n ∣ x) → n ≡ least_within m fs
exact_within m n fs lt le is least =
    first_failing (λ l. not (clears_all l fs)) m n lt le (ap not (cleared n fs is)) (λ x above h. le_of_dvd above (least x (clear x fs (not_passed _ h))))

past_within : (m : ℕ) (fs : List WrittenFraction) → ((x : ℕ) → 0 < x → ClearsAll x (map plain fs) → m < x) → m + 1 ≡ least_within m fs
past_within m fs past = none_failing (λ l. not (clears_all l fs)) m (λ x above h. past x above (clear x fs (not_passed _ h)))

-- with m for the number below the greatest one
within : (m n : ℕ) (fs : List WrittenFraction) → 0 < n → n ≤ m + 1 →
    (n < m + 1 → IsLeastCommon n (map plain fs)) →
    (m + 1 ≤ n → (x : ℕ) → 0 < x → ClearsAll x (map plain fs) → m + 1 ≤ x) → n ≡ least_within m fs
within m n fs lt le exact past =
    elim (nat_lt n (m + 1)) as (λ b. nat_lt n (m + 1) ≡ b → n ≡ least_within m fs) [
      | true ↦ λ e. let h : n < m + 1 = below _ _ e in exact_within m n fs lt (omega (arith, h)) (exact h).clears (exact h).least
      | false ↦ λ e.
          let h : m + 1 ≤ n = not_below _ _ e in
          let is : n ≡ m + 1 = omega (arith, h, le) in
          is ∙ past_within m fs (λ x above c. omega (arith, past h x above c))
    ] refl

pub is_least_common : (n : ℕ) (fs : List WrittenFraction) → IsCommon n (map plain fs) → n ≡ least_common fs
unfolding least_common
is_least_common n fs c = within (most - 1) n fs c.above c.fits c.exact c.past

-- with one more fraction of a list
pub taken_more : (m : ℕ) (fs : List WrittenFraction) (i den : ℕ) (f : WrittenFraction) → i < length fs → f ≡ get_or fs i f → den ≡ f.den → IsCommon m (map plain (take i fs) ++ record { negative = f.negative; num = f.num; den = den } ∷ []) → IsCommon m (map plain (take (i + 1) fs))
taken_more m fs i den f lt is same c =
    let more : map plain (take (i + 1) fs) ≡ map plain (take i fs) ++ plain f ∷ [] = ap (map plain) (take_more fs i f lt) ∙ map_push plain (take i fs) _ ∙ ap (λ x. map plain (take i fs) ++ plain x ∷ []) (sym is) in
    subst (IsCommon m) (ap (λ d. map plain (take i fs) ++ record { negative = f.negative; num = f.num; den = d } ∷ []) same ∙ sym more) c

pub taken_all : (m : ℕ) (fs : List WrittenFraction) (i : ℕ) → length fs ≤ i → IsCommon m (map plain (take i fs)) → IsCommon m (map plain fs)
taken_all m fs i le c = subst (λ xs. IsCommon m (map plain xs)) (take_all i fs le) c

within_above : (m : ℕ) (fs : List WrittenFraction) → 0 < least_within m fs
within_above m fs = omega arith

-- a number that is found clears all
cleared_within : (m : ℕ) (fs : List WrittenFraction) → least_within m fs < m + 1 → clears_all (least_within m fs) fs ≡ true
cleared_within m fs le =
    let k = prefix_len (λ l. not (clears_all l fs)) (range_with_len 1 m) in
    let len : length (range_with_len 1 m) ≡ m = length-range_with_len 1 m in
    let lt : k < m = omega (arith, le) in
    let stops = prefix_len_stops (λ l. not (clears_all l fs)) (range_with_len 1 m) 0 (omega (arith, len, lt)) in
    let place : get_or (range_with_len 1 m) k 0 ≡ 1 + k = get_or-range_with_len 1 m k 0 lt in
    not_passed (clears_all (1 + k) fs) (sym (ap (λ l. not (clears_all l fs)) place) ∙ stops)

pub least_above : (fs : List WrittenFraction) → 0 < least_common fs
unfolding least_common
least_above fs = within_above (most - 1) fs

least_is : (fs : List WrittenFraction) → least_common fs ≡ least_within (most - 1) fs
unfolding least_common
least_is fs = refl

clears_at : (m n : ℕ) (fs : List WrittenFraction) → n ≡ least_within m fs → n < m + 1 → ClearsAll n (map plain fs)
clears_at m n fs is lt = subst (λ l. ClearsAll l (map plain fs)) (sym is) (clear (least_within m fs) fs (cleared_within m fs (subst (λ l. l < m + 1) is lt)))

pub least_clears : (fs : List WrittenFraction) → least_common fs < most → ClearsAll (least_common fs) (map plain fs)
least_clears fs lt = clears_at (most - 1) (least_common fs) fs (least_is fs) lt
