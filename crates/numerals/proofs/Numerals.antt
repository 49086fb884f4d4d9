-- Numbers of any size in decimal.
use Rattle.std.proofs.Common.{◌≡◌, ℕ, zero, suc, ◌+◌, ◌-◌, ◌*◌, ◌/◌, ◌%◌, ◌^◌, ◌<◌, ◌≤◌, Bool, true, false, List, [], ◌∷◌, ◌++◌, length, get_or, decimal, arith, refl, ap, sym, ◌∙◌, append_assoc, nat_lt, inl, inr, subst, append-nil, ◌≢◌}
use Rattle.std.proofs.lemmas.List.{length-append, get_or_append_left}
use Rattle.std.proofs.lemmas.Bool.Decides.{nat_tests}
use Rattle.std.specs.Prelude.{◌==◌, ◌⊎◌}
use Rattle.std.specs.Char.{digit_value}
use Rattle.std.specs.Str.Parse.{AllDigits, digits_value, digits_value_after}
use Rattle.std.proofs.lemmas.Fmt.{decimal_by_steps_wide}
use Rattle.std.proofs.lemmas.Int.Digits.{digits_value_push}
use Rattle.std.proofs.lemmas.Str.{digit_value_digit}
use Rattle.std.proofs.lemmas.Str.Parse.{digit_from_value}
use Rattle.numerals.specs.Numerals.{last_digits, numeral}

is_zero : (n : ℕ) → n ≡ 0 → (n == 0) ≡ true
is_zero n h = grind (arith, nat_tests)

is_above : (n : ℕ) → 0 < n → (n == 0) ≡ false
is_above n h = grind (arith, nat_tests)

small_at : (k n : ℕ) → n < 10 → last_digits k n ≡ (48 + n) ∷ []
small_at zero n h = ap (λ (d : ℕ). (48 + d) ∷ []) (omega arith)
small_at (suc k) n h = rw (is_zero (n / 10) (omega arith)) (ap (λ (d : ℕ). (48 + d) ∷ []) (omega arith))

large_at : (k n : ℕ) → 10 ≤ n → last_digits (suc k) n ≡ last_digits k (n / 10) ++ (48 + n % 10) ∷ []
large_at k n h = rw (is_above (n / 10) (omega arith)) refl

below_or : (n : ℕ) (b : Bool) → nat_lt n 10 ≡ b → (n < 10) ⊎ (10 ≤ n)
below_or n true e = inl (grind (arith, nat_tests))
below_or n false e = inr (grind (arith, nat_tests))

enough_at : (j k n : ℕ) → n ≤ j → n ≤ k → (n < 10) ⊎ (10 ≤ n) → last_digits j n ≡ last_digits k n
enough_at j k n p q (inl h) = small_at j n h ∙ sym (small_at k n h)
enough_at zero k n p q (inr h) = absurd (omega arith)
enough_at (suc j) zero n p q (inr h) = absurd (omega arith)
enough_at (suc j) (suc k) n p q (inr h) =
    large_at j n h ∙ ap (λ (ds : List ℕ). ds ++ (48 + n % 10) ∷ []) (enough_at j k (n / 10) (omega arith) (omega arith) (below_or (n / 10) (nat_lt (n / 10) 10) refl)) ∙ sym (large_at k n h)

enough : (k n : ℕ) → n ≤ k → last_digits k n ≡ last_digits n n
enough k n p = enough_at k n n p (omega arith) (below_or n (nat_lt n 10) refl)

-- one digit
pub numeral_digit : (n : ℕ) → n < 10 → numeral n ≡ (48 + n) ∷ []
unfolding numeral
numeral_digit n h = small_at n n h

step_at : (m n : ℕ) → n ≡ suc m → 10 ≤ n → last_digits n n ≡ last_digits (n / 10) (n / 10) ++ (48 + n % 10) ∷ []
step_at m n e h =
    ap (λ (k : ℕ). last_digits k n) e ∙ large_at m n h ∙ ap (λ (ds : List ℕ). ds ++ (48 + n % 10) ∷ []) (enough m (n / 10) (omega arith))

-- the last of several digits
pub numeral_step : (n : ℕ) → 10 ≤ n → numeral n ≡ numeral (n / 10) ++ (48 + n % 10) ∷ []
unfolding numeral
numeral_step n h = step_at (n - 1) n (omega arith) h

module _ (P : ℕ → List ℕ → Type 0) (one : (n : ℕ) → n < 10 → P n ((48 + n) ∷ [])) (more : (n : ℕ) (ds : List ℕ) → 10 ≤ n → P (n / 10) ds → P n (ds ++ (48 + n % 10) ∷ [])) where
  by : (k n : ℕ) → n ≤ k → (n < 10) ⊎ (10 ≤ n) → P n (numeral n)
  by k n le (inl h) = subst (P n) (sym (numeral_digit n h)) (one n h)
  by zero n le (inr h) = absurd (omega arith)
  by (suc k) n le (inr h) = subst (P n) (sym (numeral_step n h)) (more n (numeral (n / 10)) h (by k (n / 10) (omega arith) (below_or (n / 10) (nat_lt (n / 10) 10) refl)))

  -- induction on the digits of a number: one digit, then one more at the end
  pub numeral_by_steps : (n : ℕ) → P n (numeral n)
  numeral_by_steps n = by n n (omega arith) (below_or n (nat_lt n 10) refl)

pub numeral_decimal : (n : ℕ) → n < 10 ^ 64 → numeral n ≡ decimal n
numeral_decimal n h = decimal_by_steps_wide (λ m ds. numeral m ≡ ds) numeral_digit (λ m ds l e. numeral_step m l ∙ ap (λ (x : List ℕ). x ++ (48 + m % 10) ∷ []) e) n h

pub digits-append : (xs ys : List ℕ) → AllDigits 10 xs → AllDigits 10 ys → AllDigits 10 (xs ++ ys)
digits-append [] ys h k = k
digits-append (x ∷ xs) ys h k = (h.0, digits-append xs ys h.1 k)

-- what is said of the digits of n
pub record AreDigitsOf (n : ℕ) (ds : List ℕ) : Type 0 where
  pub some : 0 < length ds
  pub digits : AllDigits 10 ds
  pub value : digits_value 10 ds ≡ n
  pub first : 0 < n → 48 < get_or ds 0 0

glyph : (d : ℕ) → d < 10 → digit_value (48 + d) ≡ d
glyph d h = let k = digit_value_digit (48 + d) (omega arith, omega arith) in omega (arith, k)

one_digit : (n : ℕ) → n < 10 → AreDigitsOf n ((48 + n) ∷ [])
one_digit n h = record {
  some = omega arith;
  digits = (omega (arith, glyph n h), tt);
  value = omega (arith, glyph n h);
  first = λ a. omega arith;
}

one_more : (n : ℕ) (ds : List ℕ) → 10 ≤ n → AreDigitsOf (n / 10) ds → AreDigitsOf n (ds ++ (48 + n % 10) ∷ [])
one_more n ds l h = record {
  some = omega (arith, length-append ds ((48 + n % 10) ∷ []));
  digits = digits-append ds ((48 + n % 10) ∷ []) h.digits (omega (arith, glyph (n % 10) (omega arith)), tt);
  value = digits_value_push 10 ds (48 + n % 10) ∙ omega (arith, h.value, glyph (n % 10) (omega arith));
  first = λ a. omega (arith, get_or_append_left ds ((48 + n % 10) ∷ []) 0 0 h.some, h.first (omega arith));
}

pub numeral_digits : (n : ℕ) → AreDigitsOf n (numeral n)
numeral_digits n = numeral_by_steps AreDigitsOf one_digit one_more n

pub numeral_exact : (m n : ℕ) → numeral m ≡ numeral n → m ≡ n
numeral_exact m n e = sym (numeral_digits m).value ∙ ap (digits_value 10) e ∙ (numeral_digits n).value

value_after : (n : ℕ) (ds : List ℕ) → 0 < n → AllDigits 10 ds → numeral (digits_value_after 10 n ds) ≡ numeral n ++ ds
value_after n [] some d = sym (append-nil (numeral n))
value_after n (c ∷ cs) some d =
    let m : ℕ = n * 10 + digit_value c in
    let k = digit_value_digit c (digit_from_value c d.0) in
    let front : m / 10 ≡ n = omega (arith, d.0) in
    let end : 48 + m % 10 ≡ c = omega (arith, d.0, k) in
    value_after m cs (omega arith) d.1
    ∙ ap (λ (x : List ℕ). x ++ cs) (numeral_step m (omega arith) ∙ (λ i. numeral (front i) ++ (end i ∷ [])))
    ∙ append_assoc (numeral n) (c ∷ []) cs

-- digits that do not begin with 0 are those of their value
pub numeral_value : (c : ℕ) (cs : List ℕ) → AllDigits 10 (c ∷ cs) → c ≢ 48 → numeral (digits_value 10 (c ∷ cs)) ≡ c ∷ cs
numeral_value c cs d lead =
    let k = digit_value_digit c (digit_from_value c d.0) in
    let above : 0 < 0 * 10 + digit_value c = omega (arith, lead, digit_from_value c d.0, k) in
    let is : 48 + (0 * 10 + digit_value c) ≡ c = omega (arith, k, digit_from_value c d.0) in
    value_after (0 * 10 + digit_value c) cs above d.1
    ∙ ap (λ (x : List ℕ). x ++ cs) (numeral_digit (0 * 10 + digit_value c) (omega (arith, d.0)) ∙ ap (λ (x : ℕ). x ∷ []) is)
