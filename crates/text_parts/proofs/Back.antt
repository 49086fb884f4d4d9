-- What is written is read back.
use Rattle.std.proofs.Common.{◌≡◌, ℕ, zero, suc, ◌-◌, ◌<◌, ◌^◌, min, true, false, List, [], ◌∷◌, ◌++◌, length, take, drop, decimal, arith, rules, tests, refl, ap, sym, ◌∙◌, Some, None, Option, eqb-true}
use Rattle.std.specs.Prelude.{◌==◌, ⊤, slice_index, if◌then◌else◌}
use Rattle.std.specs.Char.{is_ascii_digit}
use Rattle.std.specs.Int.{IsInRange}
use Rattle.std.specs.List.{prefix_len, AllByRecursion}
use Rattle.std.specs.Str.Parse.{digits_value, AllDigits}
use Rattle.std.proofs.lemmas.Fmt.{decimal_is_IsNumeral}
use Rattle.std.proofs.lemmas.Str.Parse.{digit_from_value}
use Rattle.std.proofs.Math.Seq.{take-append_seam, drop-append_seam}
use Rattle.text_parts.specs.Reading.{most, skip, digits_len, number_at, mark_at, nonzero_at, nonzero_after, ends_well, is_trimmed}

-- no space stands at the front
abbrev pub NoSpace : List ℕ → Type 0
NoSpace [] = ⊤
NoSpace (c ∷ cs) = (c == 32) ≡ false

-- no digit and no space stands at the front
abbrev pub Stops : List ℕ → Type 0
Stops [] = ⊤
Stops (c ∷ cs) = (is_ascii_digit c ≡ false) × ((c == 32) ≡ false)

pub skip_none : (text : List ℕ) → NoSpace text → skip text ≡ text
unfolding skip
skip_none [] h = refl
skip_none (c ∷ cs) h = rw h refl

stops_none : (rest : List ℕ) → Stops rest → NoSpace rest
stops_none [] h = tt
stops_none (c ∷ cs) h = h.1

pub digit_test : (c : ℕ) → IsInRange 48 57 c → is_ascii_digit c ≡ true
digit_test c h = search (rules, tests)

digit_no_space : (c : ℕ) → IsInRange 48 57 c → (c == 32) ≡ false
digit_no_space c h = search (rules, tests)

prefix_digits : (xs rest : List ℕ) → AllDigits 10 xs → Stops rest → prefix_len is_ascii_digit (xs ++ rest) ≡ length xs
prefix_digits [] [] h stop = refl
prefix_digits [] (c ∷ cs) h stop = rw stop.0 refl
prefix_digits (x ∷ xs) rest h stop =
    let more : prefix_len is_ascii_digit (xs ++ rest) ≡ length xs = prefix_digits xs rest h.1 stop in
    rw (digit_test x (digit_from_value x h.0)) (omega arith)

digits_no_space : (xs rest : List ℕ) → 0 < length xs → AllDigits 10 xs → NoSpace (xs ++ rest)
digits_no_space [] rest some h = absurd (omega arith)
digits_no_space (x ∷ xs) rest some h = digit_no_space x (digit_from_value x h.0)

not_zero : (n : ℕ) → 0 < n → (n == 0) ≡ false
not_zero n h = search (rules, tests)

read_at : ℕ → ℕ → List ℕ → Option (ℕ × List ℕ)
read_at len value rest = if len == 0 then None else Some (min value most, rest)

joined : (len n value : ℕ) (r rest : List ℕ) → (len == 0) ≡ false → value ≡ n → min n most ≡ n → r ≡ rest → read_at len value r ≡ Some (n, rest)
unfolding read_at
joined len n value r rest above is fits after = rw (above, is, fits, after) refl

value_of_front : (ds rest : List ℕ) (n : ℕ) → 0 < length ds → digits_value 10 ds ≡ n → n < 2 ^ 63 →
    digits_len (ds ++ rest) ≡ length ds → NoSpace rest → number_at (ds ++ rest) ≡ Some (n, rest)
unfolding number_at read_at
value_of_front ds rest n some value fits front stop =
    joined (digits_len (ds ++ rest)) n (digits_value 10 (take (digits_len (ds ++ rest)) (ds ++ rest))) (skip (drop (digits_len (ds ++ rest)) (ds ++ rest))) rest
    (not_zero _ (omega arith)) (ap (digits_value 10) (ap (λ k. take k (ds ++ rest)) front ∙ take-append_seam ds rest) ∙ value) (omega arith)
    (ap skip (ap (λ k. drop k (ds ++ rest)) front ∙ drop-append_seam ds rest) ∙ skip_none rest stop)

-- a printed number is read back
pub number_back : (n : ℕ) (rest : List ℕ) → n < 2 ^ 63 → Stops rest → number_at (decimal n ++ rest) ≡ Some (n, rest)
number_back n rest fits stop =
    let told = decimal_is_IsNumeral n (omega arith) in
    value_of_front (decimal n) rest n told.0.0 told.1 fits (prefix_digits (decimal n) rest told.0.1 stop) (stops_none rest stop)

-- a printed number begins with no space
pub decimal_no_space : (n : ℕ) (rest : List ℕ) → n < 2 ^ 63 → NoSpace (decimal n ++ rest)
decimal_no_space n rest fits = let told = decimal_is_IsNumeral n (omega arith) in digits_no_space (decimal n) rest told.0.0 told.0.1

pub mark_back : (mark : ℕ) (rest : List ℕ) → (mark == mark) ≡ true → NoSpace rest → mark_at mark (mark ∷ rest) ≡ Some rest
unfolding mark_at
mark_back mark rest same h = rw (same, skip_none rest h) refl

pub mark_other : (mark c : ℕ) (rest : List ℕ) → (c == mark) ≡ false → mark_at mark (c ∷ rest) ≡ None
unfolding mark_at
mark_other mark c rest h = rw h refl

pub nonzero_back : (n : ℕ) (rest : List ℕ) → 0 < n → n < 2 ^ 63 → Stops rest → nonzero_at (decimal n ++ rest) ≡ Some (n, rest)
unfolding nonzero_at
nonzero_back n rest above fits stop = rw (number_back n rest fits stop) (rw (not_zero n above) refl)

-- a mark and a printed number above 0 are read back
pub nonzero_after_back : (mark n : ℕ) (rest : List ℕ) → (mark == mark) ≡ true → 0 < n → n < 2 ^ 63 →
    Stops rest → nonzero_after mark (mark ∷ decimal n ++ rest) ≡ Some (n, rest)
unfolding nonzero_after
nonzero_after_back mark n rest same above fits stop = rw (mark_back mark (decimal n ++ rest) same (decimal_no_space n rest fits)) (nonzero_back n rest above fits stop)

digit_other : (c mark : ℕ) → IsInRange 48 57 c → is_ascii_digit mark ≡ false → (c == mark) ≡ false
digit_other c mark h other =
    (elim (c == mark) as (λ b. (c == mark) ≡ b → b ≡ false) [
      | true ↦ λ e. true_false (sym (digit_test c h) ∙ ap is_ascii_digit (eqb-true c mark e) ∙ other)
      | false ↦ λ e. refl
    ]) refl
  where
    true_false : true ≡ false → true ≡ false
    true_false e = e

digits_other : (mark : ℕ) (xs rest : List ℕ) → 0 < length xs → AllDigits 10 xs → is_ascii_digit mark ≡ false → mark_at mark (xs ++ rest) ≡ None
digits_other mark [] rest some h other = absurd (omega arith)
digits_other mark (x ∷ xs) rest some h other = mark_other mark x (xs ++ rest) (digit_other x mark (digit_from_value x h.0) other)

-- no other mark stands before a printed number
pub mark_before_number : (mark n : ℕ) (rest : List ℕ) → n < 2 ^ 63 → is_ascii_digit mark ≡ false → mark_at mark (decimal n ++ rest) ≡ None
mark_before_number mark n rest fits other = let told = decimal_is_IsNumeral n (omega arith) in digits_other mark (decimal n) rest told.0.0 told.0.1 other

pub nonzero_after_other : (mark : ℕ) (text : List ℕ) → mark_at mark text ≡ None → nonzero_after mark text ≡ Some (1, text)
unfolding nonzero_after
nonzero_after_other mark text h = rw h refl

-- no byte is a space
abbrev pub NoSpaces : List ℕ → Type 0
NoSpaces text = AllByRecursion (λ c. (c == 32) ≡ false) text

pub no_spaces-append : (xs ys : List ℕ) → NoSpaces xs → NoSpaces ys → NoSpaces (xs ++ ys)
no_spaces-append [] ys h k = k
no_spaces-append (x ∷ xs) ys h k = (h.0, no_spaces-append xs ys h.1 k)

digits_no_spaces : (xs : List ℕ) → AllDigits 10 xs → NoSpaces xs
digits_no_spaces [] h = tt
digits_no_spaces (x ∷ xs) h = (digit_no_space x (digit_from_value x h.0), digits_no_spaces xs h.1)

pub decimal_no_spaces : (n : ℕ) → n < 2 ^ 63 → NoSpaces (decimal n)
decimal_no_spaces n fits = let told = decimal_is_IsNumeral n (omega arith) in digits_no_spaces (decimal n) told.0.1

no_space_at : (text : List ℕ) (k : ℕ) → NoSpaces text → k < length text → (slice_index text k == 32) ≡ false
no_space_at [] k h lt = absurd (omega arith)
no_space_at (c ∷ cs) zero h lt = h.0
no_space_at (c ∷ cs) (suc k) h lt = no_space_at cs k h.1 (omega arith)

ends_no_space : (c : ℕ) (cs : List ℕ) → NoSpaces (c ∷ cs) → ends_well (c ∷ cs) ≡ true
ends_no_space c cs h = rw (no_space_at (c ∷ cs) (length (c ∷ cs) - 1) h (omega arith)) refl

-- a text without spaces is trimmed
pub no_spaces_trimmed : (text : List ℕ) → NoSpaces text → is_trimmed text ≡ true
no_spaces_trimmed [] h = refl
no_spaces_trimmed (c ∷ cs) h = rw (h.0, ends_no_space c cs h) refl
