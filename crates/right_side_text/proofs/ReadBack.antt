-- Terms that are written out in full are read back.
use Rattle.std.proofs.Common.{◌≡◌, ℕ, zero, suc, ◌+◌, ◌<◌, ◌≤◌, ◌^◌, ◌⊎◌, inl, inr, Bool, true, false, List, [], ◌∷◌, ◌++◌, length, take, drop, decimal, arith, refl, ap, sym, subst, ◌∙◌, Some, None, Option, append_assoc, append-nil, eqb-true}
use Rattle.std.specs.Prelude.{◌==◌, ◌&&◌, ⊤, nat_lt, not, if◌then◌else◌}
use Rattle.std.specs.Char.{is_ascii_alphabetic}
use Rattle.std.specs.List.{prefix_len, list_all, AllByRecursion}
use Rattle.std.proofs.lemmas.Bool.{and_parts}
use Rattle.std.proofs.lemmas.Bool.Decides.{nat_tests}
use Rattle.std.proofs.lemmas.List.{length-append}
use Rattle.std.proofs.Math.Seq.{take-append_seam, drop-append_seam}
use Rattle.degree_numbers.specs.Name.{is_name, is_name_byte, is_reserved}
use Rattle.text_parts.specs.Reading.{skip, digits_len, number_at, mark_at, if_there}
use Rattle.text_parts.proofs.Back.{Stops, NoSpace, NoSpaces, skip_none, number_back, nonzero_after_back, mark_back, mark_other, decimal_no_space, decimal_no_spaces, no_spaces-append, no_spaces_trimmed}
use Rattle.right_side_text.specs.Grammar.{name_at, entry_at, entries_at, derivative_at, factor_at, factors_at, coefficient_at, with_coefficient_at, term_at, sign_at, terms_at, first_at, sum_at, right_side}
use Rattle.right_side_text.specs.WrittenOut.{further_before, derivative_before, factor_before, factors_before, term_before, terms_text, IsWritableFactor, IsWritable}
use Rattle.right_side_text.specs.declared.written.WrittenFactor.{WrittenFactor}
use Rattle.right_side_text.specs.declared.written.WrittenFraction.{WrittenFraction}
use Rattle.right_side_text.specs.declared.written.WrittenTerm.{WrittenTerm}
use Rattle.right_side_text.proofs.TermFacts.{none_some}

-- names
NameEnds : List ℕ → Type 0
NameEnds [] = ⊤
NameEnds (c ∷ cs) = is_name_byte c ≡ false

all_name_bytes : (cs : List ℕ) → list_all is_name_byte cs ≡ true → AllByRecursion (λ c. is_name_byte c ≡ true) cs
all_name_bytes [] h = tt
all_name_bytes (c ∷ cs) h = let t = and_parts (is_name_byte c) (list_all is_name_byte cs) h in (t.0, all_name_bytes cs t.1)

letter_is : (c : ℕ) → is_ascii_alphabetic c ≡ true → is_name_byte c ≡ true
letter_is c h = rw h refl

record Named (name : List ℕ) : Type 0 where
  pub first : ℕ
  pub others : List ℕ
  pub is : name ≡ first ∷ others
  pub letter : is_ascii_alphabetic first ≡ true
  pub bytes : AllByRecursion (λ c. is_name_byte c ≡ true) name

named : (name : List ℕ) → is_name name ≡ true → Named name
named [] h = absurd cc
named (c ∷ cs) h =
    let t = and_parts (is_ascii_alphabetic c && list_all is_name_byte cs) (nat_lt (length cs) 16 && not (is_reserved (c ∷ cs))) h in
    let u = and_parts (is_ascii_alphabetic c) (list_all is_name_byte cs) t.0 in
    record { first = c; others = cs; is = refl; letter = u.0; bytes = (letter_is c u.0, all_name_bytes cs u.1) }

name_len : (xs rest : List ℕ) → AllByRecursion (λ c. is_name_byte c ≡ true) xs → NameEnds rest → prefix_len is_name_byte (xs ++ rest) ≡ length xs
unfolding NameEnds
name_len [] [] h stop = refl
name_len [] (c ∷ cs) h stop = rw stop refl
name_len (x ∷ xs) rest h stop =
    let more : prefix_len is_name_byte (xs ++ rest) ≡ length xs = name_len xs rest h.1 stop in
    rw h.0 (omega arith)

name_from : List ℕ → List ℕ → Option (List ℕ × List ℕ)
name_from front back = if is_name front then Some (front, skip back) else None

name_back : (name rest : List ℕ) → is_name name ≡ true → NameEnds rest → NoSpace rest → name_at (name ++ rest) ≡ Some (name, rest)
unfolding name_at name_from
name_back name rest h ends stop =
    let front = name_len name rest (named name h).bytes ends in
    ap (λ k. name_from (take k (name ++ rest)) (drop k (name ++ rest))) front
    ∙ ap (λ t. name_from t (drop (length name) (name ++ rest))) (take-append_seam name rest)
    ∙ ap (name_from name) (drop-append_seam name rest)
    ∙ rw (h, skip_none rest stop) refl

no_space_byte : (c : ℕ) → is_name_byte c ≡ true → (c == 32) ≡ false
no_space_byte c h =
    (elim (c == 32) as (λ b. (c == 32) ≡ b → b ≡ false) [
      | true ↦ λ e. sym h ∙ ap is_name_byte (eqb-true c 32 e)
      | false ↦ λ e. refl
    ]) refl

name_no_spaces : (cs : List ℕ) → AllByRecursion (λ c. is_name_byte c ≡ true) cs → NoSpaces cs
name_no_spaces [] h = tt
name_no_spaces (c ∷ cs) h = (no_space_byte c h.0, name_no_spaces cs h.1)

-- derivatives
further_stops : (xs rest : List ℕ) → Stops (further_before xs rest)
further_stops [] rest = (refl, refl)
further_stops (x ∷ xs) rest = (refl, refl)

entry_back : (mark x : ℕ) (rest : List ℕ) → (mark == mark) ≡ true → x < 2 ^ 63 → Stops rest → entry_at mark (mark ∷ (decimal x ++ rest)) ≡ Some (x, rest)
unfolding entry_at
entry_back mark x rest same fits stop = rw (mark_back mark (decimal x ++ rest) same (decimal_no_space x rest fits)) (number_back x rest fits stop)

further_back : (xs found rest : List ℕ) → AllByRecursion (λ x. x < 2 ^ 63) xs →
    entries_at (length xs) 44 found (further_before xs rest) ≡ Some (found ++ xs, 41 ∷ rest)
unfolding entries_at
further_back [] found rest h = ap (λ (l : List ℕ). Some (l, 41 ∷ rest)) (sym (append-nil found))
further_back (x ∷ xs) found rest h =
    rw (entry_back 44 x (further_before xs rest) refl h.0 (further_stops xs rest))
    (further_back xs (found ++ x ∷ []) rest h.1 ∙ ap (λ (l : List ℕ). Some (l, 41 ∷ rest)) (append_assoc found (x ∷ []) xs))

entries_back : (x : ℕ) (xs rest : List ℕ) → AllByRecursion (λ y. y < 2 ^ 63) (x ∷ xs) →
    entries_at (length (x ∷ xs)) 40 [] (40 ∷ (decimal x ++ further_before xs rest)) ≡ Some (x ∷ xs, 41 ∷ rest)
unfolding entries_at
entries_back x xs rest h = rw (entry_back 40 x (further_before xs rest) refl h.0 (further_stops xs rest)) (further_back xs (x ∷ []) rest h.1)

derivative_back : (dims : ℕ) (xs rest : List ℕ) → (length xs ≡ 0) ⊎ (length xs ≡ dims) →
    AllByRecursion (λ x. x < 2 ^ 63) xs → mark_at 39 rest ≡ None → NoSpace rest →
    derivative_at dims (derivative_before xs rest) ≡ Some (xs, rest)
unfolding derivative_at
derivative_back dims [] rest long h other stop = rw other refl
derivative_back dims (x ∷ xs) rest (inl none) h other stop = absurd (omega (arith, none))
derivative_back dims (x ∷ xs) rest (inr all) h other stop =
    rw (mark_back 39 (40 ∷ (decimal x ++ further_before xs rest)) refl refl, ← all) (rw (entries_back x xs rest h) (rw (mark_back 41 rest refl stop) refl))

-- factors
derivative_ends : (xs rest : List ℕ) → NameEnds rest → NameEnds (derivative_before xs rest)
unfolding NameEnds
derivative_ends [] rest h = h
derivative_ends (x ∷ xs) rest h = refl

derivative_no_space : (xs rest : List ℕ) → NoSpace rest → NoSpace (derivative_before xs rest)
derivative_no_space [] rest h = h
derivative_no_space (x ∷ xs) rest h = refl

factor_back : (dims : ℕ) (f : WrittenFactor) (rest : List ℕ) → IsWritableFactor dims f → Stops rest → factor_at dims (factor_before f rest) ≡ Some (f, rest)
unfolding factor_at NameEnds
factor_back dims f rest w stop =
    let behind = 94 ∷ (decimal f.power ++ rest) in
    rw (name_back f.name (derivative_before f.entries behind) w.name (derivative_ends f.entries behind refl) (derivative_no_space f.entries behind refl))
    (rw (derivative_back dims f.entries behind w.entries w.small (mark_other 39 94 (decimal f.power ++ rest) refl) refl)
    (rw (nonzero_after_back 94 f.power rest refl w.power_above w.power_small stop) refl))

factor_no_space : (dims : ℕ) (f : WrittenFactor) (rest : List ℕ) → IsWritableFactor dims f → NoSpace (factor_before f rest)
factor_no_space dims f rest w =
    let n = named f.name w.name in
    subst (λ (name : List ℕ). NoSpace (name ++ derivative_before f.entries (94 ∷ (decimal f.power ++ rest)))) (sym n.is) (no_space_byte n.first (letter_is n.first n.letter))

factors_stop : (fs : List WrittenFactor) (rest : List ℕ) → Stops rest → Stops (factors_before fs rest)
factors_stop [] rest h = h
factors_stop (f ∷ fs) rest h = (refl, refl)

factors_back : (n dims : ℕ) (found fs : List WrittenFactor) (f : WrittenFactor) (rest : List ℕ) →
    length fs < n → AllByRecursion (IsWritableFactor dims) (f ∷ fs) → Stops rest →
    mark_at 42 rest ≡ None →
    factors_at n dims found (factor_before f (factors_before fs rest)) ≡ Some (found ++ f ∷ fs, rest)
unfolding factors_at
factors_back zero dims found fs f rest long w stop other = absurd (omega (arith, long))
factors_back (suc n) dims found [] f rest long w stop other = rw (factor_back dims f rest w.0 stop) (rw other refl)
factors_back (suc n) dims found (g ∷ gs) f rest long w stop other =
    rw (factor_back dims f (factors_before (g ∷ gs) rest) w.0 (refl, refl))
    (rw (mark_back 42 (factor_before g (factors_before gs rest)) refl (factor_no_space dims g (factors_before gs rest) w.1.0))
    (factors_back n dims (found ++ f ∷ []) gs g rest (omega (arith, long)) w.1 stop other ∙ ap (λ (l : List WrittenFactor). Some (l, rest)) (append_assoc found (f ∷ []) (g ∷ gs))))

-- how long the texts are
further_longer : (xs rest : List ℕ) → length rest ≤ length (further_before xs rest)
further_longer [] rest = omega arith
further_longer (x ∷ xs) rest = omega (arith, length-append (decimal x) (further_before xs rest), further_longer xs rest)

derivative_longer : (xs rest : List ℕ) → length rest ≤ length (derivative_before xs rest)
derivative_longer [] rest = omega arith
derivative_longer (x ∷ xs) rest = omega (arith, length-append (decimal x) (further_before xs rest), further_longer xs rest)

factor_longer : (f : WrittenFactor) (rest : List ℕ) → length rest < length (factor_before f rest)
factor_longer f rest =
    let behind = 94 ∷ (decimal f.power ++ rest) in
    omega (arith, length-append f.name (derivative_before f.entries behind), derivative_longer f.entries behind, length-append (decimal f.power) rest)

factors_longer : (fs : List WrittenFactor) (rest : List ℕ) → length fs + length rest ≤ length (factors_before fs rest)
factors_longer [] rest = omega arith
factors_longer (f ∷ fs) rest = omega (arith, factor_longer f (factors_before fs rest), factors_longer fs rest)

-- terms
coefficient_back : (c : WrittenFraction) (rest : List ℕ) → c.num < 2 ^ 63 → 0 < c.den → c.den < 2 ^ 63 → Stops rest →
    coefficient_at c.negative (decimal c.num ++ (47 ∷ (decimal c.den ++ rest))) ≡ Some (c, rest)
unfolding coefficient_at
coefficient_back c rest num above den stop = rw (number_back c.num (47 ∷ (decimal c.den ++ rest)) num (refl, refl)) (rw (nonzero_after_back 47 c.den rest refl above den stop) refl)

digits_side : {A : Type 0} (b : Bool) (a x : A) → ◌≡◌ {A = Option A} (if b then None else Some a) (Some x) → b ≡ false
digits_side true a x h = none_some x h
digits_side false a x h = refl

some_digits : (text : List ℕ) (x : ℕ × List ℕ) → number_at text ≡ Some x → (digits_len text == 0) ≡ false
unfolding number_at
some_digits text x h = digits_side (digits_len text == 0) _ x h

behind_coefficient : (dims : ℕ) (fs : List WrittenFactor) (rest : List ℕ) → AllByRecursion (IsWritableFactor dims) fs → Stops rest → mark_at 42 rest ≡ None →
    if_there (mark_at 42 (factors_before fs rest)) (λ r. factors_at (length r) dims [] r) (Some ([], factors_before fs rest)) ≡ Some (fs, rest)
behind_coefficient dims [] rest w stop other = rw other refl
behind_coefficient dims (f ∷ fs) rest w stop other =
    let text = factor_before f (factors_before fs rest) in
    rw (mark_back 42 text refl (factor_no_space dims f (factors_before fs rest) w.0))
    (factors_back (length text) dims [] fs f rest (omega (arith, factor_longer f (factors_before fs rest), factors_longer fs rest)) w stop other)

term_back : (dims : ℕ) (t : WrittenTerm) (rest : List ℕ) → IsWritable dims t → Stops rest → mark_at 42 rest ≡ None →
    term_at dims t.coefficient.negative (decimal t.coefficient.num ++ (47 ∷ (decimal t.coefficient.den ++ factors_before t.factors rest))) ≡ Some (t, rest)
unfolding term_at with_coefficient_at
term_back dims t rest w stop other =
    let c = t.coefficient in
    let behind = factors_before t.factors rest in
    let digits = some_digits (decimal c.num ++ (47 ∷ (decimal c.den ++ behind))) (c.num, 47 ∷ (decimal c.den ++ behind)) (number_back c.num (47 ∷ (decimal c.den ++ behind)) w.num (refl, refl)) in
    rw digits
    (rw (coefficient_back c behind w.num w.den_above w.den_small (factors_stop t.factors rest stop))
    (rw (behind_coefficient dims t.factors rest w.factors stop other) refl))

sign_back : (negative : Bool) (text : List ℕ) → NoSpace text → sign_at ((if negative then 45 ∷ [] else 43 ∷ []) ++ text) ≡ Some (negative, text)
unfolding sign_at
sign_back true text h = rw (mark_other 43 45 text refl, mark_back 45 text refl h) refl
sign_back false text h = rw (mark_back 43 text refl h) refl

terms_stop : (ts : List WrittenTerm) → Stops (terms_text ts)
terms_stop [] = tt
terms_stop (t ∷ ts) = by_sign t.coefficient.negative _
  where
    by_sign : (negative : Bool) (text : List ℕ) → Stops ((if negative then 45 ∷ [] else 43 ∷ []) ++ text)
    by_sign true text = (refl, refl)
    by_sign false text = (refl, refl)

no_star : mark_at 42 [] ≡ None
unfolding mark_at
no_star = refl

terms_no_star : (ts : List WrittenTerm) → mark_at 42 (terms_text ts) ≡ None
terms_no_star [] = no_star
terms_no_star (t ∷ ts) = by_sign t.coefficient.negative _
  where
    by_sign : (negative : Bool) (text : List ℕ) → mark_at 42 ((if negative then 45 ∷ [] else 43 ∷ []) ++ text) ≡ None
    by_sign true text = mark_other 42 45 text refl
    by_sign false text = mark_other 42 43 text refl

term_longer : (t : WrittenTerm) (rest : List ℕ) → length rest < length (term_before t rest)
term_longer t rest =
    let c = t.coefficient in
    let behind = 47 ∷ (decimal c.den ++ factors_before t.factors rest) in
    let inside : length rest < length (decimal c.num ++ behind) =
    omega (arith, length-append (decimal c.num) behind, length-append (decimal c.den) (factors_before t.factors rest), factors_longer t.factors rest) in
    by_sign c.negative (decimal c.num ++ behind) inside
  where
    by_sign : (negative : Bool) (text : List ℕ) → length rest < length text → length rest < length ((if negative then 45 ∷ [] else 43 ∷ []) ++ text)
    by_sign true text h = omega (arith, h)
    by_sign false text h = omega (arith, h)

terms_longer : (ts : List WrittenTerm) → length ts ≤ length (terms_text ts)
terms_longer [] = omega arith
terms_longer (t ∷ ts) = omega (arith, term_longer t (terms_text ts), terms_longer ts)

not_zero : (n m : ℕ) → m < n → (n == 0) ≡ false
not_zero n m h = let above : 0 < n = omega (arith, h) in grind (arith, nat_tests)

terms_back : (n dims : ℕ) (found ts : List WrittenTerm) → length ts < n →
    AllByRecursion (IsWritable dims) ts → terms_at n dims found (terms_text ts) ≡ Some (found ++ ts)
unfolding terms_at
terms_back zero dims found ts long w = absurd (omega (arith, long))
terms_back (suc n) dims found [] long w = ap (λ (l : List WrittenTerm). Some l) (sym (append-nil found))
terms_back (suc n) dims found (t ∷ ts) long w =
    let rest = terms_text ts in
    let behind = decimal t.coefficient.num ++ (47 ∷ (decimal t.coefficient.den ++ factors_before t.factors rest)) in
    rw (not_zero (length (term_before t rest)) (length rest) (term_longer t rest))
    (rw (sign_back t.coefficient.negative behind (decimal_no_space t.coefficient.num _ w.0.num))
    (rw (term_back dims t rest w.0 (terms_stop ts) (terms_no_star ts))
    (terms_back n dims (found ++ t ∷ []) ts (omega (arith, long)) w.1 ∙ ap (λ (l : List WrittenTerm). Some l) (append_assoc found (t ∷ []) ts))))

sum_back : (dims : ℕ) (t : WrittenTerm) (ts : List WrittenTerm) → AllByRecursion (IsWritable dims) (t ∷ ts) → sum_at dims (terms_text (t ∷ ts)) ≡ Some (t ∷ ts)
unfolding sum_at first_at
sum_back dims t ts w =
    let rest = terms_text ts in
    let behind = decimal t.coefficient.num ++ (47 ∷ (decimal t.coefficient.den ++ factors_before t.factors rest)) in
    rw (sign_back t.coefficient.negative behind (decimal_no_space t.coefficient.num _ w.0.num))
    (rw (term_back dims t rest w.0 (terms_stop ts) (terms_no_star ts))
    (terms_back (length (terms_text (t ∷ ts))) dims (t ∷ []) ts (omega (arith, term_longer t rest, terms_longer ts)) w.1))

-- no space is written
further_clear : (xs rest : List ℕ) → AllByRecursion (λ x. x < 2 ^ 63) xs → NoSpaces rest → NoSpaces (further_before xs rest)
further_clear [] rest small h = (refl, h)
further_clear (x ∷ xs) rest small h = (refl, no_spaces-append (decimal x) (further_before xs rest) (decimal_no_spaces x small.0) (further_clear xs rest small.1 h))

derivative_clear : (xs rest : List ℕ) → AllByRecursion (λ x. x < 2 ^ 63) xs → NoSpaces rest → NoSpaces (derivative_before xs rest)
derivative_clear [] rest small h = h
derivative_clear (x ∷ xs) rest small h = (refl, (refl, no_spaces-append (decimal x) (further_before xs rest) (decimal_no_spaces x small.0) (further_clear xs rest small.1 h)))

factors_clear : (dims : ℕ) (fs : List WrittenFactor) (rest : List ℕ) →
    AllByRecursion (IsWritableFactor dims) fs → NoSpaces rest → NoSpaces (factors_before fs rest)
factors_clear dims [] rest w h = h
factors_clear dims (f ∷ fs) rest w h =
    let more = factors_before fs rest in
    let behind = 94 ∷ (decimal f.power ++ more) in (
      refl,
      no_spaces-append f.name (derivative_before f.entries behind) (name_no_spaces f.name (named f.name w.0.name).bytes)
          (derivative_clear f.entries behind w.0.small (refl, no_spaces-append (decimal f.power) more (decimal_no_spaces f.power w.0.power_small) (factors_clear dims fs rest w.1 h))),
    )

sign_clear : (negative : Bool) (text : List ℕ) → NoSpaces text → NoSpaces ((if negative then 45 ∷ [] else 43 ∷ []) ++ text)
sign_clear true text h = (refl, h)
sign_clear false text h = (refl, h)

terms_clear : (dims : ℕ) (ts : List WrittenTerm) → AllByRecursion (IsWritable dims) ts → NoSpaces (terms_text ts)
terms_clear dims [] w = tt
terms_clear dims (t ∷ ts) w =
    let c = t.coefficient in
    let behind = decimal c.den ++ factors_before t.factors (terms_text ts) in
    sign_clear c.negative _
    (no_spaces-append (decimal c.num) (47 ∷ behind) (decimal_no_spaces c.num w.0.num) (
      refl,
      no_spaces-append (decimal c.den) (factors_before t.factors (terms_text ts)) (decimal_no_spaces c.den w.0.den_small)
          (factors_clear dims t.factors (terms_text ts) w.0.factors (terms_clear dims ts w.1)),
    ))

no_space_first : (text : List ℕ) → NoSpaces text → NoSpace text
no_space_first [] h = tt
no_space_first (c ∷ cs) h = h.0

pub read_back : (dims : ℕ) (ts : List WrittenTerm) → AllByRecursion (IsWritable dims) ts → right_side dims (terms_text ts) ≡ Some ts
unfolding right_side
read_back dims [] w = rw (skip_none [] tt) refl
read_back dims (t ∷ ts) w =
    let text = terms_text (t ∷ ts) in
    let clear = terms_clear dims (t ∷ ts) w in
    rw (skip_none text (no_space_first text clear))
    (rw (not_zero (length text) (length (terms_text ts)) (term_longer t (terms_text ts)))
    (rw (no_spaces_trimmed text clear) (sum_back dims t ts w)))
