-- What is printed of a degree is read back.
use Rattle.std.proofs.Common.{◌≡◌, ℕ, ◌*◌, ◌/◌, ◌<◌, ◌≤◌, ◌^◌, Bool, true, false, nat_lt, ℤ, pos, negsuc, unsigned_abs, List, [], ◌∷◌, ◌++◌, decimal, arith, refl, ap, sym, ◌∙◌, subst, Some, None, Option, eqb-true, append_assoc, append-nil}
use Rattle.std.proofs.lemmas.Bool.{and_parts}
use Rattle.std.specs.Prelude.{◌==◌, ◌&&◌, if◌then◌else◌, codes}
use Rattle.std.specs.Char.{is_ascii_digit}
use Rattle.text_parts.specs.Reading.{◌>>=◌, mark_at, number_at, nonzero_after}
use Rattle.text_parts.proofs.Back.{Stops, NoSpace, NoSpaces, number_back, nonzero_after_back, nonzero_after_other, mark_back, mark_other, mark_before_number, decimal_no_space, decimal_no_spaces, no_spaces-append, no_spaces_trimmed}
use Rattle.degree_numbers.specs.Fraction.{Fraction, under_sign, IsFractionInRange}
use Rattle.degree_numbers.specs.declared.degree.Degree.{Degree}
use Rattle.degree_numbers.proofs.LowestTerms.{lowest_one}
use Rattle.degree_numbers.proofs.Orders.{degree_is}
use Rattle.degree_numbers.specs.DegreeText.{Part, Written, factor_at, multiple_at, part_at, sign_at, first_at, second_at, differ, parts_at, written, written_of, nothing, fraction_with, large_in, first_large}
use Rattle.std.proofs.Math.Nat.{mul-div_cancel}
use Rattle.std.proofs.lemmas.Int.{ints}
use Rattle.std.proofs.lemmas.Fmt.{decimal_digit}
use Rattle.std.proofs.lemmas.Bool.Decides.{nat_tests}
use Rattle.std.specs.Int.{is_negative}
use Rattle.degree_numbers.specs.Printing.{IsLowestOf, fraction_text, k_text, degree_text, IsDegreeText}
use Rattle.degree_numbers.specs.Written.{in_units_of, degree_in}

-- numerator and denominator fit
record Fits (f : Fraction) : Type 0 where
  pub num : f.num < 2 ^ 63
  pub above : 0 < f.den
  pub den : f.den < 2 ^ 63

abbrev as_part : Bool → Fraction → Bool → Part
as_part negative f has_k = record { fraction = record { negative = negative; num = f.num; den = f.den }; has_k = has_k }

after_number : Bool → ℕ × List ℕ → Option (Part × List ℕ)
after_number negative num = nonzero_after 47 num.1 >>= (λ den. factor_at den.1 >>= (λ factor. Some (record { fraction = record { negative = negative; num = num.0; den = den.0 }; has_k = factor.0 }, factor.1)))

from_number : (negative : Bool) (text : List ℕ) (x : ℕ × List ℕ) → number_at text ≡ Some x → multiple_at negative text ≡ after_number negative x
unfolding multiple_at after_number
from_number negative text x h = rw h refl

from_denominator : (negative has_k : Bool) (n d : ℕ) (rest more after : List ℕ) →
    nonzero_after 47 rest ≡ Some (d, more) → factor_at more ≡ Some (has_k, after) →
    after_number negative (n, rest) ≡ Some (record { fraction = record { negative = negative; num = n; den = d }; has_k = has_k }, after)
unfolding after_number
from_denominator negative has_k n d rest more after h k = rw h (rw k refl)

-- what stands behind the text of a fraction
record Follows (has_k : Bool) (rest after : List ℕ) : Type 0 where
  pub stops : Stops rest
  pub no_slash : mark_at 47 rest ≡ None
  pub factor : factor_at rest ≡ Some (has_k, after)

multiple_back : (negative has_k : Bool) (f : Fraction) (rest after : List ℕ) → Fits f →
    Follows has_k rest after →
    multiple_at negative (fraction_text f ++ rest) ≡ Some (as_part negative f has_k, after)
multiple_back negative has_k f rest after fits follows =
    (elim (f.den == 1) as (λ b. (f.den == 1) ≡ b → multiple_at negative ((decimal f.num ++ (if b then [] else codes "/" ++ decimal f.den)) ++ rest) ≡ Some (as_part negative f has_k, after)) [
      | true ↦ λ one.
          ap (λ t. multiple_at negative (t ++ rest)) (append-nil (decimal f.num))
          ∙ from_number negative _ (f.num, rest) (number_back f.num rest fits.num follows.stops)
          ∙ from_denominator negative has_k f.num f.den rest rest after (nonzero_after_other 47 rest follows.no_slash ∙ ap (λ d. Some (d, rest)) (sym (eqb-true f.den 1 one))) follows.factor
      | false ↦ λ other.
          ap (multiple_at negative) (append_assoc (decimal f.num) (47 ∷ decimal f.den) rest)
          ∙ from_number negative _ (f.num, 47 ∷ decimal f.den ++ rest) (number_back f.num (47 ∷ decimal f.den ++ rest) fits.num (refl, refl))
          ∙ from_denominator negative has_k f.num f.den (47 ∷ decimal f.den ++ rest) rest after (nonzero_after_back 47 f.den rest refl fits.above fits.den follows.stops) follows.factor
    ]) refl

-- a fraction's text begins with a digit
mark_before_fraction : (mark : ℕ) (f : Fraction) (rest : List ℕ) → Fits f → is_ascii_digit mark ≡ false → mark_at mark (fraction_text f ++ rest) ≡ None
mark_before_fraction mark f rest fits other =
    ap (mark_at mark) (append_assoc (decimal f.num) (if f.den == 1 then [] else codes "/" ++ decimal f.den) rest) ∙ mark_before_number mark f.num _ fits.num other

fraction_no_space : (f : Fraction) (rest : List ℕ) → Fits f → NoSpace (fraction_text f ++ rest)
fraction_no_space f rest fits =
    subst NoSpace (sym (append_assoc (decimal f.num) (if f.den == 1 then [] else codes "/" ++ decimal f.den) rest)) (decimal_no_space f.num _ fits.num)

part_of_multiple : (negative : Bool) (text : List ℕ) → mark_at 107 text ≡ None → part_at negative text ≡ multiple_at negative text
unfolding part_at
part_of_multiple negative text h = rw h refl

part_back : (negative has_k : Bool) (f : Fraction) (rest after : List ℕ) → Fits f →
    Follows has_k rest after →
    part_at negative (fraction_text f ++ rest) ≡ Some (as_part negative f has_k, after)
part_back negative has_k f rest after fits follows = part_of_multiple negative _ (mark_before_fraction 107 f rest fits refl) ∙ multiple_back negative has_k f rest after fits follows

k_alone : (negative : Bool) → part_at negative (107 ∷ []) ≡ Some (record { fraction = record { negative = negative; num = 1; den = 1 }; has_k = true }, [])
unfolding part_at
k_alone negative = rw (mark_back 107 [] refl tt) refl

star : factor_at (42 ∷ 107 ∷ []) ≡ Some (true, [])
unfolding factor_at
star = rw (mark_back 42 (107 ∷ []) refl refl) (rw (mark_back 107 [] refl tt) refl)

star_follows : Follows true (42 ∷ 107 ∷ []) []
star_follows = record { stops = (refl, refl); no_slash = mark_other 47 42 (107 ∷ []) refl; factor = star }

no_mark : (mark : ℕ) → mark_at mark [] ≡ None
unfolding mark_at
no_mark mark = refl

no_factor : (text : List ℕ) → mark_at 42 text ≡ None → factor_at text ≡ Some (false, text)
unfolding factor_at
no_factor text h = rw h refl

end_follows : Follows false [] []
end_follows = record { stops = tt; no_slash = no_mark 47; factor = no_factor [] (no_mark 42) }

sign_follows : (negative : Bool) (text : List ℕ) →
    Follows false ((if negative then codes "-" else codes "+") ++ text) ((if negative then codes "-" else codes "+") ++ text)
sign_follows true text = record { stops = (refl, refl); no_slash = mark_other 47 45 text refl; factor = no_factor _ (mark_other 42 45 text refl) }
sign_follows false text = record { stops = (refl, refl); no_slash = mark_other 47 43 text refl; factor = no_factor _ (mark_other 42 43 text refl) }

same_part : (negative : Bool) (b : Fraction) → b.num ≡ 1 → b.den ≡ 1 → as_part negative (record { negative = negative; num = 1; den = 1 }) true ≡ as_part negative b true
same_part negative b num den = rw (num, den) refl

k_back : (negative : Bool) (b : Fraction) → Fits b → part_at negative (k_text b) ≡ Some (as_part negative b true, [])
k_back negative b fits =
    (elim (b.num == 1 && b.den == 1) as (λ c. (b.num == 1 && b.den == 1) ≡ c → part_at negative (if c then codes "k" else fraction_text b ++ codes "*k") ≡ Some (as_part negative b true, [])) [
      | true ↦ λ one. let ones = and_parts (b.num == 1) (b.den == 1) one in k_alone negative ∙ ap (λ p. Some (p, [])) (same_part negative b (eqb-true b.num 1 ones.0) (eqb-true b.den 1 ones.1))
      | false ↦ λ other. part_back negative true b (42 ∷ 107 ∷ []) [] fits star_follows
    ]) refl

mark_before_k : (mark : ℕ) (b : Fraction) → Fits b → is_ascii_digit mark ≡ false → (107 == mark) ≡ false → mark_at mark (k_text b) ≡ None
mark_before_k mark b fits other no_k =
    elim (b.num == 1 && b.den == 1) as (λ c. mark_at mark (if c then codes "k" else fraction_text b ++ codes "*k") ≡ None) [
      | true ↦ mark_other mark 107 [] no_k
      | false ↦ mark_before_fraction mark b (42 ∷ 107 ∷ []) fits other
    ]

k_no_space : (b : Fraction) → Fits b → NoSpace (k_text b)
k_no_space b fits =
    elim (b.num == 1 && b.den == 1) as (λ c. NoSpace (if c then codes "k" else fraction_text b ++ codes "*k")) [
      | true ↦ refl
      | false ↦ fraction_no_space b (42 ∷ 107 ∷ []) fits
    ]

sign_minus : (text : List ℕ) → NoSpace text → sign_at (45 ∷ text) ≡ Some (true, text)
unfolding sign_at
sign_minus text h = rw (mark_other 43 45 text refl) (rw (mark_back 45 text refl h) refl)

sign_plus : (text : List ℕ) → NoSpace text → sign_at (43 ∷ text) ≡ Some (false, text)
unfolding sign_at
sign_plus text h = rw (mark_back 43 text refl h) refl

sign_none : (text : List ℕ) → mark_at 43 text ≡ None → mark_at 45 text ≡ None → sign_at text ≡ None
unfolding sign_at
sign_none text h k = rw h (rw k refl)

first_signed : (text rest : List ℕ) (negative : Bool) → sign_at text ≡ Some (negative, rest) → first_at text ≡ part_at negative rest
unfolding first_at
first_signed text rest negative h = rw h refl

first_unsigned : (text : List ℕ) → sign_at text ≡ None → first_at text ≡ part_at false text
unfolding first_at
first_unsigned text h = rw h refl

first_back : (negative : Bool) (text : List ℕ) → NoSpace text → mark_at 43 text ≡ None →
    mark_at 45 text ≡ None →
    first_at ((if negative then codes "-" else []) ++ text) ≡ part_at negative text
first_back true text h plus minus = first_signed _ text true (sign_minus text h)
first_back false text h plus minus = first_unsigned text (sign_none text plus minus)

second_from : (c : ℕ) (cs text : List ℕ) (negative : Bool) (p : Part) →
    sign_at (c ∷ cs) ≡ Some (negative, text) → part_at negative text ≡ Some (p, []) →
    second_at (c ∷ cs) ≡ Some (Some p)
unfolding second_at
second_from c cs text negative p h k = rw h (rw k refl)

second_back : (negative : Bool) (text : List ℕ) (p : Part) → NoSpace text →
    part_at negative text ≡ Some (p, []) →
    second_at ((if negative then codes "-" else codes "+") ++ text) ≡ Some (Some p)
second_back true text p h k = second_from 45 text text true p (sign_minus text h) k
second_back false text p h k = second_from 43 text text false p (sign_plus text h) k

second_none : second_at [] ≡ Some None
unfolding second_at
second_none = refl

parts_from : (text rest : List ℕ) (p : Part) (s : Option Part) → first_at text ≡ Some (p, rest) →
    second_at rest ≡ Some s → differ p s ≡ true → parts_at text ≡ Some (p, s)
unfolding parts_at
parts_from text rest p s h k d = rw h (rw k (rw d refl))

written_from : (text : List ℕ) (p : Part) (s : Option Part) → NoSpaces text → parts_at text ≡ Some (p, s) → written_of text ≡ Some (written p s)
unfolding written_of
written_from text p s h k = rw (no_spaces_trimmed text h) (rw k refl)

-- the sign and the text of a fraction at the front
first_fraction : (a : Fraction) (rest : List ℕ) → Fits a → Follows false rest rest →
    first_at (((if a.negative then codes "-" else []) ++ fraction_text a) ++ rest) ≡ Some (as_part a.negative a false, rest)
first_fraction a rest fits follows =
    ap first_at (append_assoc (if a.negative then codes "-" else []) (fraction_text a) rest)
    ∙ first_back a.negative (fraction_text a ++ rest) (fraction_no_space a rest fits) (mark_before_fraction 43 a rest fits refl) (mark_before_fraction 45 a rest fits refl)
    ∙ part_back a.negative false a rest rest fits follows

parts_plain : (a : Fraction) → Fits a → parts_at ((if a.negative then codes "-" else []) ++ fraction_text a) ≡ Some (as_part a.negative a false, None)
parts_plain a fits = parts_from _ [] _ None (ap first_at (sym (append-nil ((if a.negative then codes "-" else []) ++ fraction_text a))) ∙ first_fraction a [] fits end_follows) second_none refl

parts_k : (b : Fraction) → Fits b → parts_at ((if b.negative then codes "-" else []) ++ k_text b) ≡ Some (as_part b.negative b true, None)
parts_k b fits =
    parts_from _ [] _ None (first_back b.negative (k_text b) (k_no_space b fits) (mark_before_k 43 b fits refl refl) (mark_before_k 45 b fits refl refl) ∙ k_back b.negative b fits) second_none refl

parts_both : (a b : Fraction) → Fits a → Fits b →
    parts_at (((if a.negative then codes "-" else []) ++ fraction_text a) ++ ((if b.negative then codes "-" else codes "+") ++ k_text b)) ≡ Some (as_part a.negative a false, Some (as_part b.negative b true))
parts_both a b a_fits b_fits =
    parts_from _ ((if b.negative then codes "-" else codes "+") ++ k_text b) _ (Some (as_part b.negative b true)) (first_fraction a _ a_fits (sign_follows b.negative (k_text b)))
    (second_back b.negative (k_text b) _ (k_no_space b b_fits) (k_back b.negative b b_fits)) refl

fraction_no_spaces : (f : Fraction) → Fits f → NoSpaces (fraction_text f)
fraction_no_spaces f fits =
    no_spaces-append (decimal f.num) _ (decimal_no_spaces f.num fits.num)
    (elim (f.den == 1) as (λ c. NoSpaces (if c then [] else codes "/" ++ decimal f.den)) [
      | true ↦ tt
      | false ↦ (refl, decimal_no_spaces f.den fits.den)
    ])

k_no_spaces : (b : Fraction) → Fits b → NoSpaces (k_text b)
k_no_spaces b fits =
    elim (b.num == 1 && b.den == 1) as (λ c. NoSpaces (if c then codes "k" else fraction_text b ++ codes "*k")) [
      | true ↦ (refl, tt)
      | false ↦ no_spaces-append (fraction_text b) (42 ∷ 107 ∷ []) (fraction_no_spaces b fits) (refl, (refl, tt))
    ]

minus_no_spaces : (negative : Bool) → NoSpaces (if negative then codes "-" else [])
minus_no_spaces true = (refl, tt)
minus_no_spaces false = tt

sign_no_spaces : (negative : Bool) → NoSpaces (if negative then codes "-" else codes "+")
sign_no_spaces true = (refl, tt)
sign_no_spaces false = (refl, tt)

signed_no_spaces : (a : Fraction) → Fits a → NoSpaces ((if a.negative then codes "-" else []) ++ fraction_text a)
signed_no_spaces a fits = no_spaces-append (if a.negative then codes "-" else []) (fraction_text a) (minus_no_spaces a.negative) (fraction_no_spaces a fits)

-- the fraction that is read of one that is printed: zero is read without its sign
abbrev pub read_as : Bool → Fraction → Fraction
read_as zero f = if zero then nothing else f

abbrev ReadsAs : Bool → Bool → Fraction → Fraction → List ℕ → Type 0
ReadsAs p q a b text =
    (first : Part) × (second : Option Part) × (written_of text ≡ Some (written first second)) × (fraction_with false first second ≡ read_as p a) × (fraction_with true first second ≡ read_as q b) × (first_large first second ≡ None)

-- the text, as the parts are 0 or not
abbrev text_by : Bool → Bool → Fraction → Fraction → List ℕ
text_by p q a b =
    let plain = if p then [] else (if a.negative then codes "-" else []) ++ fraction_text a in
    if q then (if p then codes "0" else plain) else plain ++ (if b.negative then codes "-" else (if p then [] else codes "+")) ++ k_text b

zero_fits : Fits nothing
zero_fits = record { num = omega arith; above = omega arith; den = omega arith }

zero_text : codes "0" ≡ fraction_text nothing
zero_text = sym (append-nil (decimal 0) ∙ decimal_digit 0 (omega arith))

reads : (p q : Bool) (a b : Fraction) → Fits a → Fits b → large_in a ≡ None → large_in b ≡ None → ReadsAs p q a b (text_by p q a b)
reads true true a b a_fits b_fits a_small b_small = (as_part false nothing false, None, written_from (codes "0") _ None (refl, tt) (ap parts_at zero_text ∙ parts_plain nothing zero_fits), refl, refl, refl)
reads false true a b a_fits b_fits a_small b_small = (as_part a.negative a false, None, written_from _ _ None (signed_no_spaces a a_fits) (parts_plain a a_fits), refl, refl, rw a_small refl)
reads true false a b a_fits b_fits a_small b_small =
    (as_part b.negative b true, None, written_from _ _ None (no_spaces-append (if b.negative then codes "-" else []) (k_text b) (minus_no_spaces b.negative) (k_no_spaces b b_fits)) (parts_k b b_fits), refl, refl, rw b_small refl)
reads false false a b a_fits b_fits a_small b_small = (
  as_part a.negative a false,
  Some (as_part b.negative b true),
  ap written_of (append_assoc ((if a.negative then codes "-" else []) ++ fraction_text a) (if b.negative then codes "-" else codes "+") (k_text b))
      ∙ written_from _ _ (Some (as_part b.negative b true))
      (no_spaces-append _ _ (signed_no_spaces a a_fits) (no_spaces-append (if b.negative then codes "-" else codes "+") (k_text b) (sign_no_spaces b.negative) (k_no_spaces b b_fits)))
      (parts_both a b a_fits b_fits),
  refl,
  refl,
  rw a_small b_small,
)

not_large : (n : ℕ) → n ≤ 1000000 → nat_lt 1000000 n ≡ false
not_large n h = grind (arith, nat_tests)

small_in : (f : Fraction) → f.num ≤ 1000000 → f.den ≤ 1000000 → large_in f ≡ None
small_in f num den = rw (not_large f.num num, not_large f.den den) refl

text_reads : (a b : Fraction) → 0 < a.den → 0 < b.den → a.num ≤ 1000000 → a.den ≤ 1000000 →
    b.num ≤ 1000000 → b.den ≤ 1000000 → ReadsAs (a.num == 0) (b.num == 0) a b (degree_text a b)
text_reads a b a_above b_above a_num a_den b_num b_den =
    reads (a.num == 0) (b.num == 0) a b
    (record { num = omega arith; above = a_above; den = omega arith }) (record { num = omega arith; above = b_above; den = omega arith })
    (small_in a a_num a_den) (small_in b b_num b_den)

not_negative : (n : ℕ) → is_negative (pos n) ≡ false
not_negative n = grind (arith, nat_tests)

signed_size : (z : ℤ) → under_sign (is_negative z) (unsigned_abs z) ≡ z
signed_size (pos n) = rw (not_negative n) refl
signed_size (negsuc n) = refl

unit_back : (z : ℤ) (den : ℕ) (f : Fraction) → IsLowestOf z den f → in_units_of den f ≡ z
unit_back z den f h =
    let turned : den * f.num ≡ unsigned_abs z * f.den = (let swap : den * f.num ≡ f.num * den = omega arith in swap ∙ h.value.equal) in
    let size : den * f.num / f.den ≡ unsigned_abs z = ap (λ n. n / f.den) turned ∙ mul-div_cancel (unsigned_abs z) h.value.den_above in
    ap (under_sign f.negative) size ∙ ap (λ negative. under_sign negative (unsigned_abs z)) h.sign ∙ signed_size z

no_factor_zero : (m d : ℕ) → 0 < d → m * d ≡ 0 → m ≡ 0
no_factor_zero m d above h = grind (arith, above, h)

size_zero : (z : ℤ) → unsigned_abs z ≡ 0 → pos 0 ≡ z
size_zero z h = omega (arith, ints)

zero_back : (z : ℤ) (den : ℕ) (f : Fraction) → IsLowestOf z den f → f.num ≡ 0 → in_units_of den nothing ≡ z
zero_back z den f h zero_num =
    let none : unsigned_abs z * f.den ≡ 0 = sym h.value.equal ∙ ap (λ n. n * den) zero_num ∙ omega arith in
    let size : den * 0 / 1 ≡ 0 = omega arith in
    ap pos size ∙ size_zero z (no_factor_zero (unsigned_abs z) f.den h.value.den_above none)

fraction_back : (z : ℤ) (den : ℕ) (f : Fraction) → IsLowestOf z den f → in_units_of den (read_as (f.num == 0) f) ≡ z
fraction_back z den f h =
    (elim (f.num == 0) as (λ b. (f.num == 0) ≡ b → in_units_of den (read_as b f) ≡ z) [
      | true ↦ λ e. zero_back z den f h (eqb-true f.num 0 e)
      | false ↦ λ e. unit_back z den f h
    ]) refl

in_range : (z : ℤ) (den : ℕ) (f : Fraction) → 0 < den → IsFractionInRange den z → IsLowestOf z den f → (f.num ≤ 1000000) × (f.den ≤ 1000000)
in_range z den f above h k = let same = lowest_one _ _ _ _ _ _ above h.2 k.value in (subst (λ n. n ≤ 1000000) same.0 h.3, subst (λ n. n ≤ 1000000) same.1 h.4)

-- what is printed of a degree is read as this degree
pub degree_back : (d : Degree) (den : ℕ) (text : List ℕ) → 0 < den → IsFractionInRange den d.a → IsFractionInRange den d.b → IsDegreeText d den text →
    (w : Written) × (written_of text ≡ Some w) × (w.large ≡ None) × (degree_in den w ≡ d)
degree_back d den text above a_range b_range printed =
    let a = printed.0 in
    let b = printed.1 in
    let a_small = in_range d.a den a above a_range printed.2 in
    let b_small = in_range d.b den b above b_range printed.3 in
    let read = text_reads a b printed.2.value.den_above printed.3.value.den_above a_small.0 a_small.1 b_small.0 b_small.1 in
    let w = written read.0 read.1 in (
      w,
      ap written_of printed.4 ∙ read.2,
      read.5,
      degree_is (degree_in den w) d (ap (in_units_of den) read.3 ∙ fraction_back d.a den a printed.2) (ap (in_units_of den) read.4 ∙ fraction_back d.b den b printed.3),
    )
