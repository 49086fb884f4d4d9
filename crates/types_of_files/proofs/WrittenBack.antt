-- What is written of a degree, and the types of the document.
use Rattle.std.proofs.Common.{◌≡◌, ℕ, zero, suc, negsuc, ◌*◌, ◌/◌, ◌<◌, ◌≤◌, Bool, true, false, ℤ, pos, ◌<ℤ◌, unsigned_abs, List, Some, None, arith, refl, ap, sym, subst, ◌∙◌}
use Rattle.std.proofs.Math.Nat.{div-mul_cancel}
use Rattle.std.specs.Prelude.{◌==◌, unwrap_or}
use Rattle.std.specs.Int.{◌∣◌, is_negative}
use Rattle.std.proofs.lemmas.Bool.{false≢true}
use Rattle.std.proofs.lemmas.Bool.Decides.{nat_tests}
use Rattle.std.proofs.lemmas.Int.{ints}
use Rattle.degree_numbers.specs.declared.degree.Degree.{Degree}
use Rattle.degree_numbers.specs.DegreeText.{Written, written_of}
use Rattle.degree_numbers.specs.Fraction.{Fraction, Clears, under_sign}
use Rattle.degree_numbers.specs.Printing.{IsLowestOf, IsDegreeText, degree_text}
use Rattle.degree_numbers.specs.Types.{IsWritable}
use Rattle.degree_numbers.specs.Written.{in_units_of}
use Rattle.degree_numbers.proofs.Back.{degree_back}
use Rattle.degree_numbers.proofs.InUnits.{lowest_exists, size_under_sign}
use Rattle.equation_document.specs.DegreeEntry.{is_positive, is_standard}
use Rattle.type_contexts.specs.Same.{IsSameFraction}
use Rattle.type_contexts.proofs.DegreesRead.{IsSameWritten, written_same}
use Rattle.type_contexts.proofs.Denominators.{written_above}
use Rattle.type_contexts.proofs.SameNumbers.{signed_same, writable_same, whole_same, size_above, some_too, not_negative}
use Rattle.types_of_files.proofs.LimitsKept.{IsSmallWritten}

lowest_of : (z : ℤ) (den : ℕ) → 0 < den → (f : Fraction) × IsLowestOf z den f
lowest_of z den above =
    let low = lowest_exists (unsigned_abs z) den above in
    (record { negative = is_negative z; num = low.0; den = low.1 }, record { sign = refl; value = low.2 })

pub degree_has_text : (d : Degree) (den : ℕ) → 0 < den → (text : List ℕ) × IsDegreeText d den text
degree_has_text d den above =
    let a = lowest_of d.a den above in
    let b = lowest_of d.b den above in
    (degree_text a.0 b.0, (a.0, b.0, a.1, b.1, refl))

abbrev none : Fraction
none = record { negative = false; num = 0; den = 1 }

abbrev pub read_of : List ℕ → Written
read_of text = unwrap_or (written_of text) (record { plain = none; with_k = none; large = None })

-- a degree that a file can write
pub record IsWritableDegree (den : ℕ) (d : Degree) : Type 0 where
  pub a : IsWritable den d.a
  pub b : IsWritable den d.b

pub record IsBack (den : ℕ) (d : Degree) (text : List ℕ) : Type 0 where
  pub read : written_of text ≡ Some (read_of text)
  pub same : IsSameWritten d den (read_of text)
  pub small : IsSmallWritten den (read_of text)

small_num : (z : ℤ) (den : ℕ) (f : Fraction) → 0 < den → IsSameFraction z den (under_sign f.negative f.num) f.den → IsWritable den z → f.num ≤ 20 * f.den
small_num z den f above same w = subst (λ n. n ≤ 20 * f.den) (size_under_sign f.negative f.num) (writable_same z den (under_sign f.negative f.num) f.den above same w).size

clear_num : (z : ℤ) (den : ℕ) (f : Fraction) → IsSameFraction z den (under_sign f.negative f.num) f.den → Clears den f
clear_num z den f same = subst (λ n. f.den ∣ den * n) (size_under_sign f.negative f.num) (whole_same z den (under_sign f.negative f.num) f.den same)

pub written_back : (d : Degree) (den : ℕ) (text : List ℕ) → 0 < den → IsWritableDegree den d → IsDegreeText d den text → IsBack den d text
written_back d den text above h printed =
    let back = degree_back d den text above h.a.written h.b.written printed in
    let is : read_of text ≡ back.0 = ap (λ o. unwrap_or o (record { plain = none; with_k = none; large = None })) back.1 in
    let read : written_of text ≡ Some (read_of text) = back.1 ∙ ap Some (sym is) in
    let same = written_same d den text (read_of text) above h.a.written h.b.written printed read in
    let dens = written_above text (read_of text) read in
    record {
      read = read;
      same = same;
      small = record {
        large = ap (λ w. w.large) is ∙ back.2;
        plain_above = dens.plain;
        k_above = dens.with_k;
        plain_small = small_num d.a den (read_of text).plain above same.a h.a;
        k_small = small_num d.b den (read_of text).with_k above same.b h.b;
        plain_clear = clear_num d.a den (read_of text).plain same.a;
        k_clear = clear_num d.b den (read_of text).with_k same.b;
      };
    }

-- a fraction in units that clear it is the same number
pub unit_same : (l : ℕ) (f : Fraction) → 0 < l → 0 < f.den → Clears l f → IsSameFraction (under_sign f.negative f.num) f.den (in_units_of l f) l
unit_same l f l_above above clears = signed_same f.negative f.num f.den (l * f.num / f.den) l above l_above (let turned : f.num * l ≡ l * f.num = omega arith in turned ∙ sym (div-mul_cancel f.den clears))

no_factor : (m d : ℕ) → 0 < d → m * d ≡ 0 → m ≡ 0
no_factor m d above h = grind (arith, above, h)

zero_num : (z : ℤ) (den : ℕ) (f : Fraction) → 0 < den → IsSameFraction z den (under_sign f.negative f.num) f.den → z ≡ pos 0 → f.num ≡ 0
zero_num z den f above same none =
    no_factor f.num den above (ap (λ n. n * den) (sym (size_under_sign f.negative f.num)) ∙ sym same.size ∙ ap (λ x. unsigned_abs x * f.den) none ∙ omega arith)

is_zero : (n : ℕ) → n ≡ 0 → (n == 0) ≡ true
is_zero n h = grind (arith, nat_tests)

is_not_zero : (n : ℕ) → 0 < n → (n == 0) ≡ false
is_not_zero n h = grind (arith, nat_tests)

pub standard : (d : Degree) (den : ℕ) (text : List ℕ) → 0 < den → IsBack den d text → d.b ≡ pos 0 → is_standard (read_of text) ≡ true
standard d den text above h none = rw (is_zero (read_of text).with_k.num (zero_num d.b den (read_of text).with_k above h.same.b none)) refl

plus_sign : (negative : Bool) (n : ℕ) → 0 < n → false ≡ is_negative (under_sign negative n) → negative ≡ false
plus_sign false n some h = refl
plus_sign true zero some h = absurd (omega (arith, some))
plus_sign true (suc n) some h = absurd (false≢true h)

above_is_plus : (z : ℤ) → pos 0 <ℤ z → is_negative z ≡ false
above_is_plus (pos n) h = not_negative n
above_is_plus (negsuc n) h = absurd (omega (arith, ints, h))

pub positive : (d : Degree) (den : ℕ) (text : List ℕ) → 0 < den → IsBack den d text → d.b ≡ pos 0 → pos 0 <ℤ d.a → is_positive (read_of text) ≡ true
positive d den text above h none over =
    let f = (read_of text).plain in
    let cross : unsigned_abs d.a * f.den ≡ f.num * den = h.same.a.size ∙ ap (λ n. n * den) (size_under_sign f.negative f.num) in
    let some : 0 < f.num = some_too (unsigned_abs d.a) den f.num f.den h.small.plain_above cross (size_above d.a over) in
    let plus : f.negative ≡ false = plus_sign f.negative f.num some (sym (above_is_plus d.a over) ∙ h.same.a.sign) in
    rw (is_zero (read_of text).with_k.num (zero_num d.b den (read_of text).with_k above h.same.b none), is_not_zero f.num some, plus) refl
