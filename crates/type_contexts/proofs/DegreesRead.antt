-- The degree that is read of the text of a degree.
use Rattle.std.proofs.Common.{◌≡◌, ℕ, ◌*◌, ◌/◌, ◌<◌, ℤ, unsigned_abs, List, Option, Some, None, Ok, arith, ap, sym, subst, ◌∙◌}
use Rattle.std.specs.Prelude.{MatchOption, Result, Err, IsOkAnd}
use Rattle.std.specs.Int.{is_negative}
use Rattle.std.proofs.Math.Nat.{mul-div_cancel}
use Rattle.degree_numbers.specs.declared.degree.Degree.{Degree}
use Rattle.degree_numbers.specs.declared.refusal.DegreeRefusal.{DegreeRefusal}
use Rattle.degree_numbers.specs.declared.refusal.DegreeRefusal.TheVariants.{DegreeText}
use Rattle.degree_numbers.specs.declared.written.WrittenDegree.{WrittenDegree}
use Rattle.degree_numbers.specs.DegreeText.{Written, written_of}
use Rattle.degree_numbers.specs.Fraction.{Fraction, IsFractionInRange, IsReduced, under_sign}
use Rattle.degree_numbers.specs.Printing.{IsDegreeText}
use Rattle.degree_numbers.specs.Written.{IsWritten, IsRead, too_large, in_units_of, degree_in}
use Rattle.degree_numbers.proofs.Back.{degree_back}
use Rattle.degree_numbers.proofs.InUnits.{size_under_sign}
use Rattle.type_contexts.specs.Same.{IsSameFraction}
use Rattle.type_contexts.proofs.Denominators.{written_above}
use Rattle.type_contexts.proofs.SameNumbers.{lowest_same, range_same, same_sym, same_trans, signed_same, some_too, sign_of_size, negative_under}

-- z times c
abbrev times : ℕ → ℤ → ℤ
times c z = under_sign (is_negative z) (c * unsigned_abs z)

times_same : (c : ℕ) (z : ℤ) (den : ℕ) → 0 < c → IsSameFraction z den (times c z) (c * den)
times_same c z den above = record {
  size = (let turned : unsigned_abs z * (c * den) ≡ c * unsigned_abs z * den = omega arith in turned ∙ ap (λ n. n * den) (sym (size_under_sign (is_negative z) (c * unsigned_abs z))));
  sign = negative_under z (c * unsigned_abs z) (λ some. product_above c (unsigned_abs z) above some);
}
  where
    product_above : (x y : ℕ) → 0 < x → 0 < y → 0 < x * y
    product_above x y p q = grind (arith, p, q)

abbrev degree_times : ℕ → Degree → Degree
degree_times c d = record { a = times c d.a; b = times c d.b }

text_times : (c : ℕ) (d : Degree) (den : ℕ) (text : List ℕ) → 0 < c → 0 < den → IsDegreeText d den text → IsDegreeText (degree_times c d) (c * den) text
text_times c d den text above den_above h = (
  h.0,
  h.1,
  lowest_same d.a den (times c d.a) (c * den) h.0 den_above (times_same c d.a den above) h.2,
  lowest_same d.b den (times c d.b) (c * den) h.1 den_above (times_same c d.b den above) h.3,
  h.4,
)

positive : (c den : ℕ) → 0 < c → 0 < den → 0 < c * den
positive c den p q = grind (arith, p, q)

same_written : (v w : Written) (text : List ℕ) → written_of text ≡ Some v → written_of text ≡ Some w → v ≡ w
same_written v w text h k = let e : Some v ≡ Some w = sym h ∙ k in cc

-- in all multiples of the common denominator the same is read
read_times : (c : ℕ) (d : Degree) (den : ℕ) (text : List ℕ) (w : Written) → 0 < c → 0 < den →
    IsFractionInRange den d.a → IsFractionInRange den d.b → IsDegreeText d den text →
    written_of text ≡ Some w → degree_in (c * den) w ≡ degree_times c d
read_times c d den text w above den_above a b h is =
    let back = degree_back (degree_times c d) (c * den) text (positive c den above den_above) (range_same d.a den (times c d.a) (c * den) den_above (times_same c d.a den above) a) (range_same d.b den (times c d.b) (c * den) den_above (times_same c d.b den above) b) (text_times c d den text above den_above h) in
    ap (degree_in (c * den)) (same_written w back.0 text is back.1) ∙ back.3

abbrev signed : Fraction → ℤ
signed f = under_sign f.negative f.num

-- a number that is read in each multiple of a denominator is the fraction
same_as_read : (z : ℤ) (den : ℕ) (f : Fraction) → 0 < den → 0 < f.den →
    in_units_of (f.den * den) f ≡ times f.den z → in_units_of (1 * den) f ≡ times 1 z →
    IsSameFraction z den (signed f) f.den
same_as_read z den f den_above above many once =
    let whole : f.den * den * f.num / f.den ≡ den * f.num = (let turned : f.den * den * f.num ≡ den * f.num * f.den = omega arith in ap (λ n. n / f.den) turned ∙ mul-div_cancel (den * f.num) above) in
    let size : den * f.num ≡ f.den * unsigned_abs z =
    sym whole ∙ sym (size_under_sign f.negative (f.den * den * f.num / f.den)) ∙ ap unsigned_abs many ∙ size_under_sign (is_negative z) (f.den * unsigned_abs z) in
    let cross : unsigned_abs z * f.den ≡ f.num * den = (let one : unsigned_abs z * f.den ≡ f.den * unsigned_abs z = omega arith in let two : den * f.num ≡ f.num * den = omega arith in one ∙ sym size ∙ two) in
    record {
      size = cross ∙ ap (λ n. n * den) (sym (size_under_sign f.negative f.num));
      sign = negative_under z (1 * unsigned_abs z) (λ some. omega (arith, some)) ∙ ap is_negative (sym once)
          ∙ sign_of_size f.negative (1 * den * f.num / f.den) f.num
          (λ some. some_too (unsigned_abs z) den f.num f.den above cross (subst (λ n. 0 < n) (sizes once) some))
          (λ some. subst (λ n. 0 < n) (sym (sizes once)) (some_too f.num f.den (unsigned_abs z) den den_above (sym cross) some));
    }
  where
    sizes : in_units_of (1 * den) f ≡ times 1 z → 1 * den * f.num / f.den ≡ unsigned_abs z
    sizes once = sym (size_under_sign f.negative (1 * den * f.num / f.den)) ∙ ap unsigned_abs once ∙ size_under_sign (is_negative z) (1 * unsigned_abs z) ∙ omega arith

pub record IsSameWritten (d : Degree) (den : ℕ) (w : Written) : Type 0 where
  pub a : IsSameFraction d.a den (signed w.plain) w.plain.den
  pub b : IsSameFraction d.b den (signed w.with_k) w.with_k.den

pub written_same : (d : Degree) (den : ℕ) (text : List ℕ) (w : Written) → 0 < den →
    IsFractionInRange den d.a → IsFractionInRange den d.b → IsDegreeText d den text →
    written_of text ≡ Some w → IsSameWritten d den w
written_same d den text w den_above a b h is =
    let above = written_above text w is in
    let once = read_times 1 d den text w (omega arith) den_above a b h is in
    record {
      a = same_as_read d.a den w.plain den_above above.plain (ap (λ x. x.a) (read_times w.plain.den d den text w above.plain den_above a b h is)) (ap (λ x. x.a) once);
      b = same_as_read d.b den w.with_k den_above above.with_k (ap (λ x. x.b) (read_times w.with_k.den d den text w above.with_k den_above a b h is)) (ap (λ x. x.b) once);
    }

reduced_same : (f : Fraction) (z b : ℤ) → 0 < f.den → IsReduced f z b → IsSameFraction (signed f) f.den z (unsigned_abs b)
reduced_same f z b above h =
    let low = h.4 in
    subst (λ y. IsSameFraction (signed f) f.den y (unsigned_abs b)) (sym h.2)
    (subst (λ y. IsSameFraction (signed f) f.den (under_sign f.negative h.0) (unsigned_abs y)) (sym h.3) (signed_same f.negative f.num f.den h.0 h.1 above low.den_above (sym low.equal)))

pub record IsSameDegree (d : Degree) (den : ℕ) (w : WrittenDegree) : Type 0 where
  pub a : IsSameFraction d.a den w.a_num (unsigned_abs w.a_den)
  pub b : IsSameFraction d.b den w.b_num (unsigned_abs w.b_den)

abbrev Outcome : WrittenDegree → Written → Option ℕ → Type 0
Outcome d w large = MatchOption large (IsOkAnd {T = WrittenDegree} {E = DegreeRefusal} (Ok d) (IsWritten w)) (λ n. ◌≡◌ {A = Result WrittenDegree DegreeRefusal} (Ok d) (Err (too_large w n)))

small : (d : WrittenDegree) (w : Written) (large : Option ℕ) → Outcome d w large → IsWritten w d
small d w None h = h
small d w (Some n) h = absurd cc

read_is : (text : List ℕ) (w : Written) (d : WrittenDegree) → written_of text ≡ Some w → IsRead text (Ok d) → IsWritten w d
read_is text w d is read = small d w w.large (subst (λ o. MatchOption o (◌≡◌ {A = Result WrittenDegree DegreeRefusal} (Ok d) (Err DegreeText)) (λ v. Outcome d v v.large)) is read)

-- what is read of the text of a degree is the degree
pub degree_read : (d : Degree) (den : ℕ) (text : List ℕ) (r : WrittenDegree) → 0 < den →
    IsFractionInRange den d.a → IsFractionInRange den d.b → IsDegreeText d den text →
    IsRead text (Ok r) → IsSameDegree d den r
degree_read d den text r den_above a b h read =
    let back = degree_back d den text den_above a b h in
    let w = back.0 in
    let above = written_above text w back.1 in
    let same = written_same d den text w den_above a b h back.1 in
    let is = read_is text w r back.1 read in
    record {
      a = same_trans d.a den (signed w.plain) w.plain.den r.a_num (unsigned_abs r.a_den) above.plain same.a (reduced_same w.plain r.a_num r.a_den above.plain is.plain);
      b = same_trans d.b den (signed w.with_k) w.with_k.den r.b_num (unsigned_abs r.b_den) above.with_k same.b (reduced_same w.with_k r.b_num r.b_den above.with_k is.with_k);
    }

-- degrees with the same text are the same number
pub degrees_one : (d : Degree) (den : ℕ) (e : Degree) (other : ℕ) (text : List ℕ) → 0 < den →
    0 < other → IsFractionInRange den d.a → IsFractionInRange den d.b →
    IsFractionInRange other e.a → IsFractionInRange other e.b → IsDegreeText d den text →
    IsDegreeText e other text → IsSameFraction d.a den e.a other × IsSameFraction d.b den e.b other
degrees_one d den e other text den_above other_above da db ea eb h k =
    let back = degree_back d den text den_above da db h in
    let w = back.0 in
    let above = written_above text w back.1 in
    let here = written_same d den text w den_above da db h back.1 in
    let there = written_same e other text w other_above ea eb k back.1 in (
      same_trans d.a den (signed w.plain) w.plain.den e.a other above.plain here.a (same_sym e.a other (signed w.plain) w.plain.den there.a),
      same_trans d.b den (signed w.with_k) w.with_k.den e.b other above.with_k here.b (same_sym e.b other (signed w.with_k) w.with_k.den there.b),
    )
