-- The least common denominator, one fraction after the other.
use Rattle.std.proofs.Common.{◌≡◌, ℕ, ◌*◌, ◌/◌, ◌<◌, ◌≤◌, ◌++◌, ◌∷◌, [], List, ℤ, pos, ◌<ℤ◌, ◌≤ℤ◌, unsigned_abs, w64, to_z, of_z, true, false, nat_lt, min, subst, arith, refl, ap, sym, ◌∙◌, ◌+◌, length, take, get_or, append_assoc}
use Rattle.std.proofs.lemmas.List.{take_more}
use Rattle.std.specs.Int.{IsGcd, ◌∣◌, is_negative}
use Rattle.std.proofs.lemmas.Bool.Decides.{nat_tests}
use Rattle.std.proofs.Math.Nat.{div-mul_cancel, pos_of_dvd_of_pos, one-dvd, dvd-mul_left, dvd-mul_right, mul-dvd-mul_right}
use Rattle.std.specs.List.{AllByRecursion}
use Rattle.std.proofs.lemmas.Int.{ints, to_z_pos}
use Rattle.std.proofs.lemmas.Nat.Gcd.{dvd_trans, le_of_dvd}
use Rattle.text_parts.specs.Reading.{most}
use Rattle.degree_numbers.specs.Fraction.{Fraction, ClearsAll, IsCommon}
use Rattle.degree_numbers.specs.Units.{IsJoined, Separates, fraction_of, fractions, IsWholeIn, IsPast}
use Rattle.degree_numbers.specs.declared.written.WrittenDegree.{WrittenDegree}
use Rattle.degree_numbers.proofs.Kept.{num_kept, den_kept}
use Rattle.degree_numbers.proofs.LowestTerms.{lowest_divides}
use Rattle.degree_numbers.proofs.Divisors.{clears_from, clears_to, joined_least, joined_left}

pub all_push : (l : ℕ) (ts : List Fraction) (t : Fraction) → ClearsAll l ts → t.den ∣ l * t.num → ClearsAll l (ts ++ t ∷ [])
all_push l [] t h k = (k, tt)
all_push l (s ∷ ts) t h k = (h.0, all_push l ts t h.1 k)

pub all_front : (l : ℕ) (ts : List Fraction) (t : Fraction) → ClearsAll l (ts ++ t ∷ []) → ClearsAll l ts
all_front l [] t h = tt
all_front l (s ∷ ts) t h = (h.0, all_front l ts t h.1)

pub all_last : (l : ℕ) (ts : List Fraction) (t : Fraction) → ClearsAll l (ts ++ t ∷ []) → t.den ∣ l * t.num
all_last l [] t h = h.0
all_last l (s ∷ ts) t h = all_last l ts t h.1

pub all_up : (l m : ℕ) (ts : List Fraction) → l ∣ m → ClearsAll l ts → ClearsAll m ts
all_up l m [] d h = tt
all_up l m (s ∷ ts) d h = (dvd_trans s.den {b = l * s.num} {c = m * s.num} h.0 (mul-dvd-mul_right l d s.num), all_up l m ts d h.1)

pub none_yet : IsCommon 1 []
none_yet = record { above = omega arith; fits = omega arith; exact = λ lt. record { clears = tt; least = λ x h. one-dvd x }; past = λ le x lt h. absurd (omega (arith, le)) }

-- with one more fraction
pub one_more : (n b m : ℕ) (ts : List Fraction) (t : Fraction) → IsCommon n ts → n < most → Separates b t.num t.den → IsJoined m n b → IsCommon m (ts ++ t ∷ [])
one_more n b m ts t c lt r j = record {
  above = j.above;
  fits = j.fits;
  exact = λ small. let e = j.exact small in record {
    clears = all_push m ts t (all_up n m ts e.0 (c.exact lt).clears) (r.from m e.1);
    least = λ x h. e.2 x ((c.exact lt).least x (all_front x ts t h)) (r.to x (all_last x ts t h));
  };
  past = λ large x up h. j.past large x up ((c.exact lt).least x (all_front x ts t h)) (r.to x (all_last x ts t h));
}

-- with one more fraction where the greatest number is passed already
pub one_past : (n : ℕ) (ts : List Fraction) (t : Fraction) → IsCommon n ts → most ≤ n → IsCommon n (ts ++ t ∷ [])
one_past n ts t c le = record {
  above = c.above;
  fits = c.fits;
  exact = λ small. absurd (omega (arith, small, le));
  past = λ large x up h. c.past le x up (all_front x ts t h);
}

above_quotient : (d g : ℕ) → g ∣ d → 0 < d → 0 < d / g
above_quotient d g h lt = pos_of_dvd_of_pos (subst (λ x. d / g ∣ x) (div-mul_cancel g h) (dvd-mul_right (d / g) g)) lt

pub separated : (num den g : ℕ) → IsGcd num den g → 0 < den → Separates (den / g) num den
separated num den g h lt = record {
  above = above_quotient den g h.1 lt;
  to = λ l p. clears_to num den g l h lt p;
  from = λ l p. clears_from num den g l h p;
}

product_above : (x y : ℕ) → 0 < x → 0 < y → 0 < x * y
product_above x y p q = grind (arith, p, q)

pub joined_by : (a b g n : ℕ) → IsGcd a b g → 0 < a → 0 < b → n ≡ min (a / g * b) most → IsJoined n a b
joined_by a b g n h la lb e =
    let up : 0 < a / g * b = product_above (a / g) b (above_quotient a g h.0 la) lb in
    record {
      above = omega (arith, e, up);
      fits = omega (arith, e);
      exact = λ small. let is : a / g * b ≡ n = omega (arith, e, small) in
          subst (λ m. (a ∣ m) × (b ∣ m) × ((x : ℕ) → a ∣ x → b ∣ x → m ∣ x)) is (joined_left a b g h, dvd-mul_left b (a / g), λ x p q. joined_least a b g x h la p q);
      past = λ large x lx p q. let le : a / g * b ≤ x = le_of_dvd lx (joined_least a b g x h la p q) in omega (arith, e, large, le);
    }

-- with two more fractions
pub two_more : (n m : ℕ) (fs : List Fraction) (f g : Fraction) → IsCommon n (fs ++ f ∷ []) →
    ((gs : List Fraction) → IsCommon n gs → IsCommon m (gs ++ g ∷ [])) →
    IsCommon m (fs ++ f ∷ g ∷ [])
two_more n m fs f g h step = subst (λ hs. IsCommon m hs) (append_assoc fs (f ∷ []) (g ∷ [])) (step (fs ++ f ∷ []) h)

fractions-push : (ds : List WrittenDegree) (d : WrittenDegree) →
    fractions (ds ++ d ∷ []) ≡ fractions ds ++ fraction_of d.a_num d.a_den ∷ fraction_of d.b_num d.b_den ∷ []
fractions-push [] d = refl
fractions-push (e ∷ ds) d = ap (λ fs. fraction_of e.a_num e.a_den ∷ fraction_of e.b_num e.b_den ∷ fs) (fractions-push ds d)

pub fractions_more : (ds : List WrittenDegree) (i : ℕ) (d : WrittenDegree) → i < length ds →
    d ≡ get_or ds i d →
    fractions (take (i + 1) ds) ≡ fractions (take i ds) ++ fraction_of d.a_num d.a_den ∷ fraction_of d.b_num d.b_den ∷ []
fractions_more ds i d lt is =
    ap fractions (take_more ds i d lt ∙ ap (λ x. take i ds ++ x ∷ []) (sym is)) ∙ fractions-push (take i ds) d

pub same_fraction : (z b : ℤ) (num den n : ℕ) (fs : List Fraction) → unsigned_abs z ≤ 1000000 → pos 0 <ℤ b → b ≤ℤ pos 1000000 → num ≡ unsigned_abs (to_z w64 (of_z w64 z)) → den ≡ unsigned_abs (to_z w64 (of_z w64 b)) → IsCommon n (fs ++ record { negative = is_negative z; num = num; den = den } ∷ []) → IsCommon n (fs ++ fraction_of z b ∷ [])
same_fraction z b num den n fs fits above most e f h =
    let same_num : unsigned_abs z ≡ num = ap unsigned_abs (sym (num_kept z fits)) ∙ sym e in
    let same_den : unsigned_abs b ≡ den = ap unsigned_abs (sym (den_kept b above most)) ∙ sym f in
    rw (same_num, same_den) h

-- where the least common denominator passes 1,000,000, each one does
pub past : (n : ℕ) (fs : List Fraction) → IsCommon n fs → 1000000 < n → IsPast fs
past n fs h large x above clears =
    (elim (nat_lt n most) as (λ b. nat_lt n most ≡ b → 1000000 < x) [
      | true ↦ λ e. let divides : n ∣ x = (h.exact (grind (arith, e, nat_tests))).least x clears in let le = le_of_dvd above divides in omega (arith, le, large)
      | false ↦ λ e. let le = h.past (grind (arith, e, nat_tests)) x above clears in omega (arith, le)
    ]) refl

-- what clears degrees in lowest terms makes them whole
pub whole_in : (ds : List WrittenDegree) (den : ℤ) → ClearsAll (unsigned_abs den) (fractions ds) → AllByRecursion (λ d. IsWholeIn d den) ds
whole_in [] den h = tt
whole_in (d ∷ ds) den h = (
  record {
    a = lowest_divides (unsigned_abs d.a_num) (unsigned_abs d.a_den) (unsigned_abs den) d.a_lowest (size_above d.a_den d.a_den_above) h.0;
    b = lowest_divides (unsigned_abs d.b_num) (unsigned_abs d.b_den) (unsigned_abs den) d.b_lowest (size_above d.b_den d.b_den_above) h.1.0;
  },
  whole_in ds den h.1.1,
)
  where
    size_above : (z : ℤ) → pos 0 <ℤ z → 0 < unsigned_abs z
    size_above z h = omega (arith, ints)

pub whole_in_common : (ds : List WrittenDegree) (n : ℕ) → IsCommon n (fractions ds) → n ≤ 1000000 → AllByRecursion (λ d. IsWholeIn d (to_z w64 n)) ds
whole_in_common ds n h fits = rw (to_z_pos w64 n (omega arith)) (whole_in ds (pos n) (h.exact (omega arith)).clears)
