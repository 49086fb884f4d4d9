-- Steps of what is made of written terms.
use Rattle.std.proofs.Common.{◌≡◌, ℕ, zero, suc, ◌+◌, ◌<◌, Bool, true, false, List, [], ◌∷◌, length, map, drop, get_or, unsigned_abs, refl, ap, sym, ◌∙◌, arith}
use Rattle.std.proofs.lemmas.List.{drop_more}
use Rattle.std.specs.List.{AllByRecursion}
use Rattle.std.specs.Str.Parse.{digits_value}
use Rattle.exact_sums.specs.Saturating.{saturated}
use Rattle.numerals.specs.Numerals.{numeral, is_numeral}
use Rattle.symbol_polys.specs.Polynomials.{monomials, size_of}
use Rattle.symbol_polys.specs.Symbols.{PlainSymbol}
use Rattle.symbol_polys.specs.TermReading.{signed, written_of}
use Rattle.symbol_polys.specs.Text.{is_negative}
use Rattle.symbol_polys.specs.View.{symbol_of}
use Rattle.symbol_polys.specs.declared.written.WrittenTerm.{WrittenTerm}
use Rattle.numerals.proofs.Magnitudes.{numeral_back, numeral_above}

pub size_signed : (b : Bool) (n : ℕ) → unsigned_abs (signed b n) ≡ n
size_signed true zero = refl
size_signed true (suc n) = refl
size_signed false n = refl

pub sign_signed : (b : Bool) (n : ℕ) → 0 < n → is_negative (signed b n) ≡ b
sign_signed true zero above = absurd (omega arith)
sign_signed true (suc n) above = refl
sign_signed false n above = refl

-- what is written of a coefficient is its digits
pub digits_kept : (b : Bool) (ds : List ℕ) → is_numeral ds ≡ true → numeral (unsigned_abs (signed b (digits_value 10 ds))) ≡ ds
digits_kept b ds h = ap numeral (size_signed b (digits_value 10 ds)) ∙ numeral_back ds h

pub sign_kept : (b : Bool) (ds : List ℕ) → is_numeral ds ≡ true → is_negative (signed b (digits_value 10 ds)) ≡ b
sign_kept b ds h = sign_signed b (digits_value 10 ds) (numeral_above ds h)

pub written_monomials : (ws : List WrittenTerm) → map (λ w. map symbol_of w.symbols) ws ≡ monomials (map written_of ws)
written_monomials [] = refl
written_monomials (w ∷ ws) = ap (λ (ms : List (List PlainSymbol)). map symbol_of w.symbols ∷ ms) (written_monomials ws)

pub all_at : (P : WrittenTerm → Type 0) (ws : List WrittenTerm) (i : ℕ) (w : WrittenTerm) → i < length ws → w ≡ get_or ws i w → AllByRecursion P ws → P w
all_at P [] i w l e h = absurd (omega arith)
all_at P (x ∷ ws) zero w l e h = rw e h.0
all_at P (x ∷ ws) (suc i) w l e h = all_at P ws i w (omega arith) e h.1

-- one more absolute coefficient
pub size_met : (sum next c r all : ℕ) → next ≡ saturated (sum + saturated c) → saturated (sum + (c + r)) ≡ saturated all → saturated (next + r) ≡ saturated all
size_met sum next c r all e h = omega arith

pub first_left : (ws : List WrittenTerm) (i : ℕ) (w : WrittenTerm) → i < length ws → w ≡ get_or ws i w → drop i ws ≡ w ∷ drop (i + 1) ws
first_left ws i w l e = drop_more ws i w l ∙ ap (λ (x : WrittenTerm). x ∷ drop (i + 1) ws) (sym e)

pub size_cons : (w : WrittenTerm) (ws : List WrittenTerm) → size_of (map written_of (w ∷ ws)) ≡ digits_value 10 w.digits.now + size_of (map written_of ws)
size_cons w ws = ap (λ (n : ℕ). n + size_of (map written_of ws)) (size_signed w.is_negative (digits_value 10 w.digits.now))

pub total_met : (ws : List WrittenTerm) (i sum mag next all : ℕ) (w : WrittenTerm) → i < length ws →
    w ≡ get_or ws i w → mag ≡ saturated (digits_value 10 w.digits.now) →
    next ≡ saturated (sum + mag) →
    saturated (sum + size_of (map written_of (drop i ws))) ≡ saturated all → saturated (next + size_of (map written_of (drop (i + 1) ws))) ≡ saturated all
total_met ws i sum mag next all w l e m n h =
    let rest = drop (i + 1) ws in
    let size : size_of (map written_of (drop i ws)) ≡ digits_value 10 w.digits.now + size_of (map written_of rest) = ap (λ (xs : List WrittenTerm). size_of (map written_of xs)) (first_left ws i w l e) ∙ size_cons w rest in
    size_met sum next (digits_value 10 w.digits.now) (size_of (map written_of rest)) all (rw m at n) (rw size at h)

pub numerals_left : (ws : List WrittenTerm) (i : ℕ) (w : WrittenTerm) → i < length ws →
    w ≡ get_or ws i w → AllByRecursion (λ x. is_numeral x.digits.now ≡ true) (drop i ws) →
    AllByRecursion (λ x. is_numeral x.digits.now ≡ true) (w ∷ drop (i + 1) ws)
numerals_left ws i w l e h = rw (first_left ws i w l e) at h
