-- What is read of the text of a term, and of that of a polynomial.
use Rattle.std.proofs.Common.{◌≡◌, ℕ, ◌<◌, Bool, true, false, List, [], ◌∷◌, ◌++◌, length, map, unsigned_abs, refl, ap, sym, ◌∙◌, arith, Bor}
use Rattle.std.specs.Prelude.{if◌then◌else◌}
use Rattle.std.specs.List.{AllByRecursion}
use Rattle.std.specs.Str.Parse.{digits_value}
use Rattle.degree_numbers.specs.Name.{is_name_byte}
use Rattle.degree_numbers.specs.Types.{AreTypes}
use Rattle.degree_numbers.specs.declared.types.Types.{Types}
use Rattle.numerals.specs.Numerals.{numeral, is_numeral}
use Rattle.symbol_polys.specs.Pieces.{is_mark, depth_after, pieces, unmarked}
use Rattle.symbol_polys.specs.Polynomials.{PlainTerm}
use Rattle.symbol_polys.specs.Symbols.{PlainSymbol}
use Rattle.symbol_polys.specs.TermReading.{split_sign, behind_empty, coefficient_digits, power_factors, signed, expanded, IsTermOf}
use Rattle.symbol_polys.specs.Text.{AreParameters, powers, power_text, body_text, is_negative, signed_texts, poly_text}
use Rattle.symbol_polys.proofs.FactorPasses.{Begins}
use Rattle.symbol_polys.proofs.Following.{Writes}
use Rattle.numerals.proofs.Magnitudes.{numeral_is}
use Rattle.numerals.proofs.Numerals.{numeral_digits}
use Rattle.symbol_polys.proofs.Passing.{apart_from}
use Rattle.symbol_polys.proofs.Piecing.{onward, marked, IsMarked, pieces_onward, pieces_first}
use Rattle.symbol_polys.proofs.TermTexts.{sign_and_body, IsFactored, factored, expanded_powers, signed_back}

pub map-map : {A B C : Type 0} (f : A → B) (g : B → C) (xs : List A) → map (λ x. g (f x)) xs ≡ map g (map f xs)
map-map f g [] = refl
map-map {A} {B} {C} f g (x ∷ xs) = ap (λ (ys : List C). g (f x) ∷ ys) (map-map f g xs)

abbrev sign_of : PlainTerm → ℕ
sign_of t = if is_negative t.coefficient then 45 else 43

split_signed : (b : Bool) (body : List ℕ) → split_sign ((if b then 45 else 43) ∷ body) ≡ (b, body)
split_signed true body = refl
split_signed false body = refl

split_body : (c : ℕ) (cs : List ℕ) → is_name_byte c ≡ true → split_sign (c ∷ cs) ≡ (false, c ∷ cs)
split_body c cs h = rw (apart_from c 45 refl h, apart_from c 43 refl h) refl

sign_marked : (b : Bool) → (is_mark (43 ∷ 45 ∷ []) (if b then 45 else 43) ≡ true) × (depth_after 0 (if b then 45 else 43) ≡ 0)
sign_marked true = (refl, refl)
sign_marked false = (refl, refl)

module _ (ty : Types) (ps : List (List ℕ)) (types : AreTypes ty) (parameters : AreParameters ty ps) where
  abbrev pair : PlainTerm → ℕ × List ℕ
  pair t = (sign_of t, body_text ty ps t)

  signed_onward : (ts : List PlainTerm) → signed_texts ty ps ts ≡ onward (map pair ts)
  signed_onward [] = refl
  signed_onward (t ∷ ts) = ap (λ (x : List ℕ). sign_of t ∷ (body_text ty ps t ++ x)) (signed_onward ts)

  factored_of : (t : PlainTerm) → IsTermOf ty ps t → IsFactored ty ps (numeral (unsigned_abs t.coefficient)) t.symbols
  factored_of t h = factored ty ps types parameters (unsigned_abs t.coefficient) t.symbols h.symbols

  pairs_marked : (ts : List PlainTerm) → AllByRecursion (IsTermOf ty ps) ts → AllByRecursion (IsMarked (43 ∷ 45 ∷ [])) (map pair ts)
  pairs_marked [] h = tt
  pairs_marked (t ∷ ts) h = let s = sign_marked (is_negative t.coefficient) in ((s.0, (s.1, (factored_of t h.0).uncut)), pairs_marked ts h.1)

  pairs_split : (ts : List PlainTerm) → map split_sign (map marked (map pair ts)) ≡ map (sign_and_body ty ps) ts
  pairs_split [] = refl
  pairs_split (t ∷ ts) = ap (λ (x : Bool × List ℕ). x ∷ map split_sign (map marked (map pair ts))) (split_signed (is_negative t.coefficient) (body_text ty ps t)) ∙ ap (λ (xs : List (Bool × List ℕ)). sign_and_body ty ps t ∷ xs) (pairs_split ts)

  kept : (f : List ℕ) (fs : List (List ℕ)) → Begins is_name_byte f → behind_empty (f ∷ fs) ≡ f ∷ fs
  kept f fs h = ap (λ (x : List ℕ). behind_empty (x ∷ fs)) h.is ∙ ap (λ (x : List ℕ). x ∷ fs) (sym h.is)

  split_first : (f : List ℕ) → Begins is_name_byte f → split_sign f ≡ (false, f)
  split_first f h = ap split_sign h.is ∙ split_body h.byte h.behind h.passes ∙ ap (λ (x : List ℕ). (false, x)) (sym h.is)

  terms_by : (t : PlainTerm) (ts : List PlainTerm) (b : Bool) → is_negative t.coefficient ≡ b →
      AllByRecursion (IsTermOf ty ps) (t ∷ ts) →
      map split_sign (behind_empty (pieces (43 ∷ 45 ∷ []) (poly_text ty ps (t ∷ ts)))) ≡ map (sign_and_body ty ps) (t ∷ ts)
  terms_by t ts true e h =
      let body = body_text ty ps t in
      let xs = map pair ts in
      let text : pieces (43 ∷ 45 ∷ []) (45 ∷ (body ++ signed_texts ty ps ts)) ≡ [] ∷ (45 ∷ body) ∷ map marked xs =
      ap (λ (x : List ℕ). pieces (43 ∷ 45 ∷ []) (45 ∷ (body ++ x))) (signed_onward ts) ∙ pieces_onward (43 ∷ 45 ∷ []) [] ((45, body) ∷ xs) ((refl, (refl, (factored_of t h.0).uncut)), pairs_marked ts h.1) in
      rw e (rw text (ap (λ (ys : List (Bool × List ℕ)). (true, body) ∷ ys) (pairs_split ts)))
  terms_by t ts false e h =
      let body = body_text ty ps t in
      let xs = map pair ts in
      let f = factored_of t h.0 in
      let text : pieces (43 ∷ 45 ∷ []) (body ++ signed_texts ty ps ts) ≡ body ∷ map marked xs =
      ap (λ (x : List ℕ). pieces (43 ∷ 45 ∷ []) (body ++ x)) (signed_onward ts) ∙ pieces_first (43 ∷ 45 ∷ []) body xs f.uncut (pairs_marked ts h.1) in
      rw e (rw text (ap (map split_sign) (kept body (map marked xs) f.begins) ∙ ap (λ (x : Bool × List ℕ). x ∷ map split_sign (map marked xs)) (split_first body f.begins) ∙ ap (λ (ys : List (Bool × List ℕ)). (false, body) ∷ ys) (pairs_split ts)))

  pub terms_back : (t : PlainTerm) (ts : List PlainTerm) →
      AllByRecursion (IsTermOf ty ps) (t ∷ ts) →
      map split_sign (behind_empty (pieces (43 ∷ 45 ∷ []) (poly_text ty ps (t ∷ ts)))) ≡ map (sign_and_body ty ps) (t ∷ ts)
  terms_back t ts h = terms_by t ts (is_negative t.coefficient) refl h

  -- the pieces of a text, and the terms that they write
  pub text_writes : (text : List ℕ) (items : List (Bor (List ℕ))) (ts : List PlainTerm) →
      AllByRecursion (IsTermOf ty ps) ts → 0 < length ts → poly_text ty ps ts ≡ text →
      map (λ p. p.now) items ≡ behind_empty (pieces (43 ∷ 45 ∷ []) text) →
      Writes (IsTermOf ty ps) (λ p. split_sign p.now) (sign_and_body ty ps) items ts
  text_writes text items [] h some e p = absurd (omega arith)
  text_writes text items (t ∷ ts) h some e p = record {
    all = h;
    texts = map-map (λ p. p.now) split_sign items ∙ ap (map split_sign) p ∙ ap (λ (x : List ℕ). map split_sign (behind_empty (pieces (43 ∷ 45 ∷ []) x))) (sym e) ∙ terms_back t ts h;
  }

  -- what is read of one term
  module _ (t : PlainTerm) (h : IsTermOf ty ps t) (piece body digits : List ℕ) (fs qs : List (List ℕ)) (behind : body ≡ (split_sign piece).1) (cut : fs ≡ pieces (42 ∷ []) body) (sp : split_sign piece ≡ sign_and_body ty ps t) where
    body_is : body ≡ body_text ty ps t
    body_is = behind ∙ ap (λ (x : Bool × List ℕ). x.1) sp

    pub digits_are : digits ≡ coefficient_digits fs → digits ≡ numeral (unsigned_abs t.coefficient)
    digits_are d = d ∙ ap coefficient_digits (cut ∙ ap (pieces (42 ∷ [])) body_is) ∙ (factored_of t h).digits

    pub powers_read : qs ≡ power_factors fs → map (unmarked 42) qs ≡ map (power_text ty ps) (powers t.symbols)
    powers_read q = ap (map (unmarked 42)) (q ∙ ap power_factors (cut ∙ ap (pieces (42 ∷ [])) body_is)) ∙ (factored_of t h).powers_of

    pub is_read : digits ≡ coefficient_digits fs → is_numeral digits ≡ true
    is_read d = ap is_numeral (digits_are d) ∙ numeral_is (unsigned_abs t.coefficient) h.above

    pub term_read : (negative : Bool) (m : List PlainSymbol) → digits ≡ coefficient_digits fs → negative ≡ (split_sign piece).0 → m ≡ expanded (powers t.symbols) → record { coefficient = signed negative (digits_value 10 digits); symbols = m } ≡ t
    term_read negative m d n e =
        let value : digits_value 10 digits ≡ unsigned_abs t.coefficient = ap (digits_value 10) (digits_are d) ∙ (numeral_digits (unsigned_abs t.coefficient)).value in
        let sign : negative ≡ is_negative t.coefficient = n ∙ ap (λ (x : Bool × List ℕ). x.0) sp in
        let coefficient : signed negative (digits_value 10 digits) ≡ t.coefficient = rw (value, sign) (signed_back t.coefficient) in
        rw (coefficient, e, expanded_powers t.symbols) refl
