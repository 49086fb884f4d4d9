-- The text of a term is cut into its factors, and that of a polynomial into its terms.
use Rattle.std.proofs.Common.{◌≡◌, ℕ, suc, ◌+◌, ◌<◌, ◌≤◌, Bool, true, false, List, [], ◌∷◌, ◌++◌, map, drop, replicate, ℤ, pos, negsuc, unsigned_abs, refl, ap, sym, ◌∙◌, arith, rules, tests}
use Rattle.std.proofs.lemmas.Slice.Eq.{bytes_eq-Decides}
use Rattle.std.specs.Prelude.{◌==◌}
use Rattle.std.specs.Char.{is_ascii_digit, is_ascii_alphabetic}
use Rattle.std.specs.Int.{IsInRange}
use Rattle.std.specs.List.{AllByRecursion}
use Rattle.std.specs.Str.{bytes_eq}
use Rattle.degree_numbers.specs.Name.{is_name_byte}
use Rattle.degree_numbers.specs.Types.{AreTypes}
use Rattle.degree_numbers.specs.declared.types.Types.{Types}
use Rattle.plain_trees.specs.Text.{starred, joined}
use Rattle.numerals.specs.Numerals.{numeral}
use Rattle.symbol_polys.specs.Pieces.{is_mark, pieces, unmarked}
use Rattle.symbol_polys.specs.Polynomials.{PlainTerm}
use Rattle.symbol_polys.specs.Reading.{IsSymbolOf}
use Rattle.symbol_polys.specs.Symbols.{PlainSymbol}
use Rattle.symbol_polys.specs.TermReading.{begins_with_digit, coefficient_digits, power_factors, signed, IsPowerOf, expanded}
use Rattle.symbol_polys.specs.Text.{AreParameters, Power, symbol_onto, powers, power_text, factors, body_text, is_negative}
use Rattle.symbol_polys.proofs.FactorPasses.{Begins, AreApart, stars_apart, signs_apart, power_passes, numeral_passes, numeral_begins, power_begins, letter_name, digit_name}
use Rattle.symbol_polys.proofs.Passing.{Passes, passes-append, apart_from}
use Rattle.symbol_polys.proofs.Piecing.{onward, marked, IsMarked, pieces_first}
use Rattle.symbol_polys.proofs.Powers.{run, same, same_is, powers_run}

abbrev pub sign_and_body : Types → List (List ℕ) → PlainTerm → Bool × List ℕ
sign_and_body ty ps t = (is_negative t.coefficient, body_text ty ps t)

stars : List ℕ
stars = 42 ∷ []

starred_onward : (fs : List (List ℕ)) → starred fs ≡ onward (map (λ f. (42, f)) fs)
starred_onward [] = refl
starred_onward (f ∷ fs) = ap (λ (x : List ℕ). 42 ∷ (f ++ x)) (starred_onward fs)

abbrev AreClosed : List ℕ → List (List ℕ) → Type 0
AreClosed marks fs = AllByRecursion (λ f. Passes marks 0 f 0) fs

stars_marked : (fs : List (List ℕ)) → AreClosed (42 ∷ []) fs → AllByRecursion (IsMarked (42 ∷ [])) (map (λ f. (42, f)) fs)
stars_marked [] h = tt
stars_marked (f ∷ fs) h = ((refl, (refl, h.0)), stars_marked fs h.1)

map-marked : (fs : List (List ℕ)) → map marked (map (λ f. (42, f)) fs) ≡ map (λ f. 42 ∷ f) fs
map-marked [] = refl
map-marked (f ∷ fs) = ap (λ (x : List (List ℕ)). (42 ∷ f) ∷ x) (map-marked fs)

pieces_joined : (f : List ℕ) (fs : List (List ℕ)) → Passes (42 ∷ []) 0 f 0 →
    AreClosed (42 ∷ []) fs → pieces (42 ∷ []) (joined (f ∷ fs)) ≡ f ∷ map (λ g. 42 ∷ g) fs
pieces_joined f fs p h =
    ap (λ (x : List ℕ). pieces (42 ∷ []) (f ++ x)) (starred_onward fs) ∙ pieces_first (42 ∷ []) f (map (λ g. (42, g)) fs) p (stars_marked fs h) ∙ ap (λ (x : List (List ℕ)). f ∷ x) (map-marked fs)

without_stars : (fs : List (List ℕ)) → map (unmarked 42) (map (λ g. 42 ∷ g) fs) ≡ fs
without_stars [] = refl
without_stars (f ∷ fs) = ap (λ (x : List (List ℕ)). f ∷ x) (without_stars fs)

letter_above : (c : ℕ) → is_ascii_alphabetic c ≡ true → 65 ≤ c
letter_above c h = search (rules, tests)

in_range : (c : ℕ) → is_ascii_digit c ≡ true → IsInRange 48 57 c
in_range c h = search (rules, tests)

digit_letter_at : (c : ℕ) (b : Bool) → is_ascii_digit c ≡ b → is_ascii_alphabetic c ≡ true → is_ascii_digit c ≡ false
digit_letter_at c true e h = absurd (omega (arith, letter_above c h, in_range c e))
digit_letter_at c false e h = e

digit_letter : (c : ℕ) → is_ascii_alphabetic c ≡ true → is_ascii_digit c ≡ false
digit_letter c h = digit_letter_at c (is_ascii_digit c) refl h

-- what is seen of a text's first byte
digit_first : (f : List ℕ) → Begins is_ascii_digit f → begins_with_digit f ≡ true
digit_first f h = ap begins_with_digit h.is ∙ h.passes

letter_first : (f : List ℕ) → Begins is_ascii_alphabetic f → begins_with_digit f ≡ false
letter_first f h = ap begins_with_digit h.is ∙ digit_letter h.byte h.passes

without_at : (c : ℕ) (cs : List ℕ) → (c == 42) ≡ false → unmarked 42 (c ∷ cs) ≡ c ∷ cs
without_at c cs h = rw h refl

letter_kept : (f : List ℕ) → Begins is_ascii_alphabetic f → unmarked 42 f ≡ f
letter_kept f h = ap (unmarked 42) h.is ∙ without_at h.byte h.behind (apart_from h.byte 42 refl (letter_name h.byte h.passes)) ∙ sym h.is

begins_name : (test : ℕ → Bool) → ((c : ℕ) → test c ≡ true → is_name_byte c ≡ true) → (f : List ℕ) → Begins test f → Begins is_name_byte f
begins_name test h f b = record { byte = b.byte; behind = b.behind; passes = h b.byte b.passes; is = b.is }

begins-append : (f g : List ℕ) → Begins is_name_byte f → Begins is_name_byte (f ++ g)
begins-append f g h = record { byte = h.byte; behind = h.behind ++ g; passes = h.passes; is = ap (λ (x : List ℕ). x ++ g) h.is }

-- the exponents of powers are above 0, and powers of symbols give the monomial back
power_of : (s : PlainSymbol) (xs : List Power) (b : Bool) → (P : PlainSymbol → Type 0) → P s →
    AllByRecursion (λ x. (0 < x.exponent) × P x.symbol) xs →
    AllByRecursion (λ x. (0 < x.exponent) × P x.symbol) (symbol_onto s xs)
power_of s [] b P p h = ((omega arith, p), tt)
power_of s (x ∷ xs) b P p h = with_at s x xs P p h (same s x.symbol) refl
  where
    with_at : (s : PlainSymbol) (x : Power) (xs : List Power) (P : PlainSymbol → Type 0) → P s → AllByRecursion (λ x. (0 < x.exponent) × P x.symbol) (x ∷ xs) → (b : Bool) → same s x.symbol ≡ b →
        AllByRecursion (λ x. (0 < x.exponent) × P x.symbol) (symbol_onto s (x ∷ xs))
    with_at s x xs P p h true e = rw e ((omega arith, p), h.1)
    with_at s x xs P p h false e = rw e ((omega arith, p), h)

powers_all : (P : PlainSymbol → Type 0) (m : List PlainSymbol) → AllByRecursion P m → AllByRecursion (λ x. (0 < x.exponent) × P x.symbol) (powers m)
powers_all P [] h = tt
powers_all P (s ∷ m) h = power_of s (powers m) true P h.0 (powers_all P m h.1)

expanded_at : (s : PlainSymbol) (x : Power) (xs : List Power) (b : Bool) → same s x.symbol ≡ b → expanded (symbol_onto s (x ∷ xs)) ≡ s ∷ expanded (x ∷ xs)
expanded_at s x xs true e =
    let one : 1 + x.exponent ≡ suc x.exponent = omega arith in
    rw e (rw one (ap (λ (t : PlainSymbol). s ∷ (replicate x.exponent t ++ expanded xs)) (same_is s x.symbol e)))
expanded_at s x xs false e = rw e refl

expanded_with : (s : PlainSymbol) (xs : List Power) → expanded (symbol_onto s xs) ≡ s ∷ expanded xs
expanded_with s [] = refl
expanded_with s (x ∷ xs) = expanded_at s x xs (same s x.symbol) refl

pub expanded_powers : (m : List PlainSymbol) → expanded (powers m) ≡ m
expanded_powers [] = refl
expanded_powers (s ∷ m) = expanded_with s (powers m) ∙ ap (λ (x : List PlainSymbol). s ∷ x) (expanded_powers m)

-- a number is its sign and its absolute value
pub signed_back : (z : ℤ) → signed (is_negative z) (unsigned_abs z) ≡ z
signed_back (pos n) = refl
signed_back (negsuc n) = refl

-- what is read of the factors of a term
pub record IsFactored (ty : Types) (ps : List (List ℕ)) (ds : List ℕ) (m : List PlainSymbol) : Type 0 where
  pub digits : coefficient_digits (pieces (42 ∷ []) (joined (factors ty ps ds m))) ≡ ds
  pub powers_of : map (unmarked 42) (power_factors (pieces (42 ∷ []) (joined (factors ty ps ds m)))) ≡ map (power_text ty ps) (powers m)
  pub begins : Begins is_name_byte (joined (factors ty ps ds m))
  pub uncut : Passes (43 ∷ 45 ∷ []) 0 (joined (factors ty ps ds m)) 0

starred_passes : (marks : List ℕ) (fs : List (List ℕ)) → is_mark marks 42 ≡ false → AreClosed marks fs → Passes marks 0 (starred fs) 0
starred_passes marks [] m h = refl
starred_passes marks (f ∷ fs) m h = (m, passes-append marks f (starred fs) 0 0 0 h.0 (starred_passes marks fs m h.1))

module _ (ty : Types) (ps : List (List ℕ)) (types : AreTypes ty) (parameters : AreParameters ty ps) where
  powers_closed : (marks : List ℕ) → AreApart marks → is_mark marks 94 ≡ false → (xs : List Power) →
      AllByRecursion (IsPowerOf ty ps) xs → AreClosed marks (map (power_text ty ps) xs)
  powers_closed marks apart c [] h = tt
  powers_closed marks apart c (x ∷ xs) h = (power_passes marks apart ty ps types parameters x c h.0.1, powers_closed marks apart c xs h.1)

  -- the coefficient is written
  with_number : (n : ℕ) (xs : List Power) → AllByRecursion (IsPowerOf ty ps) xs →
      (m : List PlainSymbol) → factors ty ps (numeral n) m ≡ numeral n ∷ map (power_text ty ps) xs →
      powers m ≡ xs → IsFactored ty ps (numeral n) m
  with_number n xs h m e p =
      let ds = numeral n in
      let fs = map (power_text ty ps) xs in
      let passes = numeral_passes (42 ∷ []) stars_apart ty ps types parameters n in
      let cut = pieces_joined ds fs passes (powers_closed (42 ∷ []) stars_apart refl xs h) in
      let first = digit_first ds (numeral_begins n) in
      let closed = powers_closed (43 ∷ 45 ∷ []) signs_apart refl xs h in
      record {
        digits = rw e (rw cut (rw first refl));
        powers_of = rw (e, p) (rw cut (rw first (without_stars fs)));
        begins = rw e (begins-append ds (starred fs) (begins_name is_ascii_digit digit_name ds (numeral_begins n)));
        uncut = rw e (passes-append (43 ∷ 45 ∷ []) ds (starred fs) 0 0 0 (numeral_passes (43 ∷ 45 ∷ []) signs_apart ty ps types parameters n) (starred_passes (43 ∷ 45 ∷ []) fs refl closed));
      }

  -- it is left out
  without_number : (ds : List ℕ) (x : Power) (xs : List Power) → ds ≡ 49 ∷ [] → IsPowerOf ty ps x →
      AllByRecursion (IsPowerOf ty ps) xs → (m : List PlainSymbol) →
      factors ty ps ds m ≡ map (power_text ty ps) (x ∷ xs) → powers m ≡ x ∷ xs →
      IsFactored ty ps ds m
  without_number ds x xs one hx h m e p =
      let f = power_text ty ps x in
      let fs = map (power_text ty ps) xs in
      let passes = power_passes (42 ∷ []) stars_apart ty ps types parameters x refl hx.1 in
      let cut = pieces_joined f fs passes (powers_closed (42 ∷ []) stars_apart refl xs h) in
      let begins = power_begins ty ps parameters x hx.1 in
      let first = letter_first f begins in
      let closed = powers_closed (43 ∷ 45 ∷ []) signs_apart refl xs h in
      record {
        digits = rw e (rw cut (rw first (sym one)));
        powers_of = rw (e, p) (rw cut (rw first (ap (λ (y : List ℕ). y ∷ map (unmarked 42) (map (λ g. 42 ∷ g) fs)) (letter_kept f begins) ∙ ap (λ (ys : List (List ℕ)). f ∷ ys) (without_stars fs))));
        begins = rw e (begins-append f (starred fs) (begins_name is_ascii_alphabetic letter_name f begins));
        uncut = rw e (passes-append (43 ∷ 45 ∷ []) f (starred fs) 0 0 0 (power_passes (43 ∷ 45 ∷ []) signs_apart ty ps types parameters x refl hx.1) (starred_passes (43 ∷ 45 ∷ []) fs refl closed));
      }

  factored_by : (n : ℕ) (s : PlainSymbol) (m : List PlainSymbol) (xs : List Power) (b : Bool) →
      bytes_eq (numeral n) (49 ∷ []) ≡ b → powers (s ∷ m) ≡ xs →
      AllByRecursion (IsPowerOf ty ps) xs → IsFactored ty ps (numeral n) (s ∷ m)
  factored_by n s m [] b e p h = let w : record { symbol = s; exponent = 1 + run s m } ∷ powers (drop (run s m) m) ≡ [] = sym (powers_run s m) ∙ p in absurd cc
  factored_by n s m (x ∷ xs) true e p h = without_number (numeral n) x xs ((bytes_eq-Decides (numeral n) (49 ∷ [])).0 e) h.0 h.1 (s ∷ m) (rw (e, p) refl) p
  factored_by n s m (x ∷ xs) false e p h = with_number n (x ∷ xs) h (s ∷ m) (rw (e, p) refl) p

  pub factored : (n : ℕ) (m : List PlainSymbol) → AllByRecursion (IsSymbolOf ty ps) m → IsFactored ty ps (numeral n) m
  factored n [] h = with_number n [] tt [] refl refl
  factored n (s ∷ m) h = factored_by n s m (powers (s ∷ m)) (bytes_eq (numeral n) (49 ∷ [])) refl refl (powers_all (IsSymbolOf ty ps) (s ∷ m) h)

  pub powers_are : (m : List PlainSymbol) → AllByRecursion (IsSymbolOf ty ps) m → AllByRecursion (IsPowerOf ty ps) (powers m)
  powers_are m h = powers_all (IsSymbolOf ty ps) m h
