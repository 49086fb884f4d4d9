-- What is read of the text of a polynomial.
use Rattle.std.proofs.Common.{◌≡◌, ℕ, ◌<◌, ◌≤◌, Bool, true, false, List, [], ◌∷◌, ◌++◌, length, map, pos, unsigned_abs, refl, ap, sym, subst, ◌∙◌, arith, inl, inr}
use Rattle.std.proofs.lemmas.Int.{ints}
use Rattle.std.proofs.lemmas.Slice.Eq.{bytes_eq-Decides}
use Rattle.std.specs.Prelude.{◌⊎◌, IfOk, IfErr, IsOkUnless, IsTrue}
use Rattle.std.specs.List.{AllByRecursion}
use Rattle.std.specs.Ordering.{is_lt}
use Rattle.std.specs.Str.{bytes_eq}
use Rattle.std.specs.Str.Parse.{digits_value}
use Rattle.std.specs.declared.result.Result.{Result}
use Rattle.std.specs.declared.result.Result.TheVariants.{Ok, Err}
use Rattle.exact_sums.specs.Saturating.{overflow}
use Rattle.degree_numbers.specs.Name.{is_name_byte}
use Rattle.degree_numbers.specs.Types.{AreTypes}
use Rattle.degree_numbers.specs.declared.types.Types.{Types}
use Rattle.symbol_polys.specs.Neighbours.{neighbours}
use Rattle.numerals.specs.Numerals.{numeral, is_numeral}
use Rattle.symbol_polys.specs.Pieces.{pieces}
use Rattle.symbol_polys.specs.Polynomials.{PlainTerm, monomials, size_of, IsRefused}
use Rattle.symbol_polys.specs.Reading.{IsSymbolOf, IsTextOf, IsTextRefused, IsReadAs}
use Rattle.symbol_polys.specs.Symbols.{PlainSymbol, monomial_order, HasBoundedTree, IsMonomial}
use Rattle.symbol_polys.specs.TermReading.{coefficient_digits, written_of, IsTermOf, IsWritten}
use Rattle.symbol_polys.specs.Text.{AreParameters, body_text, is_negative, signed_texts, poly_text}
use Rattle.symbol_polys.specs.View.{symbol_of, terms_of, IsPoly}
use Rattle.symbol_polys.specs.declared.error.PolyError.{PolyError}
use Rattle.symbol_polys.specs.declared.error.PolyError.TheVariants.{CoefficientTooLarge, PolyText, Memory}
use Rattle.symbol_polys.specs.declared.poly.Poly.{Poly}
use Rattle.symbol_polys.specs.declared.written.WrittenTerm.{WrittenTerm}
use Rattle.symbol_polys.proofs.Ascending.{strict_by, by_strict}
use Rattle.symbol_polys.proofs.FactorPasses.{Begins}
use Rattle.numerals.proofs.Magnitudes.{numeral_is, numeral_above}
use Rattle.symbol_polys.proofs.SymbolLaws.{monomial_order_total}
use Rattle.symbol_polys.proofs.TermTexts.{factored}
use Rattle.symbol_polys.proofs.WrittenTerms.{size_signed}

abbrev precedes : List PlainSymbol → List PlainSymbol → Bool
precedes m n = is_lt (monomial_order m n)

front_alone : (xs ys : List ℕ) → xs ++ ys ≡ [] → xs ≡ []
front_alone [] ys h = refl
front_alone (x ∷ xs) ys h = absurd cc

same_head : {x y : ℕ} {xs ys : List ℕ} → x ∷ xs ≡ y ∷ ys → x ≡ y
same_head e = cc

same_tail : {x y : ℕ} {xs ys : List ℕ} → x ∷ xs ≡ y ∷ ys → xs ≡ ys
same_tail e = cc

module _ (ty : Types) (ps : List (List ℕ)) (types : AreTypes ty) (parameters : AreParameters ty ps) where
  -- `0` is the text of no term
  body_not_zero : (t : PlainTerm) → IsTermOf ty ps t → body_text ty ps t ≡ 48 ∷ [] → ⊥
  body_not_zero t h e =
      let n = unsigned_abs t.coefficient in
      let f = factored ty ps types parameters n t.symbols h.symbols in
      let digits : 48 ∷ [] ≡ numeral n = ap (λ (x : List ℕ). coefficient_digits (pieces (42 ∷ []) x)) (sym e) ∙ f.digits in
      let no : false ≡ true = ap is_numeral digits ∙ numeral_is n h.above in
      absurd cc

  alone : (t : PlainTerm) (more : List ℕ) → Begins is_name_byte (body_text ty ps t) → body_text ty ps t ++ more ≡ 48 ∷ [] → body_text ty ps t ≡ 48 ∷ []
  alone t more b e =
      let w : b.byte ∷ (b.behind ++ more) ≡ 48 ∷ [] = ap (λ (x : List ℕ). x ++ more) (sym b.is) ∙ e in
      let rest = front_alone b.behind more (same_tail w) in
      b.is ∙ ap (λ (x : ℕ). x ∷ b.behind) (same_head w) ∙ ap (λ (x : List ℕ). 48 ∷ x) rest

  zero_by : (t : PlainTerm) (ts : List PlainTerm) (b : Bool) → is_negative t.coefficient ≡ b → IsTermOf ty ps t → poly_text ty ps (t ∷ ts) ≡ 48 ∷ [] → ⊥
  zero_by t ts true n h e = let w : 45 ∷ (body_text ty ps t ++ signed_texts ty ps ts) ≡ 48 ∷ [] = rw n at e in let v : 45 ≡ 48 = same_head w in omega (arith, v)
  zero_by t ts false n h e =
      let w : body_text ty ps t ++ signed_texts ty ps ts ≡ 48 ∷ [] = rw n at e in
      body_not_zero t h (alone t (signed_texts ty ps ts) (factored ty ps types parameters (unsigned_abs t.coefficient) t.symbols h.symbols).begins w)

  terms_by : (ts : List PlainTerm) → AllByRecursion IsMonomial (monomials ts) →
      AllByRecursion (λ t. 0 < unsigned_abs t.coefficient) ts →
      AllByRecursion (λ t. AllByRecursion (IsSymbolOf ty ps) t.symbols) ts →
      AllByRecursion (IsTermOf ty ps) ts
  terms_by [] m n s = tt
  terms_by (t ∷ ts) m n s = (record { above = n.0; symbols = s.0; ascending = m.0.ascending }, terms_by ts m.1 n.1 s.1)

  pub terms_are : (text : List ℕ) (ts : List PlainTerm) → IsTextOf ty ps text ts → AllByRecursion (IsTermOf ty ps) ts
  terms_are text ts h = terms_by ts h.polynomial.each h.polynomial.not_zero h.symbols

  pub none_for_zero : (text : List ℕ) (ts : List PlainTerm) → text ≡ 48 ∷ [] → IsTextOf ty ps text ts → [] ≡ ts
  none_for_zero text [] e h = refl
  none_for_zero text (t ∷ ts) e h = absurd (zero_by t ts (is_negative t.coefficient) refl (terms_are text (t ∷ ts) h).0 (h.printed ∙ e))

  pub some_for_others : (text : List ℕ) (ts : List PlainTerm) → (text ≡ 48 ∷ [] → ⊥) → IsTextOf ty ps text ts → 0 < length ts
  some_for_others text [] e h = absurd (e (sym h.printed))
  some_for_others text (t ∷ ts) e h = omega arith

  all_bounded : (m : List PlainSymbol) → AllByRecursion (IsSymbolOf ty ps) m → AllByRecursion HasBoundedTree m
  all_bounded [] h = tt
  all_bounded (s ∷ m) h = (h.0.bounded, all_bounded m h.1)

  pub trees_are : (ws : List WrittenTerm) → AllByRecursion (IsWritten ty ps) ws →
      AllByRecursion (λ w. AllByRecursion HasBoundedTree (map symbol_of w.symbols)) ws
  trees_are [] h = tt
  trees_are (w ∷ ws) h = (all_bounded (map symbol_of w.symbols) h.0.symbols, trees_are ws h.1)

  pub numerals_are : (ws : List WrittenTerm) → AllByRecursion (IsWritten ty ps) ws → AllByRecursion (λ w. is_numeral w.digits.now ≡ true) ws
  numerals_are [] h = tt
  numerals_are (w ∷ ws) h = (h.0.digits, numerals_are ws h.1)

  each_is : (ws : List WrittenTerm) → AllByRecursion (IsWritten ty ps) ws → AllByRecursion IsMonomial (monomials (map written_of ws))
  each_is [] h = tt
  each_is (w ∷ ws) h = (record { ascending = h.0.ascending; trees = all_bounded (map symbol_of w.symbols) h.0.symbols }, each_is ws h.1)

  above_is : (ws : List WrittenTerm) → AllByRecursion (IsWritten ty ps) ws → AllByRecursion (λ t. 0 < unsigned_abs t.coefficient) (map written_of ws)
  above_is [] h = tt
  above_is (w ∷ ws) h = (omega (arith, size_signed w.is_negative (digits_value 10 w.digits.now), numeral_above w.digits.now h.0.digits), above_is ws h.1)

  symbols_is : (ws : List WrittenTerm) → AllByRecursion (IsWritten ty ps) ws →
      AllByRecursion (λ t. AllByRecursion (IsSymbolOf ty ps) t.symbols) (map written_of ws)
  symbols_is [] h = tt
  symbols_is (w ∷ ws) h = (h.0.symbols, symbols_is ws h.1)

  -- written terms that ascend, and whose text this is
  pub text_is : (text : List ℕ) (ws : List WrittenTerm) → AllByRecursion (IsWritten ty ps) ws →
      neighbours precedes (monomials (map written_of ws)) ≡ true →
      poly_text ty ps (map written_of ws) ≡ text → IsTextOf ty ps text (map written_of ws)
  text_is text ws h n e = record {
    polynomial = record {
      each = each_is ws h;
      ascending = strict_by monomial_order monomial_order_total (monomials (map written_of ws)) n;
      not_zero = above_is ws h;
      within = omega (arith, ints);
    };
    symbols = symbols_is ws h;
    printed = e;
  }

  -- terms that are those of the text
  module _ (text : List ℕ) (ws : List WrittenTerm) (other : text ≡ 48 ∷ [] → ⊥)
      (back : (ts : List PlainTerm) → AllByRecursion (IsTermOf ty ps) ts → 0 < length ts → poly_text ty ps ts ≡ text → map written_of ws ≡ ts) where
    pub written_is : (ts : List PlainTerm) → IsTextOf ty ps text ts → map written_of ws ≡ ts
    written_is ts h = back ts (terms_are text ts h) (some_for_others text ts other h) h.printed

    pub not_ascending : neighbours precedes (monomials (map written_of ws)) ≡ false → (ts : List PlainTerm) → IsTextOf ty ps text ts → ⊥
    not_ascending n ts h =
        let yes = by_strict monomial_order (monomials ts) h.polynomial.ascending in
        let no : false ≡ true = sym n ∙ ap (λ (us : List PlainTerm). neighbours precedes (monomials us)) (written_is ts h) ∙ yes in
        absurd cc

    pub not_text : (poly_text ty ps (map written_of ws) ≡ text → ⊥) → (ts : List PlainTerm) → IsTextOf ty ps text ts → ⊥
    not_text n ts h = n (ap (poly_text ty ps) (written_is ts h) ∙ h.printed)

  -- where no terms are read of a text
  pub none_read : (text : List ℕ) (e f : PolyError) → (text ≡ 48 ∷ [] → ⊥) →
      ((ts : List PlainTerm) → AllByRecursion (IsTermOf ty ps) ts → 0 < length ts → poly_text ty ps ts ≡ text → e ≡ Memory) →
      (e ≡ Memory → f ≡ Memory) → (ts : List PlainTerm) → IsTextOf ty ps text ts → f ≡ Memory
  none_read text e f other back m ts h = m (back ts (terms_are text ts h) (some_for_others text ts other h) h.printed)

  pub fault_refused : (text : List ℕ) (f : PolyError) → (f ≡ Memory) ⊎ (f ≡ PolyText) →
      ((ts : List PlainTerm) → IsTextOf ty ps text ts → f ≡ Memory) → IsTextRefused ty ps text f
  fault_refused text CoefficientTooLarge (inl c) h = absurd cc
  fault_refused text CoefficientTooLarge (inr c) h = absurd cc
  fault_refused text PolyText c h = λ ts is. let w : PolyText ≡ Memory = h ts is in absurd cc
  fault_refused text Memory c h = record {}

  pub fault_read : (f : PolyError) (ts : List PlainTerm) → f ≡ Memory → IsReadAs (Err f) ts
  fault_read CoefficientTooLarge ts h = absurd cc
  fault_read PolyText ts h = absurd cc
  fault_read Memory ts h = record {}

  pub zero_read : (text : List ℕ) (r : Result Poly PolyError) (ts : List PlainTerm) →
      text ≡ 48 ∷ [] → IsTextOf ty ps text ts → IfOk r (λ p. terms_of p.terms ≡ []) →
      IsOkUnless r Memory → IsReadAs r ts
  zero_read text (Ok p) ts e h t m = t ∙ none_for_zero text ts e h
  zero_read text (Err x) ts e h t m = fault_read x ts m

  pub poly_text_of : (text : List ℕ) (us : List PlainTerm) (r : Result Poly PolyError) →
      IsTextOf ty ps text us → IfOk r (λ p. terms_of p.terms ≡ us) →
      IfOk r (λ p. IsTextOf ty ps text (terms_of p.terms))
  poly_text_of text us (Ok p) h e = subst (IsTextOf ty ps text) (sym e) h
  poly_text_of text us (Err x) h e = e

  pub is_poly : (text : List ℕ) (us : List PlainTerm) (r : Result Poly PolyError) →
      IsTextOf ty ps text us → IfOk r (λ p. terms_of p.terms ≡ us) →
      IfOk r (λ p. p.mass ≡ pos (size_of us)) → IfOk r IsPoly
  is_poly text us (Ok p) h e m = rw (m, e) h.polynomial
  is_poly text us (Err x) h e m = e

  pub refused_by : (text : List ℕ) (us : List PlainTerm) (r : Result Poly PolyError) →
      IsTextOf ty ps text us → IfErr r (IsRefused (overflow ≤ size_of us)) →
      IfErr r (IsTextRefused ty ps text)
  refused_by text us (Ok p) h e = e
  refused_by text us (Err CoefficientTooLarge) h e = (us, h, e)
  refused_by text us (Err PolyText) h e = absurd e
  refused_by text us (Err Memory) h e = e

  pub read_as : (us ts : List PlainTerm) (r : Result Poly PolyError) → us ≡ ts →
      IfOk r (λ p. terms_of p.terms ≡ us) → IfErr r (IsRefused (overflow ≤ size_of us)) →
      IsReadAs r ts
  read_as us ts (Ok p) e t h = t ∙ e
  read_as us ts (Err CoefficientTooLarge) e t h = subst (λ x. overflow ≤ size_of x) e h
  read_as us ts (Err PolyText) e t h = h
  read_as us ts (Err Memory) e t h = h

pub true_is : (b : Bool) → b ≡ true → IsTrue b
true_is b h = h

pub false_not : (b : Bool) → b ≡ false → IsTrue b → ⊥
false_not b h t = let w : false ≡ true = sym h ∙ t in absurd cc

pub no_zero : (text : List ℕ) → bytes_eq text (48 ∷ []) ≡ false → text ≡ 48 ∷ [] → ⊥
no_zero text h e = let w : false ≡ true = sym h ∙ (bytes_eq-Decides text (48 ∷ [])).1 e in absurd cc
