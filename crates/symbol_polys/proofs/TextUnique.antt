-- A text is that of one polynomial at most.
use Rattle.std.proofs.Common.{◌≡◌, ℕ, Bool, List, [], ◌∷◌, map, unsigned_abs, refl, ap, sym, ◌∙◌, arith}
use Rattle.std.specs.List.{AllByRecursion}
use Rattle.degree_numbers.specs.Types.{AreTypes}
use Rattle.degree_numbers.specs.declared.types.Types.{Types}
use Rattle.plain_trees.specs.Text.{tree_text}
use Rattle.plain_trees.proofs.Readings.{unique}
use Rattle.symbol_polys.specs.Pieces.{pieces, unmarked}
use Rattle.symbol_polys.specs.Polynomials.{PlainTerm}
use Rattle.symbol_polys.specs.Reading.{IsSymbolOf, IsTextOf}
use Rattle.symbol_polys.specs.Symbols.{PlainSymbol, parameter, variable, noise, tree, expectation}
use Rattle.symbol_polys.specs.TermReading.{split_sign, behind_empty, split_power, coefficient_digits, power_factors, signed, expanded, IsPowerOf, IsTermOf}
use Rattle.symbol_polys.specs.Text.{AreParameters, Power, powers, symbol_text, power_text, is_negative, body_text}
use Rattle.numerals.proofs.Numerals.{numeral_exact}
use Rattle.symbol_polys.proofs.Piecing.{split_power_back}
use Rattle.symbol_polys.proofs.ReadPolys.{terms_are, none_for_zero}
use Rattle.symbol_polys.proofs.SignedTexts.{terms_back}
use Rattle.symbol_polys.proofs.SymbolTexts.{Says, says_of, behind_t, behind_e, behind_none, some_is}
use Rattle.symbol_polys.proofs.TermTexts.{sign_and_body, factored, powers_are, expanded_powers, signed_back}

cons_is : {X : Type 0} {x y : X} {xs ys : List X} → x ≡ y → xs ≡ ys → x ∷ xs ≡ y ∷ ys
cons_is e f = cc

heads : {X : Type 0} {x y : X} {xs ys : List X} → x ∷ xs ≡ y ∷ ys → x ≡ y
heads e = cc

tails : {X : Type 0} {x y : X} {xs ys : List X} → x ∷ xs ≡ y ∷ ys → xs ≡ ys
tails e = cc

map_exact : {X Y : Type 0} (P : X → Type 0) (f : X → Y) →
    ((x y : X) → P x → P y → f x ≡ f y → x ≡ y) → (xs ys : List X) → AllByRecursion P xs →
    AllByRecursion P ys → map f xs ≡ map f ys → xs ≡ ys
map_exact P f exact [] [] h k e = refl
map_exact P f exact [] (y ∷ ys) h k e = absurd cc
map_exact P f exact (x ∷ xs) [] h k e = absurd cc
map_exact P f exact (x ∷ xs) (y ∷ ys) h k e = cons_is (exact x y h.0 k.0 (heads e)) (map_exact P f exact xs ys h.1 k.1 (tails e))

abbrev power : PlainSymbol → ℕ → Power
power s n = record { symbol = s; exponent = n }

power_made : {s t : PlainSymbol} {m n : ℕ} → s ≡ t → m ≡ n → power s m ≡ power t n
power_made {s} {t} {m} {n} e f = ap (λ (x : PlainSymbol). power x m) e ∙ ap (power t) f

module _ (ty : Types) (ps : List (List ℕ)) (types : AreTypes ty) (parameters : AreParameters ty ps) where
  symbol_by : (text : List ℕ) (s t : PlainSymbol) → Says ty ps text s → Says ty ps text t → s ≡ t
  symbol_by text (parameter i) t h k = behind_none ty ps text (λ x. parameter i ≡ x) t h.0 h.1 (λ e. some_is (sym h.2 ∙ e)) k
  symbol_by text (variable i m) t h k = behind_none ty ps text (λ x. variable i m ≡ x) t h.0 h.1 (λ e. some_is (sym h.2 ∙ e)) k
  symbol_by text (noise i) t h k = behind_none ty ps text (λ x. noise i ≡ x) t h.0 h.1 (λ e. some_is (sym h.2 ∙ e)) k
  symbol_by text (tree a) t h k = behind_t ty ps text (λ x. tree a ≡ x) (tree_text ty a) t h.0 (λ b is. ap tree (unique ty types 4096 (omega arith) (tree_text ty a) a b h.1 is)) k
  symbol_by text (expectation a) t h k =
      behind_e ty ps text (λ x. expectation a ≡ x) (tree_text ty a) t h.0 h.1 (λ b is. ap expectation (unique ty types 4096 (omega arith) (tree_text ty a) a b h.2 is)) k

  symbol_exact : (s t : PlainSymbol) → IsSymbolOf ty ps s → IsSymbolOf ty ps t → symbol_text ty ps s ≡ symbol_text ty ps t → s ≡ t
  symbol_exact s t h k e =
      symbol_by (symbol_text ty ps t) s t (says_of ty ps (symbol_text ty ps t) s parameters types.scaling.some types.scaling.most h e)
      (says_of ty ps (symbol_text ty ps t) t parameters types.scaling.some types.scaling.most k refl)

  power_exact : (x y : Power) → IsPowerOf ty ps x → IsPowerOf ty ps y → power_text ty ps x ≡ power_text ty ps y → x ≡ y
  power_exact x y h k e =
      let both = some_is (sym (split_power_back ty ps types parameters x h.0 h.1) ∙ ap split_power e ∙ split_power_back ty ps types parameters y k.0 k.1) in
      power_made (symbol_exact x.symbol y.symbol h.1 k.1 (ap (λ (p : List ℕ × ℕ). p.0) both)) (ap (λ (p : List ℕ × ℕ). p.1) both)

  term_exact : (t u : PlainTerm) → IsTermOf ty ps t → IsTermOf ty ps u → sign_and_body ty ps t ≡ sign_and_body ty ps u → t ≡ u
  term_exact t u h k e =
      let body : body_text ty ps t ≡ body_text ty ps u = ap (λ (p : Bool × List ℕ). p.1) e in
      let sign : is_negative t.coefficient ≡ is_negative u.coefficient = ap (λ (p : Bool × List ℕ). p.0) e in
      let f = factored ty ps types parameters (unsigned_abs t.coefficient) t.symbols h.symbols in
      let g = factored ty ps types parameters (unsigned_abs u.coefficient) u.symbols k.symbols in
      let size : unsigned_abs t.coefficient ≡ unsigned_abs u.coefficient = numeral_exact _ _ (sym f.digits ∙ ap (λ (x : List ℕ). coefficient_digits (pieces (42 ∷ []) x)) body ∙ g.digits) in
      let coefficient : t.coefficient ≡ u.coefficient = sym (signed_back t.coefficient) ∙ ap (λ (b : Bool). signed b (unsigned_abs t.coefficient)) sign ∙ ap (signed (is_negative u.coefficient)) size ∙ signed_back u.coefficient in
      let texts : map (power_text ty ps) (powers t.symbols) ≡ map (power_text ty ps) (powers u.symbols) = sym f.powers_of ∙ ap (λ (x : List ℕ). map (unmarked 42) (power_factors (pieces (42 ∷ []) x))) body ∙ g.powers_of in
      let same = map_exact (IsPowerOf ty ps) (power_text ty ps) power_exact (powers t.symbols) (powers u.symbols) (powers_are ty ps types parameters t.symbols h.symbols) (powers_are ty ps types parameters u.symbols k.symbols) texts in
      let symbols : t.symbols ≡ u.symbols = sym (expanded_powers t.symbols) ∙ ap expanded same ∙ expanded_powers u.symbols in
      rw (coefficient, symbols) refl

  pub text_exact : (text : List ℕ) (ts us : List PlainTerm) → IsTextOf ty ps text ts → IsTextOf ty ps text us → ts ≡ us
  text_exact text [] us h k = none_for_zero ty ps types parameters text us (sym h.printed) k
  text_exact text (t ∷ ts) [] h k = sym (none_for_zero ty ps types parameters text (t ∷ ts) (sym k.printed) h)
  text_exact text (t ∷ ts) (u ∷ us) h k =
      let all = terms_are ty ps types parameters text (t ∷ ts) h in
      let others = terms_are ty ps types parameters text (u ∷ us) k in
      map_exact (IsTermOf ty ps) (sign_and_body ty ps) term_exact (t ∷ ts) (u ∷ us) all others
      (sym (terms_back ty ps types parameters t ts all) ∙ ap (λ (x : List ℕ). map split_sign (behind_empty (pieces (43 ∷ 45 ∷ []) x))) (h.printed ∙ sym k.printed) ∙ terms_back ty ps types parameters u us others)
