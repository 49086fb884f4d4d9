-- No cut goes through the text of a symbol or of a power, and how it begins.
use Rattle.std.proofs.Common.{◌≡◌, ℕ, zero, suc, ◌<◌, ◌^◌, Bool, true, false, List, [], ◌∷◌, ◌++◌, length, take, decimal, refl, ap, sym, subst, ◌∙◌, arith, eqb-true}
use Rattle.std.specs.Prelude.{◌==◌, ◌||◌, if◌then◌else◌}
use Rattle.std.specs.Char.{is_ascii_digit, is_ascii_alphabetic}
use Rattle.std.specs.List.{AllByRecursion}
use Rattle.std.specs.Str.Parse.{AllDigits}
use Rattle.std.proofs.lemmas.Fmt.{decimal_is_IsNumeral}
use Rattle.std.proofs.lemmas.Str.Parse.{digit_from_value}
use Rattle.text_parts.proofs.Back.{digit_test}
use Rattle.degree_numbers.specs.Name.{is_name, is_name_byte}
use Rattle.degree_numbers.specs.EdgeText.{further_text, listed_text, multi_text, edge_type_text}
use Rattle.degree_numbers.specs.Multi.{is_zero}
use Rattle.degree_numbers.specs.Types.{AreTypes, name_of}
use Rattle.degree_numbers.specs.declared.types.Types.{Types}
use Rattle.degree_numbers.specs.declared.types.Kind.TheVariants.{Noise, Kernel}
use Rattle.tree_grammar.proofs.Names.{name_parts}
use Rattle.tree_grammar.proofs.WordSums.{AreNameBytes, name_bytes}
use Rattle.plain_trees.specs.Plain.{Plain}
use Rattle.plain_trees.specs.Reading.{IsTreeOf}
use Rattle.plain_trees.specs.Text.{tree_text}
use Rattle.plain_trees.proofs.Readings.{passes_of}
use Rattle.numerals.specs.Numerals.{numeral}
use Rattle.symbol_polys.specs.Pieces.{is_mark}
use Rattle.symbol_polys.specs.Reading.{IsSymbolOf}
use Rattle.symbol_polys.specs.Symbols.{PlainSymbol, parameter, variable, noise, tree, expectation}
use Rattle.symbol_polys.specs.Text.{AreParameters, parameter_name, symbol_text, Power, power_text}
use Rattle.numerals.proofs.Numerals.{numeral_digits}
use Rattle.symbol_polys.proofs.Passing.{Passes, passes-append, AreFree, free_pass, free-append, apart_from, written_passes}
use Rattle.symbol_polys.proofs.SymbolNames.{type_at, parameter_is_name}

-- marks that stand in no symbol outside its brackets
pub record AreApart (marks : List ℕ) : Type 0 where
  pub names : (c : ℕ) → is_name_byte c ≡ true → is_mark marks c ≡ false
  pub quote : is_mark marks 39 ≡ false
  pub opening : is_mark marks 40 ≡ false
  pub closing : is_mark marks 41 ≡ false
  pub comma : is_mark marks 44 ≡ false
  pub bracket : is_mark marks 91 ≡ false

no_mark_at : (b c : ℕ) (a : Bool) → (b == c) ≡ a → is_name_byte b ≡ false → is_name_byte c ≡ true → (b == c) ≡ false
no_mark_at b c true e n h = let w : is_name_byte b ≡ true = rw (eqb-true b c e) h in let v : true ≡ false = sym w ∙ n in absurd cc
no_mark_at b c false e n h = e

no_mark : (b c : ℕ) → is_name_byte b ≡ false → is_name_byte c ≡ true → (b == c) ≡ false
no_mark b c n h = no_mark_at b c (b == c) refl n h

one_apart : (m c : ℕ) → is_name_byte m ≡ false → is_name_byte c ≡ true → is_mark (m ∷ []) c ≡ false
one_apart m c n h = rw (no_mark m c n h) refl

two_apart : (m l c : ℕ) → is_name_byte m ≡ false → is_name_byte l ≡ false → is_name_byte c ≡ true → is_mark (m ∷ l ∷ []) c ≡ false
two_apart m l c n o h = rw (no_mark m c n h, no_mark l c o h) refl

pub stars_apart : AreApart (42 ∷ [])
stars_apart = record { names = λ c h. one_apart 42 c refl h; quote = refl; opening = refl; closing = refl; comma = refl; bracket = refl }

pub carets_apart : AreApart (94 ∷ [])
carets_apart = record { names = λ c h. one_apart 94 c refl h; quote = refl; opening = refl; closing = refl; comma = refl; bracket = refl }

pub signs_apart : AreApart (43 ∷ 45 ∷ [])
signs_apart = record { names = λ c h. two_apart 43 45 c refl refl h; quote = refl; opening = refl; closing = refl; comma = refl; bracket = refl }

or_right : (a b : Bool) → b ≡ true → (a || b) ≡ true
or_right true b h = refl
or_right false b h = h

or_left : (a b : Bool) → a ≡ true → (a || b) ≡ true
or_left true b h = refl
or_left false b h = absurd cc

pub digit_name : (c : ℕ) → is_ascii_digit c ≡ true → is_name_byte c ≡ true
digit_name c h = or_right (is_ascii_alphabetic c) _ (or_left (is_ascii_digit c) _ h)

pub letter_name : (c : ℕ) → is_ascii_alphabetic c ≡ true → is_name_byte c ≡ true
letter_name c h = or_left (is_ascii_alphabetic c) _ h

digits_names : (ds : List ℕ) → AllDigits 10 ds → AreNameBytes ds
digits_names [] h = tt
digits_names (c ∷ ds) h = (digit_name c (digit_test c (digit_from_value c h.0)), digits_names ds h.1)

module _ (marks : List ℕ) (apart : AreApart marks) where
  names_free : (xs : List ℕ) → AreNameBytes xs → AreFree marks xs
  names_free [] h = tt
  names_free (c ∷ xs) h = ((apart.names c h.0, (apart_from c 91 refl h.0, apart_from c 93 refl h.0)), names_free xs h.1)

  decimal_free : (n : ℕ) → n < 2 ^ 32 → AreFree marks (decimal n)
  decimal_free n fits = names_free (decimal n) (digits_names (decimal n) (decimal_is_IsNumeral n (omega arith)).0.1)

  numeral_free : (n : ℕ) → AreFree marks (numeral n)
  numeral_free n = names_free (numeral n) (digits_names (numeral n) (numeral_digits n).digits)

  further_free : (es : List ℕ) → AllByRecursion (λ x. x < 2 ^ 32) es → AreFree marks (further_text es)
  further_free [] h = tt
  further_free (e ∷ es) h = ((apart.comma, (refl, refl)), free-append marks (decimal e) (further_text es) (decimal_free e h.0) (further_free es h.1))

  listed_free : (es : List ℕ) → AllByRecursion (λ x. x < 2 ^ 32) es → AreFree marks (listed_text es)
  listed_free [] h = tt
  listed_free (e ∷ es) h = free-append marks (decimal e) (further_text es) (decimal_free e h.0) (further_free es h.1)

  fits_front : (n : ℕ) (xs : List ℕ) → AllByRecursion (λ x. x < 2 ^ 32) xs → AllByRecursion (λ x. x < 2 ^ 32) (take n xs)
  fits_front zero xs h = tt
  fits_front (suc n) [] h = tt
  fits_front (suc n) (x ∷ xs) h = (h.0, fits_front n xs h.1)

  multi_free : (dims : ℕ) (m : List ℕ) → AllByRecursion (λ x. x < 2 ^ 32) m → AreFree marks (multi_text dims m)
  multi_free dims m h =
      ((apart.opening, (refl, refl)), free-append marks (listed_text (take dims m)) (41 ∷ []) (listed_free (take dims m) (fits_front dims m h)) ((apart.closing, (refl, refl)), tt))

  quoted_free : (dims : ℕ) (m : List ℕ) (b : Bool) → is_zero m ≡ b →
      AllByRecursion (λ x. x < 2 ^ 32) m →
      AreFree marks (if is_zero m then [] else 39 ∷ multi_text dims m)
  quoted_free dims m true e h = rw e tt
  quoted_free dims m false e h = rw e ((apart.quote, (refl, refl)), multi_free dims m h)

  name_free : (n : List ℕ) → is_name n ≡ true → AreFree marks n
  name_free n h = names_free n (name_bytes n h)

  module _ (ty : Types) (ps : List (List ℕ)) (types : AreTypes ty) (parameters : AreParameters ty ps) where
    tree_passes : (text : List ℕ) (t : Plain) → IsTreeOf ty 4096 text t → Passes marks 0 text 0
    tree_passes text t h =
        let g = (passes_of ty types 4096 (omega arith) text t h).grammar in
        subst (λ x. Passes marks 0 x 0) (sym g.2) (written_passes marks ty g.0 apart.bracket g.1)

    marked_passes : (c : ℕ) (t : Plain) → is_name_byte c ≡ true → IsTreeOf ty 4096 (tree_text ty t) t → Passes marks 0 (c ∷ tree_text ty t) 0
    marked_passes c t n h = passes-append marks (c ∷ []) (tree_text ty t) 0 0 0 (free_pass marks (c ∷ []) 0 (names_free (c ∷ []) (n, tt))) (tree_passes (tree_text ty t) t h)

    pub symbol_passes : (s : PlainSymbol) → IsSymbolOf ty ps s → Passes marks 0 (symbol_text ty ps s) 0
    symbol_passes (parameter i) h = free_pass marks (parameter_name ps i) 0 (name_free (parameter_name ps i) (parameter_is_name ty ps i parameters h.over))
    symbol_passes (variable k m) h =
        free_pass marks (edge_type_text ty k m) 0
        (free-append marks (name_of ty k) (if is_zero m then [] else 39 ∷ multi_text ty.dims m) (name_free (name_of ty k) (type_at ty ps k Kernel parameters h.over.0).name) (quoted_free ty.dims m (is_zero m) refl h.entries))
    symbol_passes (noise k) h = free_pass marks (name_of ty k) 0 (name_free (name_of ty k) (type_at ty ps k Noise parameters h.over).name)
    symbol_passes (tree t) h = marked_passes 84 t refl record { types = h.over; canonical = h.bounded.0; edges = h.bounded.1.edges; decorations = h.bounded.1.decorations; printed = refl }
    symbol_passes (expectation t) h = marked_passes 69 t refl record { types = h.over; canonical = h.bounded.0; edges = h.bounded.1.edges; decorations = h.bounded.1.decorations; printed = refl }

    exponent_free : (n : ℕ) (b : Bool) → (n == 1) ≡ b → is_mark marks 94 ≡ false → AreFree marks (if n == 1 then [] else 94 ∷ numeral n)
    exponent_free n true e c = rw e tt
    exponent_free n false e c = rw e ((c, (refl, refl)), numeral_free n)

    pub power_passes : (x : Power) → is_mark marks 94 ≡ false → IsSymbolOf ty ps x.symbol → Passes marks 0 (power_text ty ps x) 0
    power_passes x c h =
        passes-append marks (symbol_text ty ps x.symbol) (if x.exponent == 1 then [] else 94 ∷ numeral x.exponent) 0 0 0 (symbol_passes x.symbol h)
        (free_pass marks (if x.exponent == 1 then [] else 94 ∷ numeral x.exponent) 0 (exponent_free x.exponent (x.exponent == 1) refl c))

    pub numeral_passes : (n : ℕ) → Passes marks 0 (numeral n) 0
    numeral_passes n = free_pass marks (numeral n) 0 (numeral_free n)

-- how a text begins
pub record Begins (test : ℕ → Bool) (text : List ℕ) : Type 0 where
  pub byte : ℕ
  pub behind : List ℕ
  pub passes : test byte ≡ true
  pub is : text ≡ byte ∷ behind

name_begins : (n : List ℕ) → is_name n ≡ true → Begins is_ascii_alphabetic n
name_begins [] h = absurd cc
name_begins (c ∷ n) h = record { byte = c; behind = n; passes = (name_parts (c ∷ n) h).0; is = refl }

begins-append : (test : ℕ → Bool) (xs ys : List ℕ) → Begins test xs → Begins test (xs ++ ys)
begins-append test xs ys h = record { byte = h.byte; behind = h.behind ++ ys; passes = h.passes; is = ap (λ (x : List ℕ). x ++ ys) h.is }

digits_begin : (ds : List ℕ) → 0 < length ds → AllDigits 10 ds → Begins is_ascii_digit ds
digits_begin [] some h = absurd (omega arith)
digits_begin (c ∷ ds) some h = record { byte = c; behind = ds; passes = digit_test c (digit_from_value c h.0); is = refl }

pub numeral_begins : (n : ℕ) → Begins is_ascii_digit (numeral n)
numeral_begins n = let d = numeral_digits n in digits_begin (numeral n) d.some d.digits

module _ (ty : Types) (ps : List (List ℕ)) (parameters : AreParameters ty ps) where
  symbol_begins : (s : PlainSymbol) → IsSymbolOf ty ps s → Begins is_ascii_alphabetic (symbol_text ty ps s)
  symbol_begins (parameter i) h = name_begins (parameter_name ps i) (parameter_is_name ty ps i parameters h.over)
  symbol_begins (variable k m) h = begins-append is_ascii_alphabetic (name_of ty k) _ (name_begins (name_of ty k) (type_at ty ps k Kernel parameters h.over.0).name)
  symbol_begins (noise k) h = name_begins (name_of ty k) (type_at ty ps k Noise parameters h.over).name
  symbol_begins (tree t) h = record { byte = 84; behind = tree_text ty t; passes = refl; is = refl }
  symbol_begins (expectation t) h = record { byte = 69; behind = tree_text ty t; passes = refl; is = refl }

  pub power_begins : (x : Power) → IsSymbolOf ty ps x.symbol → Begins is_ascii_alphabetic (power_text ty ps x)
  power_begins x h = begins-append is_ascii_alphabetic (symbol_text ty ps x.symbol) (if x.exponent == 1 then [] else 94 ∷ numeral x.exponent) (symbol_begins x.symbol h)
