-- Stored values are read as they are written.
use Rattle.std.proofs.Common.{◌≡◌, ℕ, ◌<◌, ℤ, true, false, List, [], ◌∷◌, ◌++◌, length, Some, None, Option, Err, arith, refl, sym, ap, ◌∙◌, append_assoc, rules, tests, unsigned_abs}
use Rattle.std.specs.Char.{is_ascii_digit}
use Rattle.std.specs.Int.{IsInRange}
use Rattle.std.specs.List.{AllByRecursion, list_all, prefix_len}
use Rattle.std.specs.Str.Parse.{AllDigits}
use Rattle.std.proofs.lemmas.Bool.{and_parts}
use Rattle.std.proofs.lemmas.Int.{ints}
use Rattle.std.proofs.Math.Seq.{take-append_seam, drop-append_seam}
use Rattle.std.proofs.lemmas.Str.Parse.{digit_from_value}
use Rattle.degree_numbers.specs.declared.types.Types.{Types}
use Rattle.degree_numbers.specs.Types.{AreTypes}
use Rattle.exact_sums.specs.Saturating.{overflow}
use Rattle.numerals.specs.Numerals.{numeral}
use Rattle.numerals.proofs.Numerals.{numeral_digits, numeral_exact}
use Rattle.symbol_polys.specs.declared.error.PolyError.{PolyError}
use Rattle.symbol_polys.specs.declared.error.PolyError.TheVariants as poly_error
use Rattle.symbol_polys.specs.Polynomials.{PlainTerm, monomials, size_of, IsPolynomial}
use Rattle.symbol_polys.specs.Reading.{IsSymbolOf, IsTextOf, IsReadAs}
use Rattle.symbol_polys.specs.Symbols.{PlainSymbol, parameter, variable, noise, tree, expectation, IsMonomial, HasBoundedTree}
use Rattle.symbol_polys.specs.Text.{AreParameters, IsOver, IsTermOver, poly_text}
use Rattle.symbol_polys.proofs.TextUnique.{text_exact}
use Rattle.counterterm_report.specs.declared.error.ReportError.{ReportError}
use Rattle.counterterm_report.specs.declared.error.ReportError.TheVariants as report_error
use Rattle.counterterm_report.specs.Stored.{value_text, value_parts, is_expectation, are_expectations}
use Rattle.counterterm_report.specs.Values.{IsExpectation, IsValue}

-- values can be printed
module _ (ty : Types) (ps : List (List ℕ)) where
  over_symbol : (s : PlainSymbol) → IsExpectation ty s → IsOver ty ps s
  over_symbol (parameter i) h = absurd h
  over_symbol (variable k m) h = absurd h
  over_symbol (noise k) h = absurd h
  over_symbol (tree t) h = absurd h
  over_symbol (expectation t) h = h

  over_symbols : (m : List PlainSymbol) → AllByRecursion (IsExpectation ty) m → AllByRecursion (IsOver ty ps) m
  over_symbols [] h = tt
  over_symbols (s ∷ m) h = (over_symbol s h.0, over_symbols m h.1)

  over_terms : (ts : List PlainTerm) → AllByRecursion IsMonomial (monomials ts) →
      AllByRecursion (λ t. AllByRecursion (IsExpectation ty) t.symbols) ts →
      AllByRecursion (IsTermOver ty ps) ts
  over_terms [] m h = tt
  over_terms (t ∷ ts) m h = (record { over = over_symbols t.symbols h.0; trees = m.0.trees }, over_terms ts m.1 h.1)

pub value_over : (ty : Types) (ps : List (List ℕ)) (mass : ℤ) (ts : List PlainTerm) → IsValue ty mass ts → AllByRecursion (IsTermOver ty ps) ts
value_over ty ps mass ts h = over_terms ty ps ts h.polynomial.each h.expectations

-- and they have texts that are read
pub no_parameters : (ty : Types) → AreTypes ty → AreParameters ty []
no_parameters ty h = record { few = omega arith; names = h.names }

module _ (ty : Types) where
  symbol_is : (s : PlainSymbol) → IsExpectation ty s → HasBoundedTree s → IsSymbolOf ty [] s
  symbol_is (parameter i) h b = absurd h
  symbol_is (variable k m) h b = absurd h
  symbol_is (noise k) h b = absurd h
  symbol_is (tree t) h b = absurd h
  symbol_is (expectation t) h b = record { over = h; bounded = b; entries = tt }

  symbols_are : (m : List PlainSymbol) → AllByRecursion (IsExpectation ty) m → AllByRecursion HasBoundedTree m → AllByRecursion (IsSymbolOf ty []) m
  symbols_are [] h b = tt
  symbols_are (s ∷ m) h b = (symbol_is s h.0 b.0, symbols_are m h.1 b.1)

  terms_are : (ts : List PlainTerm) → AllByRecursion IsMonomial (monomials ts) →
      AllByRecursion (λ t. AllByRecursion (IsExpectation ty) t.symbols) ts →
      AllByRecursion (λ t. AllByRecursion (IsSymbolOf ty []) t.symbols) ts
  terms_are [] m h = tt
  terms_are (t ∷ ts) m h = (symbols_are t.symbols h.0 m.0.trees, terms_are ts m.1 h.1)

  pub value_is_text : (mass : ℤ) (ts : List PlainTerm) (text : List ℕ) → IsValue ty mass ts → poly_text ty [] ts ≡ text → IsTextOf ty [] text ts
  value_is_text mass ts text h e =
      let p = h.polynomial in
      record {
        polynomial = record { each = p.each; ascending = p.ascending; not_zero = p.not_zero; within = omega (arith, ints) };
        symbols = terms_are ts p.each h.expectations;
        printed = e;
      }

  -- expectations are told from other symbols
  expectation_true : (s : PlainSymbol) → IsExpectation ty s → is_expectation s ≡ true
  expectation_true (parameter i) h = absurd h
  expectation_true (variable k m) h = absurd h
  expectation_true (noise k) h = absurd h
  expectation_true (tree t) h = absurd h
  expectation_true (expectation t) h = refl

  all_true : (m : List PlainSymbol) → AllByRecursion (IsExpectation ty) m → list_all is_expectation m ≡ true
  all_true [] h = refl
  all_true (s ∷ m) h = rw (expectation_true s h.0, all_true m h.1) refl

  pub expectations_true : (ts : List PlainTerm) → AllByRecursion (λ t. AllByRecursion (IsExpectation ty) t.symbols) ts → are_expectations ts ≡ true
  expectations_true [] h = refl
  expectations_true (t ∷ ts) h = rw (all_true t.symbols h.0, expectations_true ts h.1) refl

  true_expectation : (s : PlainSymbol) → is_expectation s ≡ true → IsSymbolOf ty [] s → IsExpectation ty s
  true_expectation (parameter i) e h = absurd cc
  true_expectation (variable k m) e h = absurd cc
  true_expectation (noise k) e h = absurd cc
  true_expectation (tree t) e h = absurd cc
  true_expectation (expectation t) e h = h.over

  true_all : (m : List PlainSymbol) → list_all is_expectation m ≡ true → AllByRecursion (IsSymbolOf ty []) m → AllByRecursion (IsExpectation ty) m
  true_all [] e h = tt
  true_all (s ∷ m) e h =
      let t = and_parts (is_expectation s) (list_all is_expectation m) e in
      (true_expectation s t.0 h.0, true_all m t.1 h.1)

  true_expectations : (ts : List PlainTerm) → are_expectations ts ≡ true →
      AllByRecursion (λ t. AllByRecursion (IsSymbolOf ty []) t.symbols) ts →
      AllByRecursion (λ t. AllByRecursion (IsExpectation ty) t.symbols) ts
  true_expectations [] e h = tt
  true_expectations (t ∷ ts) e h =
      let both = and_parts (list_all is_expectation t.symbols) (are_expectations ts) e in
      (true_all t.symbols both.0 h.0, true_expectations ts both.1 h.1)

  pub text_is_value : (mass : ℤ) (ts : List PlainTerm) (text : List ℕ) → IsPolynomial mass ts →
      IsTextOf ty [] text ts → are_expectations ts ≡ true → IsValue ty mass ts
  text_is_value mass ts text p h e = record { polynomial = p; expectations = true_expectations ts e h.symbols }

-- the sum of the absolute coefficients is in range
pub value_size : (ty : Types) (mass : ℤ) (ts : List PlainTerm) → IsValue ty mass ts → unsigned_abs mass < overflow → size_of ts < overflow
value_size ty mass ts h r = omega (arith, ints, h.polynomial.within, r)

pub fault_read : (e : PolyError) (r : ReportError) (ts : List PlainTerm) →
    (e ≡ poly_error.Memory → r ≡ report_error.Memory) → size_of ts < overflow →
    IsReadAs (Err e) ts → r ≡ report_error.Memory
fault_read poly_error.CoefficientTooLarge r ts h small is = absurd (omega (arith, small, is))
fault_read poly_error.PolyText r ts h small is = absurd is
fault_read poly_error.Memory r ts h small is = h refl

-- the parts of the text
digit_test : (c : ℕ) → IsInRange 48 57 c → is_ascii_digit c ≡ true
digit_test c h = search (rules, tests)

prefix_digits : (ds rest : List ℕ) → AllDigits 10 ds → prefix_len is_ascii_digit (ds ++ 32 ∷ rest) ≡ length ds
prefix_digits [] rest h = refl
prefix_digits (d ∷ ds) rest h =
    let more : prefix_len is_ascii_digit (ds ++ 32 ∷ rest) ≡ length ds = prefix_digits ds rest h.1 in
    rw (digit_test d (digit_from_value d h.0)) (omega arith)

parts_of : (ds rest : List ℕ) → AllDigits 10 ds → value_parts (ds ++ 32 ∷ rest) ≡ Some (ds, rest)
parts_of ds rest h = rw (prefix_digits ds rest h, take-append_seam ds (32 ∷ rest), drop-append_seam ds (32 ∷ rest)) refl

pub text_parts : (ty : Types) (mass : ℤ) (ts : List PlainTerm) (text : List ℕ) →
    value_text ty mass ts ≡ text →
    value_parts text ≡ Some (numeral (unsigned_abs mass), poly_text ty [] ts)
text_parts ty mass ts text e =
    ap value_parts (sym e ∙ append_assoc (numeral (unsigned_abs mass)) (32 ∷ []) (poly_text ty [] ts)) ∙ parts_of (numeral (unsigned_abs mass)) (poly_text ty [] ts) (numeral_digits (unsigned_abs mass)).digits

-- a text is that of one value at most
abbrev pub part_of : Option (List ℕ × List ℕ) → List ℕ × List ℕ
part_of None = ([], [])
part_of (Some x) = x

pub value_exact : (ty : Types) (m n : ℤ) (ts us : List PlainTerm) → AreTypes ty → IsValue ty m ts →
    IsValue ty n us → value_text ty m ts ≡ value_text ty n us → (m ≡ n) × (ts ≡ us)
value_exact ty m n ts us types h k e =
    let parts : ◌≡◌ {A = Option (List ℕ × List ℕ)} (Some (numeral (unsigned_abs m), poly_text ty [] ts)) (Some (numeral (unsigned_abs n), poly_text ty [] us))
    = sym (text_parts ty m ts (value_text ty m ts) refl) ∙ ap value_parts e ∙ text_parts ty n us (value_text ty n us) refl in
    let size : unsigned_abs m ≡ unsigned_abs n = numeral_exact (unsigned_abs m) (unsigned_abs n) (ap (λ x. (part_of x).0) parts) in
    let poly : poly_text ty [] us ≡ poly_text ty [] ts = sym (ap (λ x. (part_of x).1) parts) in (
      omega (arith, ints, size, h.polynomial.within, k.polynomial.within),
      text_exact ty [] types (no_parameters ty types) (poly_text ty [] ts) ts us (value_is_text ty m ts (poly_text ty [] ts) h refl) (value_is_text ty n us (poly_text ty [] ts) k poly),
    )

pub not_expectations : (ty : Types) (mass : ℤ) (ts us : List PlainTerm) → IsValue ty mass ts → us ≡ ts → are_expectations us ≡ false → ⊥
not_expectations ty mass ts us h e f =
    let is : are_expectations us ≡ true = ap are_expectations e ∙ expectations_true ty ts h.expectations in
    let both : true ≡ false = sym is ∙ f in
    absurd cc
