-- Values over types in other units, and their texts.
use Rattle.std.proofs.Common.{◌≡◌, ℕ, ◌==◌, ℤ, pos, unsigned_abs, List, [], ◌∷◌, ◌++◌, map, if◌then◌else◌, codes, refl, sym, ◌∙◌}
use Rattle.std.specs.List.{AllByRecursion}
use Rattle.degree_numbers.specs.declared.types.Types.{Types}
use Rattle.numerals.specs.Numerals.{numeral}
use Rattle.plain_trees.specs.Text.{joined}
use Rattle.symbol_polys.specs.Polynomials.{PlainTerm}
use Rattle.symbol_polys.specs.Symbols.{PlainSymbol, parameter, variable, noise, tree, expectation}
use Rattle.symbol_polys.specs.Text.{Power, symbol_text, powers, coefficient_factors, body_text, is_negative, signed_texts, poly_text}
use Rattle.counterterm_report.specs.Stored.{value_text}
use Rattle.counterterm_report.specs.Values.{IsExpectation}
use Rattle.type_contexts.specs.Same.{AreSameTypes}
use Rattle.antipode_laws.specs.Weighed.{Weighed}
use Rattle.stored_constants.specs.Rows.{IsValueText, IsConstantText}
use Rattle.row_laws.proofs.SameEntries.{names}
use Rattle.row_laws.proofs.SameTexts.{edge_text, trees, typed}

module _ (s t : Types) (same : AreSameTypes s t) where
  symbol_same : (x : PlainSymbol) → symbol_text s [] x ≡ symbol_text t [] x
  symbol_same (parameter i) = refl
  symbol_same (variable k m) = edge_text s t same k m
  symbol_same (noise k) = names s t same k
  symbol_same (tree u) = λ i. 84 ∷ trees s t same u i
  symbol_same (expectation u) = λ i. 69 ∷ trees s t same u i

  body_same : (u : PlainTerm) → body_text s [] u ≡ body_text t [] u
  body_same u = λ i. joined (coefficient_factors (numeral (unsigned_abs u.coefficient)) u.symbols
      ++ map (λ (x : Power). symbol_same x.symbol i ++
      (if x.exponent == 1 then [] else 94 ∷ numeral x.exponent)) (powers u.symbols))

  signed_same : (us : List PlainTerm) → signed_texts s [] us ≡ signed_texts t [] us
  signed_same [] = refl
  signed_same (u ∷ us) = λ i. (if is_negative u.coefficient then 45 else 43) ∷
      (body_same u i ++ signed_same us i)

  poly_same : (us : List PlainTerm) → poly_text s [] us ≡ poly_text t [] us
  poly_same [] = refl
  poly_same (u ∷ us) = λ i. (if is_negative u.coefficient then 45 ∷ [] else []) ++
      (body_same u i ++ signed_same us i)

  text_same : (mass : ℤ) (us : List PlainTerm) → value_text s mass us ≡ value_text t mass us
  text_same mass us = λ i. numeral (unsigned_abs mass) ++ codes " " ++ poly_same us i

  -- what they are over
  expectation_over : (x : PlainSymbol) → IsExpectation s x → IsExpectation t x
  expectation_over (parameter i) h = h
  expectation_over (variable k m) h = h
  expectation_over (noise k) h = h
  expectation_over (tree u) h = h
  expectation_over (expectation u) h = typed s t same u h

  symbols_over : (m : List PlainSymbol) → AllByRecursion (IsExpectation s) m →
      AllByRecursion (IsExpectation t) m
  symbols_over [] h = tt
  symbols_over (x ∷ m) h = (expectation_over x h.0, symbols_over m h.1)

  terms_over : (us : List PlainTerm) →
      AllByRecursion (λ u. AllByRecursion (IsExpectation s) u.symbols) us →
      AllByRecursion (λ u. AllByRecursion (IsExpectation t) u.symbols) us
  terms_over [] h = tt
  terms_over (u ∷ us) h = (symbols_over u.symbols h.0, terms_over us h.1)

  value_over : (w : Weighed) (value : List ℕ) → IsValueText s w value → IsValueText t w value
  value_over w value h = record {
    is_value = record {
      polynomial = h.is_value.polynomial;
      expectations = terms_over w.terms h.is_value.expectations;
    };
    range = h.range;
    text = sym (text_same (pos w.mass) w.terms) ∙ h.text;
  }

  pub constant_text_same : (u : Weighed) (value : List ℕ) → IsConstantText s u value →
      IsConstantText t u value
  constant_text_same u value h = (h.0, h.1, value_over h.0 value h.2)
