-- A value is read from its parts: the mass, and the polynomial.
use Rattle.std.proofs.Common.{◌≡◌, ℕ, ◌<◌, ◌==◌, ℤ, pos, ◌≤ℤ◌, ◌<ℤ◌, Bool, true, false, if◌then◌else◌, List, [], ◌∷◌, ◌++◌, take, drop, Some, None, Option, Ok, Err, Result, arith, refl, sym, ap, ◌∙◌, append_assoc, unsigned_abs}
use Rattle.std.specs.Prelude.{IfOk, IfErr}
use Rattle.std.specs.Char.{is_ascii_digit}
use Rattle.std.specs.List.{prefix_len}
use Rattle.std.proofs.lemmas.Bool.Decides.{nat_tests}
use Rattle.std.proofs.lemmas.Int.{ints}
use Rattle.std.proofs.lemmas.List.{take-append-drop}
use Rattle.degree_numbers.specs.declared.types.Types.{Types}
use Rattle.exact_sums.specs.Saturating.{overflow}
use Rattle.numerals.specs.Numerals.{numeral}
use Rattle.symbol_polys.specs.declared.poly.Poly.{Poly}
use Rattle.symbol_polys.specs.Polynomials.{PlainTerm, size_of}
use Rattle.symbol_polys.specs.Text.{poly_text}
use Rattle.symbol_polys.specs.View.{terms_of}
use Rattle.counterterm_report.specs.declared.error.ReportError.{ReportError}
use Rattle.counterterm_report.specs.declared.error.ReportError.TheVariants as report_error
use Rattle.counterterm_report.specs.Stored.{value_text, value_parts, behind_space, IsInRange, IsReadValue, IsNoValueText}
use Rattle.counterterm_report.specs.Values.{IsValue}
use Rattle.counterterm_report.proofs.StoredValues.{text_parts, part_of}

-- the parts are those of the whole text
is_space : (c : ℕ) → (c == 32) ≡ true → c ≡ 32
is_space c e = grind (arith, nat_tests)

whole_at : (front behind ds rest : List ℕ) → Some (ds, rest) ≡ behind_space front behind → ds ++ 32 ∷ rest ≡ front ++ behind
whole_at front [] ds rest e = absurd cc
whole_at front (c ∷ cs) ds rest e = at (c == 32) refl e
  where
    at : (t : Bool) → (c == 32) ≡ t → ◌≡◌ {A = Option (List ℕ × List ℕ)} (Some (ds, rest)) (if t then Some (front, cs) else None) → ds ++ 32 ∷ rest ≡ front ++ c ∷ cs
    at true q f =
        let one : ds ≡ front = ap (λ x. (part_of x).0) f in
        let two : rest ≡ cs = ap (λ x. (part_of x).1) f in
        λ i. one i ++ sym (is_space c q) i ∷ two i
    at false q f = absurd cc

pub whole : (text ds rest : List ℕ) → Some (ds, rest) ≡ value_parts text → ds ++ 32 ∷ rest ≡ text
whole text ds rest e = whole_at (take (prefix_len is_ascii_digit text) text) (drop (prefix_len is_ascii_digit text) text) ds rest e ∙ take-append-drop (prefix_len is_ascii_digit text) text

-- and those of the value that has the text
module _ (ty : Types) (text : List ℕ) (mass : ℤ) (ts : List PlainTerm) (v : IsValue ty mass ts) (r : IsInRange mass) (t : value_text ty mass ts ≡ text) where
  pub no_parts : None ≡ value_parts text → ⊥
  no_parts e = let w : ◌≡◌ {A = Option (List ℕ × List ℕ)} None (Some (numeral (unsigned_abs mass), poly_text ty [] ts)) = e ∙ text_parts ty mass ts text t in absurd cc

  pub parts_are : (ds rest : List ℕ) → Some (ds, rest) ≡ value_parts text → (numeral (unsigned_abs mass) ≡ ds) × (poly_text ty [] ts ≡ rest)
  parts_are ds rest e =
      let w : ◌≡◌ {A = Option (List ℕ × List ℕ)} (Some (numeral (unsigned_abs mass), poly_text ty [] ts)) (Some (ds, rest)) = sym (e ∙ text_parts ty mass ts text t) in
      (ap (λ x. (part_of x).0) w, ap (λ x. (part_of x).1) w)

  pub no_mass : (ds rest : List ℕ) → Some (ds, rest) ≡ value_parts text → ((n : ℕ) → n < overflow → numeral n ≡ ds → None ≡ Some (pos n)) → ⊥
  no_mass ds rest e back = let w : ◌≡◌ {A = Option ℤ} None (Some (pos (unsigned_abs mass))) = back (unsigned_abs mass) r (parts_are ds rest e).0 in absurd cc

  abbrev int_of : Option ℤ → ℤ
  int_of None = pos 0
  int_of (Some z) = z

  pub mass_is : (ds rest : List ℕ) (z : ℤ) → Some (ds, rest) ≡ value_parts text → ((n : ℕ) → n < overflow → numeral n ≡ ds → Some z ≡ Some (pos n)) → z ≡ mass
  mass_is ds rest z e back =
      let w : z ≡ pos (unsigned_abs mass) = ap int_of (back (unsigned_abs mass) r (parts_are ds rest e).0) in
      omega (arith, ints, w, v.polynomial.within)

  -- the polynomial with its own mass is that of the value
  pub not_small : (ds rest : List ℕ) (z : ℤ) (p : Poly) → Some (ds, rest) ≡ value_parts text →
      ((n : ℕ) → n < overflow → numeral n ≡ ds → Some z ≡ Some (pos n)) →
      p.mass ≡ pos (size_of (terms_of p.terms)) → terms_of p.terms ≡ ts → z <ℤ p.mass → ⊥
  not_small ds rest z p e back own same small =
      let is = mass_is ds rest z e back in
      let size : size_of (terms_of p.terms) ≡ size_of ts = ap size_of same in
      omega (arith, ints, is, size, own, small, v.polynomial.within)

  pub read_is : (ds rest : List ℕ) (z : ℤ) (p : Poly) (q : Result Poly ReportError) →
      Some (ds, rest) ≡ value_parts text →
      ((n : ℕ) → n < overflow → numeral n ≡ ds → Some z ≡ Some (pos n)) →
      p.mass ≡ pos (size_of (terms_of p.terms)) → terms_of p.terms ≡ ts
      → IfOk q (λ x. (x.mass ≡ z) × (x.terms ≡ p.terms) × (p.mass ≤ℤ z)) → IfErr q (λ e. (e ≡ report_error.ValueText) × (z <ℤ p.mass)) → IsReadValue q mass ts
  read_is ds rest z p (Ok x) e back own same value small = (value.0 ∙ mass_is ds rest z e back, ap terms_of value.1 ∙ same)
  read_is ds rest z p (Err f) e back own same value small = absurd (not_small ds rest z p e back own same small.1)

-- what is read is a value
pub value_read : (ty : Types) (z : ℤ) (p : Poly) (q : Result Poly ReportError) →
    IsValue ty p.mass (terms_of p.terms) →
    IfOk q (λ x. (x.mass ≡ z) × (x.terms ≡ p.terms) × (p.mass ≤ℤ z)) →
    IfOk q (λ x. IsValue ty x.mass (terms_of x.terms))
value_read ty z p (Err f) h value = tt
value_read ty z p (Ok x) h value =
    let old = rw (sym value.1) at h in
    record {
      polynomial = record { each = old.polynomial.each; ascending = old.polynomial.ascending; not_zero = old.polynomial.not_zero; within = omega (arith, ints, old.polynomial.within, value.0, value.2) };
      expectations = old.expectations;
    }

pub text_read : (ty : Types) (text ds rest : List ℕ) (z : ℤ) (p : Poly) (q : Result Poly ReportError) →
    Some (ds, rest) ≡ value_parts text → numeral (unsigned_abs z) ≡ ds →
    poly_text ty [] (terms_of p.terms) ≡ rest
    → IfOk q (λ x. (x.mass ≡ z) × (x.terms ≡ p.terms) × (p.mass ≤ℤ z)) → IfOk q (λ x. value_text ty x.mass (terms_of x.terms) ≡ text)
text_read ty text ds rest z p (Err f) e d t value = tt
text_read ty text ds rest z p (Ok x) e d t value =
    let digits : numeral (unsigned_abs x.mass) ≡ ds = ap (λ (m : ℤ). numeral (unsigned_abs m)) value.0 ∙ d in
    let poly : poly_text ty [] (terms_of x.terms) ≡ rest = ap (λ us. poly_text ty [] (terms_of us)) value.1 ∙ t in
    append_assoc (numeral (unsigned_abs x.mass)) (32 ∷ []) (poly_text ty [] (terms_of x.terms)) ∙ (λ i. digits i ++ 32 ∷ poly i) ∙ whole text ds rest e

-- a refusal for another cause than memory
pub refused_read : (ty : Types) (text : List ℕ) (q : Result Poly ReportError) →
    ((mass : ℤ) (ts : List PlainTerm) → IsValue ty mass ts → IsInRange mass → value_text ty mass ts ≡ text → IsReadValue q mass ts)
    → IfErr q (λ e. e ≡ report_error.ValueText → IsNoValueText ty text)
refused_read ty text (Ok x) back = tt
refused_read ty text (Err f) back = λ e mass ts v r t. let w : report_error.ValueText ≡ report_error.Memory = sym e ∙ back mass ts v r t in absurd cc
