-- Sums over the terms of a run, one term after the other.
use Rattle.std.proofs.Common.{◌≡◌, ℕ, ◌+◌, ◌*◌, ◌<◌, ◌≤◌, ℤ, pos, ◌*ℤ◌, unsigned_abs, true, false, cond, if◌then◌else◌, List, [], ◌∷◌, ◌++◌, map, take, drop, length, get_or, refl, sym, ap, ◌∙◌, subst, arith, append-nil}
use Rattle.std.specs.List.{AllByRecursion}
use Rattle.std.proofs.lemmas.Grind.{common_steps}
use Rattle.std.proofs.lemmas.List.{map-append}
use Rattle.exact_sums.specs.Saturating.{overflow, saturated, saturating_plus, saturating_times, saturating_sum}
use Rattle.exact_sums.proofs.SaturatingLaws.{saturating_sum_is}
use Rattle.degree_numbers.specs.declared.types.Types.{Types}
use Rattle.plain_trees.specs.Plain.{Plain}
use Rattle.symbol_polys.specs.declared.poly.Poly.{Poly}
use Rattle.symbol_polys.specs.Symbols.{PlainSymbol}
use Rattle.symbol_polys.specs.Polynomials.{PlainTerm, coefficient_of, times_all}
use Rattle.symbol_polys.specs.View.{terms_of}
use Rattle.symbol_polys.proofs.PolyLaws.{coefficient_of-times_all}
use Rattle.tree_pool.specs.Content.{Content, tree_at}
use Rattle.extraction_coproduct.specs.declared.term.ExtractTerm.{ExtractTerm}
use Rattle.antipode_laws.specs.Weighed.{Weighed, has_terms}
use Rattle.antipode_laws.specs.Runs.{quotient_sum, quotient_mass}
use Rattle.antipode_laws.proofs.Masses.{times_least}
use Rattle.antipode_laws.proofs.RunLaws.{sums_of_both, quotient_sums_of_both}
use Rattle.twisted_antipode.specs.declared.quotient.Reading.{Reading}
use Rattle.twisted_antipode.specs.declared.value.Value.{Value}
use Rattle.twisted_antipode.specs.Values.{IsPolyOf, IsValueOf, sum_of}
use Rattle.twisted_antipode.specs.Quotients.{quotient_terms, quotient_value, one_or_none}
use Rattle.twisted_antipode.specs.RunTerms.{IsCoefficient, quotients_in, multiple_of, run_value}
use Rattle.twisted_antipode.proofs.Arithmetic.{mass_is, in_range}

pub times_coefficient : (z y : ℤ) (w : Weighed) (f p : Poly) → IsCoefficient z → y ≡ z → IsPolyOf w f → ((m : List PlainSymbol) → coefficient_of m (terms_of p.terms) ≡ y *ℤ coefficient_of m (terms_of f.terms)) →
    p.mass ≡ pos (unsigned_abs y * unsigned_abs f.mass) → unsigned_abs y * unsigned_abs f.mass < overflow → IsPolyOf (multiple_of (unsigned_abs z) w) p
times_coefficient z y w f p number same hf coefficients mass fits =
    let a = mass_is w f hf in
    let n = ap unsigned_abs same in
    let total : unsigned_abs y * unsigned_abs f.mass ≡ saturating_times (unsigned_abs z) w.mass = in_range (unsigned_abs y * unsigned_abs f.mass) fits ∙ rw (a, n) refl in
    record {
      coefficients = λ m.
          coefficients m ∙ ap (λ (x : ℤ). x *ℤ coefficient_of m (terms_of f.terms)) (same ∙ number.is) ∙ ap (λ (c : ℤ). pos (unsigned_abs z) *ℤ c) (hf.coefficients m)
          ∙ sym (coefficient_of-times_all (pos (unsigned_abs z)) m w.terms);
      mass = mass ∙ ap pos total;
    }

pub multiple_large : (n m : ℕ) → 0 < n → overflow ≤ m → overflow ≤ saturating_times n m
multiple_large n m s l = let least = times_least overflow m n l s in let same : m * n ≡ n * m = omega arith in omega (arith, least, same)

weighed : List PlainTerm → ℕ → Weighed
weighed ts m = record { terms = ts; mass = m }

module _ (reading : Reading) (ty : Types) where
  abbrev Q : Plain → List PlainTerm
  Q = quotient_terms reading ty

  counted : (q : Plain) (n : ℕ) → saturating_sum ((if has_terms (Q q) then saturated n else 0) ∷ []) ≡ saturating_times n (one_or_none (has_terms (Q q)))
  counted q n =
      elim (has_terms (Q q)) as (λ b. saturating_sum (cond b (saturated n) 0 ∷ []) ≡ saturating_times n (cond b 1 0)) [
        | true ↦ (let same : saturating_plus 0 (saturated n) ≡ saturated (n * 1) = omega arith in same)
        | false ↦ (let same : saturating_plus 0 0 ≡ saturated (n * 0) = omega arith in same)
      ]

  pub one_more : (qs : List (Plain × ℕ)) (q : Plain) (n : ℕ) → run_value reading ty (qs ++ (q, n) ∷ []) ≡ sum_of (run_value reading ty qs) (multiple_of n (quotient_value reading ty q))
  unfolding weighed
  one_more qs q n =
      ap (λ (ts : List PlainTerm). weighed ts (quotient_mass Q (qs ++ (q, n) ∷ []))) (quotient_sums_of_both Q qs ((q, n) ∷ []) ∙ ap (λ (ts : List PlainTerm). quotient_sum Q qs ++ ts) (append-nil (times_all (pos n) (Q q))))
      ∙ ap (weighed (quotient_sum Q qs ++ times_all (pos n) (Q q)))
      (ap saturating_sum (map-append (λ (x : Plain × ℕ). if has_terms (Q x.0) then saturated x.1 else 0) qs ((q, n) ∷ []))
      ∙ sums_of_both (map (λ (x : Plain × ℕ). if has_terms (Q x.0) then saturated x.1 else 0) qs) ((if has_terms (Q q) then saturated n else 0) ∷ [])
      ∙ ap (saturating_plus (quotient_mass Q qs)) (counted q n))

pub run_within : (reading : Reading) (ty : Types) (qs : List (Plain × ℕ)) → (run_value reading ty qs).mass ≤ overflow
run_within reading ty qs =
    let Q = quotient_terms reading ty in
    let is = saturating_sum_is (map (λ (x : Plain × ℕ). if has_terms (Q x.0) then saturated x.1 else 0) qs) in
    omega (arith, is)

abbrev pub no_term : ExtractTerm
no_term = record { coefficient = pos 0; forest = record { 0 = 0 }; quotient = record { 0 = 0 } }

taken : (es : List ExtractTerm) (i : ℕ) → i < length es → take (i + 1) es ≡ take i es ++ get_or es i no_term ∷ []
taken es i l = grind (arith, common_steps)

left : (es : List ExtractTerm) (i : ℕ) → i < length es → drop i es ≡ get_or es i no_term ∷ drop (i + 1) es
left es i l = grind (arith, common_steps)

pub rest_of : (P : ExtractTerm → Type 0) (es : List ExtractTerm) (i : ℕ) → i < length es → AllByRecursion P (drop i es) → AllByRecursion P (drop (i + 1) es)
rest_of P es i l h = (subst (AllByRecursion P) (left es i l) h).1

pub run_step : (reading : Reading) (c : Content) (es : List ExtractTerm) (i : ℕ) (v : Value) → i < length es →
    IsValueOf (sum_of (run_value reading c.types (quotients_in c (take i es))) (multiple_of (unsigned_abs (get_or es i no_term).coefficient) (quotient_value reading c.types (tree_at c (get_or es i no_term).quotient.0)))) v →
    IsValueOf (run_value reading c.types (quotients_in c (take (i + 1) es))) v
run_step reading c es i v l h =
    let e = get_or es i no_term in
    let more : quotients_in c (take (i + 1) es) ≡ quotients_in c (take i es) ++ (tree_at c e.quotient.0, unsigned_abs e.coefficient) ∷ [] =
    ap (quotients_in c) (taken es i l) ∙ map-append (λ (x : ExtractTerm). (tree_at c x.quotient.0, unsigned_abs x.coefficient)) (take i es) (e ∷ []) in
    subst (λ (w : Weighed). IsValueOf w v) (sym (ap (run_value reading c.types) more ∙ one_more reading c.types (quotients_in c (take i es)) (tree_at c e.quotient.0) (unsigned_abs e.coefficient))) h
