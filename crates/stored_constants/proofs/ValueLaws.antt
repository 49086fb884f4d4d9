-- A value that is read, as terms with their mass.
use Rattle.std.proofs.Common.{◌≡◌, ◌<◌, ◌≤ℤ◌, ◌↔◌, ℕ, ℤ, pos, negsuc, unsigned_abs, List, Option, Some, None, IsTrue, is_some, MatchOption, true, false, refl, subst, arith}
use Rattle.exact_sums.specs.Saturating.{overflow}
use Rattle.degree_numbers.specs.declared.types.Types.{Types}
use Rattle.symbol_polys.specs.declared.poly.Poly.{Poly}
use Rattle.symbol_polys.specs.View.{terms_of}
use Rattle.antipode_laws.specs.Weighed.{Weighed}
use Rattle.twisted_antipode.specs.Held.{weighed_of}
use Rattle.counterterm_report.specs.Stored.{value_text, IsNoValueText}
use Rattle.counterterm_report.specs.Values.{IsValue}
use Rattle.plain_trees.proofs.Readings.{true_is, false_not}
use Rattle.stored_constants.specs.Rows.{IsValueText}

not_negative : (n : ℕ) (z : ℤ) → pos n ≤ℤ z → z ≡ pos (unsigned_abs z)
not_negative n (pos m) h = refl
not_negative n (negsuc m) h = absurd (omega arith)

pub value_is : (ty : Types) (p : Poly) (text : List ℕ) → IsValue ty p.mass (terms_of p.terms) →
    value_text ty p.mass (terms_of p.terms) ≡ text → unsigned_abs p.mass < overflow →
    IsValueText ty (weighed_of p) text
value_is ty p text value is range = record {
  is_value = subst (λ (z : ℤ). IsValue ty z (terms_of p.terms)) (not_negative _ p.mass value.polynomial.within) value;
  range = range;
  text = is;
}

pub no_value : (ty : Types) (text : List ℕ) (w : Weighed) → IsNoValueText ty text → IsValueText ty w text → ⊥
no_value ty text w none h = none (pos w.mass) w.terms h.is_value h.range h.text

pub whether : (ty : Types) (text : List ℕ) (o : Option Poly) →
    MatchOption o (IsNoValueText ty text) (λ p. IsValueText ty (weighed_of p) text) →
    IsTrue (is_some o) ↔ ((w : Weighed) × IsValueText ty w text)
whether ty text None h = (λ t. absurd (false_not false refl t), λ w. absurd (no_value ty text w.0 h w.1))
whether ty text (Some p) h = (λ t. (weighed_of p, h), λ w. true_is true refl)
