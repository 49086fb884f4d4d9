-- Polynomials are the sums of the terms whose coefficients they have; their lines.
use Rattle.std.proofs.Common.{◌≡◌, List, [], ◌∷◌, length, refl, arith}
use Rattle.std.specs.List.{All}
use Rattle.std.proofs.lemmas.List.Elements.{All-head, All-tail}
use Rattle.equations.specs.declared.equation.Equation.{Equation}
use Rattle.equations.specs.declared.equation.Unknown.{Unknown}
use Rattle.plain_trees.specs.Plain.{Plain}
use Rattle.symbol_polys.specs.declared.poly.Poly.{Poly}
use Rattle.symbol_polys.specs.Polynomials.{PlainTerm, size_of, IsSumOf}
use Rattle.symbol_polys.specs.View.{terms_of}
use Rattle.symbol_polys.proofs.Collected.{weighed, collected-weighed}
use Rattle.elementary_diff.specs.Differentials.{differential_terms}
use Rattle.counterterm_report.specs.declared.values.DiffValue.{DiffValue}
use Rattle.counterterm_report.specs.Report.{printed, differential_lines}
use Rattle.counterterm_report.specs.Values.{IsPrinted}
use Rattle.tree_details.specs.Detail.{IsSumText, AreDifferentialLines}
use Rattle.tree_values.specs.Values.{AreDifferentialsOf}
use Rattle.tree_details.specs.Values.{IsPolynomialOf}

weighed_once : (ts : List PlainTerm) → weighed (λ m. 1) ts ≡ size_of ts
weighed_once [] = refl
weighed_once (t ∷ ts) = let rest = weighed_once ts in omega (arith, rest)

pub is_sum : (eq : Equation) (ts : List PlainTerm) (p : Poly) → IsPolynomialOf eq ts p → IsSumOf ts (terms_of p.terms)
is_sum eq ts p h = record {
  ascending = h.poly.ascending;
  not_zero = h.poly.not_zero;
  coefficients = h.coefficients;
  size = omega (arith, collected-weighed (λ m. 1) p.mass (terms_of p.terms) ts h.poly h.coefficients, weighed_once (terms_of p.terms), weighed_once ts);
}

pub sum_text : (eq : Equation) (ts : List PlainTerm) (p : Poly) → IsPolynomialOf eq ts p → IsSumText eq ts (printed eq p)
sum_text eq ts p h = record { sum = terms_of p.terms; is_sum = is_sum eq ts p h; is = refl }

pub differentials_text : (eq : Equation) (t : Plain) (us : List Unknown) (ds : List DiffValue) →
    AreDifferentialsOf eq t us ds → All (λ d. IsPrinted eq d.poly) ds
    → AreDifferentialLines eq t us (differential_lines eq us ds)
differentials_text eq t [] [] h p = refl
differentials_text eq t [] (d ∷ ds) h p = absurd h
differentials_text eq t (u ∷ us) [] h p = absurd h
differentials_text eq t (u ∷ us) (d ∷ ds) h p =
    let first : IsPolynomialOf eq (differential_terms eq u.kernel.0 t) d.poly = record { poly = h.0.polynomial; coefficients = h.0.coefficients; printed = All-head (λ (v : DiffValue). IsPrinted eq v.poly) d ds p } in
    (printed eq d.poly, differential_lines eq us ds, sum_text eq (differential_terms eq u.kernel.0 t) d.poly first, differentials_text eq t us ds h.1 (All-tail (λ (v : DiffValue). IsPrinted eq v.poly) d ds p), refl)

pub one_for_each : (eq : Equation) (t : Plain) (us : List Unknown) (ds : List DiffValue) → AreDifferentialsOf eq t us ds → length ds ≡ length us
one_for_each eq t [] [] h = refl
one_for_each eq t [] (d ∷ ds) h = absurd h
one_for_each eq t (u ∷ us) [] h = absurd h
one_for_each eq t (u ∷ us) (d ∷ ds) h = let rest = one_for_each eq t us ds h.1 in omega (arith, rest)
