-- The text of a polynomial that is a constant.
use Rattle.std.proofs.Common.{◌<◌, ℤ, List, [], ◌∷◌, refl, sym, ap, subst}
use Rattle.std.specs.List.{AllByRecursion}
use Rattle.exact_sums.specs.Saturating.{overflow}
use Rattle.degree_numbers.specs.declared.types.Types.{Types}
use Rattle.symbol_polys.specs.declared.poly.Poly.{Poly}
use Rattle.symbol_polys.specs.Symbols.{PlainSymbol, parameter, variable, noise, tree, expectation}
use Rattle.symbol_polys.specs.Polynomials.{PlainTerm}
use Rattle.symbol_polys.specs.View.{terms_of, IsPoly}
use Rattle.antipode_laws.specs.Weighed.{Weighed}
use Rattle.twisted_antipode.specs.Held.{IsExpectation, AreOverExpectations}
use Rattle.twisted_antipode.specs.Kinds.{IsTyped, AreTyped}
use Rattle.twisted_antipode.specs.Values.{IsPolyOf}
use Rattle.counterterm_report.specs.Stored.{value_text}
use Rattle.counterterm_report.specs.Values.{IsValue}
use Rattle.counterterm_report.specs.Values as report
use Rattle.stored_constants.specs.Rows.{IsConstantText}

pub constant_text : (ty : Types) (u : Weighed) (p : Poly) → IsPolyOf u p →
    IsValue ty p.mass (terms_of p.terms) → u.mass < overflow →
    IsConstantText ty u (value_text ty p.mass (terms_of p.terms))
constant_text ty u p is value range =
    let w : Weighed = record { terms = terms_of p.terms; mass = u.mass } in (
      w,
      record { coefficients = is.coefficients; mass = refl },
      record {
        is_value = subst (λ (z : ℤ). IsValue ty z (terms_of p.terms)) is.mass value;
        range = range;
        text = ap (λ (z : ℤ). value_text ty z (terms_of p.terms)) (sym is.mass);
      },
    )

-- a polynomial over expectations of trees over the types is a value
module _ (ty : Types) where
  symbol_stored : (s : PlainSymbol) → IsExpectation s → IsTyped ty s → report.IsExpectation ty s
  symbol_stored (parameter i) e h = absurd e
  symbol_stored (variable k m) e h = absurd e
  symbol_stored (noise k) e h = absurd e
  symbol_stored (tree t) e h = absurd e
  symbol_stored (expectation t) e h = h

  symbols_stored : (ss : List PlainSymbol) → AllByRecursion IsExpectation ss → AllByRecursion (IsTyped ty) ss → AllByRecursion (report.IsExpectation ty) ss
  symbols_stored [] e h = tt
  symbols_stored (s ∷ ss) e h = (symbol_stored s e.0 h.0, symbols_stored ss e.1 h.1)

  terms_stored : (ts : List PlainTerm) → AreOverExpectations ts → AreTyped ty ts →
      AllByRecursion (λ (t : PlainTerm). AllByRecursion (report.IsExpectation ty) t.symbols) ts
  terms_stored [] e h = tt
  terms_stored (t ∷ ts) e h = (symbols_stored t.symbols e.0 h.0, terms_stored ts e.1 h.1)

  pub value_from : (p : Poly) → IsPoly p → AreOverExpectations (terms_of p.terms) → AreTyped ty (terms_of p.terms) → IsValue ty p.mass (terms_of p.terms)
  value_from p poly over typed = record { polynomial = poly; expectations = terms_stored (terms_of p.terms) over typed }
