-- The definition is evaluated, and like terms are collected.
use Rattle.std.proofs.Common.{◌≡◌, ℤ, List, [], ◌∷◌, refl, sym, ap, ◌∙◌}
use Rattle.std.specs.List.{AllByRecursion}
use Rattle.equations.specs.declared.Equation.{Equation}
use Rattle.plain_trees.specs.Plain.{Plain}
use Rattle.symbol_polys.specs.Polynomials.{PlainTerm, coefficient_of, HaveSameCoefficients}
use Rattle.symbol_polys.proofs.LinearLaws.{normal, coefficient_of-normal}
use Rattle.elementary_diff.specs.Differentials.{differential_terms}
use Rattle.rule_examples.specs.Known.{kpz_equation, phi43_equation}
use Rattle.differential_examples.specs.Rows.{kpz_rows, derivative_rows, phi43_rows, AreRows}

collected : (ts us : List PlainTerm) → normal ts ≡ us → HaveSameCoefficients ts us
collected ts us h = λ m. sym (coefficient_of-normal m ts) ∙ ap (coefficient_of m) h

all_collected : (eq : Equation) (rows : List (Plain × List PlainTerm)) → AllByRecursion (λ r. normal (differential_terms eq 1 r.0) ≡ r.1) rows → AreRows eq rows
all_collected eq [] h = tt
all_collected eq (r ∷ rs) h = (collected (differential_terms eq 1 r.0) r.1 h.0, all_collected eq rs h.1)

pub kpz_are : (a : ℤ) → AreRows (kpz_equation a) kpz_rows
kpz_are a = all_collected (kpz_equation a) kpz_rows (refl, (refl, (refl, (refl, (refl, (refl, (refl, (refl, (refl, tt)))))))))

pub derivatives_are : (a : ℤ) → AreRows (kpz_equation a) derivative_rows
derivatives_are a = all_collected (kpz_equation a) derivative_rows (refl, (refl, (refl, (refl, (refl, (refl, tt))))))

pub phi43_are : (a : ℤ) → AreRows (phi43_equation a) phi43_rows
phi43_are a = all_collected (phi43_equation a) phi43_rows (refl, (refl, (refl, tt)))
