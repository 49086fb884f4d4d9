-- What is reported of an equation, and what is stored of a tree.
--   IsExpectation ty s == s is the expectation of a tree over the types
--   IsValue ty mass ts == ts are the terms of a polynomial with this mass over such expectations:
--       what is stored as the constant of a tree
--   IsPrinted eq p == the symbols of the polynomial p are named by the equation
--   IsTreeValues eq v == the tree of v can be printed, and so can its constant and its
--       differentials, of which there is one for each unknown
--   AreReportValues eq vs == both rules have one row for each kernel, the completed one over the
--       types of the equation, and each tree has its values
use Rattle.std.specs.Prelude.{◌≡◌, ℤ, List, length}
use Rattle.std.specs.List.{All, AllByRecursion}
use Rattle.degree_numbers.specs.declared.types.Types.{Types}
use Rattle.equations.specs.declared.equation.Equation.{Equation}
use Rattle.normal_rule.specs.Regularity.{HasRows}
use Rattle.normal_rule.specs.Text.{AreKnown}
use Rattle.plain_trees.specs.Degree.{HasTypes}
use Rattle.plain_trees.specs.Plain.{IsSmall}
use Rattle.plain_trees.specs.View.{plain}
use Rattle.symbol_polys.specs.declared.poly.Poly.{Poly}
use Rattle.symbol_polys.specs.Polynomials.{PlainTerm, IsPolynomial}
use Rattle.symbol_polys.specs.Symbols.{PlainSymbol, parameter, variable, noise, tree, expectation}
use Rattle.symbol_polys.specs.Text.{IsTermOver}
use Rattle.symbol_polys.specs.View.{terms_of}
use Rattle.counterterm_report.specs.declared.values.TreeValues.{TreeValues}
use Rattle.counterterm_report.specs.declared.values.ReportValues.{ReportValues}

abbrev pub IsExpectation : Types → PlainSymbol → Type 0
IsExpectation ty (parameter i) = ⊥
IsExpectation ty (variable k m) = ⊥
IsExpectation ty (noise k) = ⊥
IsExpectation ty (tree t) = ⊥
IsExpectation ty (expectation t) = HasTypes ty t

pub record IsValue (ty : Types) (mass : ℤ) (ts : List PlainTerm) : Type 0 where
  pub polynomial : IsPolynomial mass ts
  pub expectations : AllByRecursion (λ t. AllByRecursion (IsExpectation ty) t.symbols) ts

abbrev pub IsPrinted : Equation → Poly → Type 0
IsPrinted eq p = AllByRecursion (IsTermOver eq.types eq.parameters) (terms_of p.terms)

pub record IsTreeValues (eq : Equation) (v : TreeValues) : Type 0 where
  pub types : HasTypes eq.types (plain v.tree)
  pub small : IsSmall (plain v.tree)
  pub constant : IsPrinted eq v.constant
  pub differentials : All (λ d. IsPrinted eq d.poly) v.differentials
  pub each : length v.differentials ≡ length eq.unknowns

pub record AreReportValues (eq : Equation) (vs : ReportValues) : Type 0 where
  pub base : HasRows eq vs.base
  pub completed : HasRows eq vs.completed
  pub known : AreKnown eq.types vs.completed.rows
  pub trees : All (IsTreeValues eq) vs.trees
