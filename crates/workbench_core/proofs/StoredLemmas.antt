-- The constants of a report are what is stored: polynomials over expectations of trees over the
-- types.
use Rattle.std.proofs.Common.{◌≡◌, inl, inr, ℤ, List, [], ◌∷◌, Option, subst}
use Rattle.std.specs.List.{All, AllByRecursion}
use Rattle.ordered_lists.specs.Members.{IsIn}
use Rattle.ordered_lists.proofs.Members.{all_at, all_from_members}
use Rattle.degree_numbers.specs.declared.types.Types.{Types}
use Rattle.equations.specs.declared.equation.Equation.{Equation}
use Rattle.plain_trees.specs.Plain.{Plain}
use Rattle.plain_trees.specs.Degree.{HasTypes}
use Rattle.tree_pool.specs.Content.{Content}
use Rattle.symbol_polys.specs.declared.poly.Poly.{Poly}
use Rattle.symbol_polys.specs.Symbols.{PlainSymbol, parameter, variable, noise, tree, expectation}
use Rattle.symbol_polys.specs.Polynomials.{PlainTerm}
use Rattle.symbol_polys.specs.View.{terms_of, IsPoly}
use Rattle.antipode_laws.specs.Weighed.{Weighed}
use Rattle.antipode_laws.specs.Constants.{expected, IsConstants}
use Rattle.antipode_laws.proofs.Solutions.{solution, is_solution}
use Rattle.twisted_antipode.specs.Held.{Held, held_over, AreHeldOver, IsExpectation, AreOverExpectations}
use Rattle.twisted_antipode.specs.Kinds.{IsTyped, AreTyped, AreHeldTyped}
use Rattle.twisted_antipode.specs.Values.{IsPolyOf}
use Rattle.twisted_antipode.proofs.SolutionLaws.{constants_over, constants_typed, collected_over}
use Rattle.counterterm_report.specs.declared.TreeValues.{TreeValues}
use Rattle.counterterm_report.specs.Values.{IsValue, IsTreeValues}
use Rattle.counterterm_report.specs.Values as report
use Rattle.tree_values.specs.Values.{IsValuesOf, AreValuesOf}

module _ (ty : Types) where
  symbol_stored : (s : PlainSymbol) → IsExpectation s → IsTyped ty s → report.IsExpectation ty s
  symbol_stored (parameter i) e h = absurd e
  symbol_stored (variable k m) e h = absurd e
  symbol_stored (noise k) e h = absurd e
  symbol_stored (tree t) e h = absurd e
  symbol_stored (expectation t) e h = h

  symbols_stored : (ss : List PlainSymbol) → AllByRecursion IsExpectation ss → AllByRecursion (IsTyped ty) ss → AllByRecursion (report.IsExpectation ty) ss
  symbols_stored [] e h = tt
  symbols_stored (s ∷ ss) e h = (symbol_stored s e.0 h.0, symbols_stored ss e.1 h.1)

  terms_stored : (ts : List PlainTerm) → AreOverExpectations ts → AreTyped ty ts → AllByRecursion (λ (t : PlainTerm). AllByRecursion (report.IsExpectation ty) t.symbols) ts
  terms_stored [] e h = tt
  terms_stored (t ∷ ts) e h = (symbols_stored t.symbols e.0 h.0, terms_stored ts e.1 h.1)

-- the constant of one tree
constant_stored : (pool : Content) (hs : List Held) (k : Plain → Weighed) (t : Plain) (p : Poly) → AreHeldOver pool hs → AreHeldTyped pool.types hs → IsConstants pool.types (held_over pool hs) k →
    HasTypes pool.types t → IsPoly p → IsPolyOf (k t) p → IsValue pool.types p.mass (terms_of p.terms)
constant_stored pool hs k t p over typed solves has poly value =
    let symbols = collected_over IsExpectation p.mass (terms_of p.terms) (k t).terms poly value.coefficients (constants_over pool hs k t over solves has) in
    let types = collected_over (IsTyped pool.types) p.mass (terms_of p.terms) (k t).terms poly value.coefficients (constants_typed pool hs k t typed solves has) in
    record { polynomial = poly; expectations = terms_stored pool.types (terms_of p.terms) symbols types }

module _ (eq : Equation) (held : Plain → Option Weighed) (k : Plain → Weighed) where
  record HasTree (v : TreeValues) : Type 0 where
    tree : Plain
    values : IsValuesOf eq k tree v

  tree_of : (ts : List Plain) (vs : List TreeValues) (v : TreeValues) → AreValuesOf eq held k ts vs → IsIn v vs → HasTree v
  tree_of [] [] v h i = absurd i
  tree_of [] (w ∷ vs) v h i = absurd h
  tree_of (t ∷ ts) [] v h i = absurd h
  tree_of (t ∷ ts) (w ∷ vs) v h i = elim i [ inl e ↦ record { tree = t; values = subst (IsValuesOf eq k t) e h.1 } | inr j ↦ tree_of ts vs v h.2 j ]

-- of all trees
pub all_stored : (eq : Equation) (pool : Content) (hs : List Held) (ts : List Plain) (vs : List TreeValues) → pool.types ≡ eq.types → AreHeldOver pool hs → AreHeldTyped eq.types hs →
    ((k : Plain → Weighed) → IsConstants eq.types (held_over pool hs) k → AreValuesOf eq (held_over pool hs) k ts vs) → All (IsTreeValues eq) vs →
    All (λ v. IsValue eq.types v.constant.mass (terms_of v.constant.terms)) vs
all_stored eq pool hs ts vs types over typed says printed =
    let held = held_over pool hs in
    let k = solution eq.types (expected eq.types) held in
    let solves = is_solution eq.types (expected eq.types) held in
    all_from_members (λ (v : TreeValues). IsValue eq.types v.constant.mass (terms_of v.constant.terms)) vs
    (λ v i.
    let from = tree_of eq held k ts vs v (says k solves) i in
    let has = subst (HasTypes eq.types) from.values.tree (all_at (IsTreeValues eq) vs v printed i).types in
    (subst (λ (ty : Types). AreHeldTyped ty hs → IsConstants ty held k → HasTypes ty from.tree → IsValue ty v.constant.mass (terms_of v.constant.terms)) types
    (λ typing solving having. constant_stored pool hs k from.tree v.constant over typing solving having from.values.polynomial from.values.constant)) typed solves has)
