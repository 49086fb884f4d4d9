-- Constants that are held, by the numbers of their trees, and what calls answer.
--   Held == the number of a tree, and a value
--   held_code == a code for it
--   weighed_of p == the value that the polynomial p is
--   held_in es == the entries es of a map, as contracts see them
--   ArePolys es == the polynomials of the entries es are in order
--   with_held hs i w == hs with the value w for the number i: in the place of that which was there,
--       or behind the others
--   IsHeld hs i == some value is held for the number i
--   held_over c hs == the values that are held, by tree
--   IsExpectation s == s is the expectation of a tree
--   AreOverExpectations ts == all symbols of the terms ts are expectations
--   IsHeldOver c h == the number is that of a tree of the pool, and the value is a polynomial over
--       expectations, with a mass in range
--   AreHeldOver c hs == so is each of hs
--   IsExtended c old new == new holds what old holds, and besides it only constants of their trees;
--       what it holds for a tree is the constant of that tree over old
--   IsAntipodeRefused ty t e == why there is no antipode of t: its mass is out of range
--   IsConstantRefused ty held t e == why there is no constant of t: it is not held, and a
--       coefficient of its extraction coproduct is out of range, or else its mass is
use Rattle.std.specs.Prelude.{◌≡◌, ◌≤◌, ◌<◌, ◌⊎◌, ℕ, ◌==◌, true, false, if◌then◌else◌, unsigned_abs, pos, refl, List, [], ◌∷◌, map, length, Option, Some, None, ⊤}
use Rattle.std.specs.Coded.{Coded, code_by, coded×, coded_list, coded_ℕ}
use Rattle.std.specs.List.{AllByRecursion}
use Rattle.std.specs.Ordering.{is_eq}
use Rattle.exact_sums.specs.Saturating.{overflow}
use Rattle.ordered_lists.specs.Members.{IsIn}
use Rattle.degree_numbers.specs.declared.types.Types.{Types}
use Rattle.plain_trees.specs.Plain.{Plain, tree_order}
use Rattle.plain_trees.specs.Coproducts.{extraction_terms}
use Rattle.plain_trees.specs.Degree.{HasTypes}
use Rattle.tree_pool.specs.Content.{Content, tree_at}
use Rattle.tree_pool.specs.declared.TreeId.{TreeId}
use Rattle.symbol_polys.specs.declared.poly.Poly.{Poly}
use Rattle.symbol_polys.specs.Symbols.{PlainSymbol, parameter, variable, noise, tree, expectation}
use Rattle.symbol_polys.specs.Code.{term_code}
use Rattle.symbol_polys.specs.Polynomials.{PlainTerm, IsPolynomial}
use Rattle.symbol_polys.specs.View.{terms_of, IsPoly}
use Rattle.antipode_laws.specs.Weighed.{Weighed}
use Rattle.antipode_laws.specs.Antipode.{are_in_range, IsAntipode}
use Rattle.antipode_laws.specs.Constants.{IsConstants}
use Rattle.antipode_laws.specs.Sameness.{AreSameValues}
use Rattle.twisted_antipode.specs.declared.error.Quantity.TheVariants.{Extraction, Antipode, Constant}
use Rattle.twisted_antipode.specs.declared.error.AntipodeError.{AntipodeError}
use Rattle.twisted_antipode.specs.declared.error.AntipodeError.TheVariants.{CoefficientTooLarge, Memory}

abbrev pub Held : Type 0
Held = ℕ × Weighed

abbrev pub held_code : Coded Held
held_code =
    code_by (ℕ × (List PlainTerm × ℕ)) (coded× coded_ℕ (coded× (coded_list term_code) coded_ℕ))
    (λ h. (h.0, (h.1.terms, h.1.mass)))
    (λ p. (p.0, record { terms = p.1.0; mass = p.1.1 }))
    (λ _. refl)

abbrev pub weighed_of : Poly → Weighed
weighed_of p = record { terms = terms_of p.terms; mass = unsigned_abs p.mass }

abbrev pub held_in : List (TreeId × Poly) → List Held
held_in = map (λ e. (e.0.0, weighed_of e.1))

abbrev pub ArePolys : List (TreeId × Poly) → Type 0
ArePolys es = AllByRecursion (λ e. IsPoly e.1) es

abbrev pub with_held : List Held → ℕ → Weighed → List Held
with_held [] i w = (i, w) ∷ []
with_held (h ∷ hs) i w = if i == h.0 then (h.0, w) ∷ hs else h ∷ with_held hs i w

abbrev pub IsHeld : List Held → ℕ → Type 0
IsHeld hs i = IsIn i (map (λ h. h.0) hs)

abbrev pub held_over : Content → List Held → Plain → Option Weighed
held_over c [] t = None
held_over c (h ∷ hs) t = if is_eq (tree_order (tree_at c h.0) t) then Some h.1 else held_over c hs t

abbrev pub IsExpectation : PlainSymbol → Type 0
IsExpectation (parameter i) = ⊥
IsExpectation (variable k m) = ⊥
IsExpectation (noise k) = ⊥
IsExpectation (tree t) = ⊥
IsExpectation (expectation t) = ⊤

abbrev pub AreOverExpectations : List PlainTerm → Type 0
AreOverExpectations ts = AllByRecursion (λ t. AllByRecursion IsExpectation t.symbols) ts

pub record IsHeldOver (c : Content) (h : Held) : Type 0 where
  pub known : h.0 < length c.trees
  pub polynomial : IsPolynomial (pos h.1.mass) h.1.terms
  pub range : h.1.mass < overflow
  pub expectations : AreOverExpectations h.1.terms

abbrev pub AreHeldOver : Content → List Held → Type 0
AreHeldOver c hs = AllByRecursion (IsHeldOver c) hs

pub record IsExtended (c : Content) (old new : List Held) : Type 0 where
  pub kept : (h : Held) → IsIn h old → IsIn h new
  pub added : (a : Plain → Weighed) → IsConstants c.types (held_over c old) a → (h : Held) →
      IsIn h new → IsIn h old ⊎ AreSameValues h.1 (a (tree_at c h.0))
  pub values : (a : Plain → Weighed) → IsConstants c.types (held_over c old) a →
      (t : Plain) (w : Weighed) → HasTypes c.types t → held_over c new t ≡ Some w →
      AreSameValues w (a t)

abbrev pub IsAntipodeRefused : Types → Plain → AntipodeError → Type 0
IsAntipodeRefused ty t Memory = ⊤
IsAntipodeRefused ty t (CoefficientTooLarge Extraction) = ⊥
IsAntipodeRefused ty t (CoefficientTooLarge Antipode) =
    (a : Plain → Weighed) → IsAntipode ty a → overflow ≤ (a t).mass
IsAntipodeRefused ty t (CoefficientTooLarge Constant) = ⊥

abbrev pub IsConstantRefused : Types → (Plain → Option Weighed) → Plain → AntipodeError → Type 0
IsConstantRefused ty held t Memory = ⊤
IsConstantRefused ty held t (CoefficientTooLarge Extraction) =
    (held t ≡ None) × (are_in_range (extraction_terms ty t) ≡ false)
IsConstantRefused ty held t (CoefficientTooLarge Antipode) = ⊥
IsConstantRefused ty held t (CoefficientTooLarge Constant) =
    (held t ≡ None) × (are_in_range (extraction_terms ty t) ≡ true)
    × ((c : Plain → Weighed) → IsConstants ty held c → overflow ≤ (c t).mass)
