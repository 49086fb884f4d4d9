-- Solutions over values that are held: they are known in the sense of the recursion, and over the symbols that they should be over.
use Rattle.std.proofs.Common.{◌≡◌, ℕ, ◌<◌, ◌≤◌, ℤ, true, false, cond, List, [], ◌∷◌, map, inl, inr, Option, Some, None, refl, sym, ap, ◌∙◌, subst, arith}
use Rattle.std.specs.List.{AllByRecursion}
use Rattle.std.specs.Ordering.{is_eq}
use Rattle.ordered_lists.specs.Members.{IsIn}
use Rattle.exact_sums.specs.Saturating.{overflow, saturating_sum}
use Rattle.exact_sums.proofs.SaturatingLaws.{saturating_sum_is}
use Rattle.degree_numbers.specs.declared.types.Types.{Types}
use Rattle.plain_trees.specs.Plain.{Plain, tree_order}
use Rattle.plain_trees.specs.Degree.{HasTypes, is_empty_tree}
use Rattle.plain_trees.specs.Coproducts.{extraction_terms}
use Rattle.tree_pool.specs.Content.{Content, IsGrown, tree_at}
use Rattle.symbol_polys.specs.Symbols.{PlainSymbol, tree, expectation}
use Rattle.symbol_polys.specs.Polynomials.{PlainTerm, monomials, IsPolynomial, HaveSameCoefficients}
use Rattle.symbol_polys.proofs.Collected.{collected-all}
use Rattle.gaussian_pairings.specs.Vanishing.{vanishes}
use Rattle.antipode_laws.specs.Weighed.{Weighed, one, unit, symbol_term, mass_sum, term_mass}
use Rattle.antipode_laws.specs.Antipode.{other_terms, are_in_range, from_smaller, value_at, tree_terms, nothing, IsSolution, IsAntipode}
use Rattle.antipode_laws.specs.Constants.{expected, IsConstants}
use Rattle.antipode_laws.specs.Sameness.{AreSameValues}
use Rattle.antipode_laws.proofs.SameValues.{same_self}
use Rattle.antipode_laws.proofs.TreeSymbols.{AreOver}
use Rattle.antipode_laws.proofs.OverSymbols.{over_solution}
use Rattle.twisted_antipode.specs.declared.quotient.Reading.{Reading}
use Rattle.twisted_antipode.specs.Quotients.{quotient_terms}
use Rattle.twisted_antipode.specs.Held.{Held, held_over, IsExpectation, AreOverExpectations, IsHeldOver, AreHeldOver}
use Rattle.twisted_antipode.specs.Kinds.{IsTyped, AreTyped, IsTreeOver, AreOverTrees, AreHeldTyped}
use Rattle.twisted_antipode.specs.Known.{AreWellHeld, IsGood}
use Rattle.twisted_antipode.proofs.KnownLaws.{held_grown}

-- what is held
pub well_of : (c : Content) (hs : List Held) → AreHeldOver c hs → AreWellHeld c hs
well_of c [] h = tt
well_of c (k ∷ hs) h = (record { known = h.0.known; polynomial = h.0.polynomial; range = h.0.range }, well_of c hs h.1)

pub over_member : (c : Content) (h : Held) (hs : List Held) → AreHeldOver c hs → IsIn h hs → IsHeldOver c h
over_member c h [] over i = absurd i
over_member c h (k ∷ hs) over (inl e) = subst (IsHeldOver c) e over.0
over_member c h (k ∷ hs) over (inr i) = over_member c h hs over.1 i

-- what holds of all values that are held holds of the one for a tree
pub each_held : (P : Weighed → Type 0) (c : Content) (hs : List Held) (t : Plain) (w : Weighed) → AllByRecursion (λ (h : Held). P h.1) hs → held_over c hs t ≡ Some w → P w
each_held P c [] t w all e = absurd cc
each_held P c (k ∷ hs) t w all e =
    (elim (is_eq (tree_order (tree_at c k.0) t)) as (λ b. cond b (Some k.1) (held_over c hs t) ≡ Some w → P w) [
      | true ↦ λ f. (let same : k.1 ≡ w = cc in subst P same all.0)
      | false ↦ λ f. each_held P c hs t w all.1 f
    ]) e

pub ranges : (c : Content) (hs : List Held) → AreWellHeld c hs → AllByRecursion (λ (h : Held). h.1.mass < overflow) hs
ranges c [] h = tt
ranges c (k ∷ hs) h = (h.0.range, ranges c hs h.1)

expectations : (c : Content) (hs : List Held) → AreHeldOver c hs → AllByRecursion (λ (h : Held). AreOverExpectations h.1.terms) hs
expectations c [] h = tt
expectations c (k ∷ hs) h = (h.0.expectations, expectations c hs h.1)

-- a solution has the values that are held
pub has_held : (ty : Types) (of_quotient : Plain → List PlainTerm) (held : Plain → Option Weighed) (a : Plain → Weighed) (t : Plain) (w : Weighed) → IsSolution ty of_quotient held a →
    HasTypes ty t → held t ≡ Some w → a t ≡ w
has_held ty of_quotient held a t w solves typed e = solves t typed ∙ ap (λ (h : Option Weighed). value_at ty of_quotient h a t) e

-- no mass passes the overflow
sum_most : (ns : List ℕ) → saturating_sum ns ≤ overflow
sum_most ns = let is = saturating_sum_is ns in omega (arith, is)

value_most : (ty : Types) (of_quotient : Plain → List PlainTerm) (h : Option Weighed) (a : Plain → Weighed) (t : Plain) → ((w : Weighed) → h ≡ Some w → w.mass ≤ overflow) →
    (value_at ty of_quotient h a t).mass ≤ overflow
value_most ty of_quotient (Some w) a t given = given w refl
value_most ty of_quotient None a t given =
    elim (is_empty_tree t) as (λ b. (cond b unit (from_smaller ty of_quotient a t)).mass ≤ overflow) [
      | true ↦ omega arith
      | false ↦ elim (are_in_range (extraction_terms ty t)) as (λ b. cond b (mass_sum of_quotient a (other_terms ty t)) overflow ≤ overflow) [
        | true ↦ sum_most (map (term_mass of_quotient a) (other_terms ty t))
        | false ↦ omega arith
      ]
    ]

pub good_solution : (r : Reading) (c : Content) (hs : List Held) (a : Plain → Weighed) → AreWellHeld c hs → IsSolution c.types (quotient_terms r c.types) (held_over c hs) a → IsGood r c hs a
good_solution r c hs a well solves =
    let Q = quotient_terms r c.types in
    record {
      entries = λ t w typed e. subst (AreSameValues w) (sym (has_held c.types Q (held_over c hs) a t w solves typed e)) (same_self w);
      most = λ t typed.
          subst (λ (w : Weighed). w.mass ≤ overflow) (sym (solves t typed))
          (value_most c.types Q (held_over c hs t) a t (λ w e. let range = each_held (λ (u : Weighed). u.mass < overflow) c hs t w (ranges c hs well) e in omega (arith, range)));
      solves = λ t typed e. solves t typed ∙ ap (λ (h : Option Weighed). value_at c.types Q h a t) e;
    }

-- constants over a grown pool are those over the pool
pub constants_before : (c d : Content) (hs : List Held) (a : Plain → Weighed) → IsGrown c d → AreWellHeld c hs → IsConstants d.types (held_over d hs) a → IsConstants c.types (held_over c hs) a
constants_before c d hs a g well solves t typed =
    subst (λ (ty : Types). a t ≡ value_at ty (expected ty) (held_over c hs t) a t) g.types
    (solves t (subst (λ (ty : Types). HasTypes ty t) (sym g.types) typed) ∙ ap (λ (h : Option Weighed). value_at d.types (expected d.types) h a t) (held_grown c d hs t g well))

-- symbols of values
expected_over : (ty : Types) (q : Plain) → AreOver IsExpectation (expected ty q)
expected_over ty q =
    elim (vanishes ty q) as (λ b. AreOver IsExpectation (cond b [] (cond (is_empty_tree q) one (symbol_term (expectation q))))) [
      | true ↦ tt
      | false ↦ elim (is_empty_tree q) as (λ b. AreOver IsExpectation (cond b one (symbol_term (expectation q)))) [ true ↦ (tt, tt) | false ↦ ((tt, tt), tt) ]
    ]

expected_typed : (ty : Types) (q : Plain) → HasTypes ty q → AreOver (IsTyped ty) (expected ty q)
expected_typed ty q typed =
    elim (vanishes ty q) as (λ b. AreOver (IsTyped ty) (cond b [] (cond (is_empty_tree q) one (symbol_term (expectation q))))) [
      | true ↦ tt
      | false ↦ elim (is_empty_tree q) as (λ b. AreOver (IsTyped ty) (cond b one (symbol_term (expectation q)))) [ true ↦ (tt, tt) | false ↦ ((typed, tt), tt) ]
    ]

trees_over : (ty : Types) (q : Plain) → HasTypes ty q → AreOver (IsTreeOver ty) (tree_terms q)
trees_over ty q typed = elim (is_empty_tree q) as (λ b. AreOver (IsTreeOver ty) (cond b one (symbol_term (tree q)))) [ true ↦ (tt, tt) | false ↦ ((typed, tt), tt) ]

pub constants_over : (c : Content) (hs : List Held) (a : Plain → Weighed) (t : Plain) → AreHeldOver c hs → IsConstants c.types (held_over c hs) a → HasTypes c.types t → AreOverExpectations (a t).terms
constants_over c hs a t over solves typed =
    over_solution IsExpectation c.types (expected c.types) a (λ q k. expected_over c.types q) (held_over c hs)
    (λ s w e. each_held (λ (u : Weighed). AreOverExpectations u.terms) c hs s w (expectations c hs over) e) solves t typed

pub constants_typed : (c : Content) (hs : List Held) (a : Plain → Weighed) (t : Plain) → AreHeldTyped c.types hs → IsConstants c.types (held_over c hs) a → HasTypes c.types t → AreTyped c.types (a t).terms
constants_typed c hs a t over solves typed =
    over_solution (IsTyped c.types) c.types (expected c.types) a (expected_typed c.types) (held_over c hs)
    (λ s w e. each_held (λ (u : Weighed). AreTyped c.types u.terms) c hs s w over e) solves t typed

pub antipode_over : (ty : Types) (a : Plain → Weighed) (t : Plain) → IsAntipode ty a → HasTypes ty t → AreOverTrees ty (a t).terms
antipode_over ty a t solves typed = over_solution (IsTreeOver ty) ty tree_terms a (trees_over ty) nothing (λ s w e. absurd cc) solves t typed

-- a polynomial has no symbols but those of its terms as they come
to_monomials : (P : PlainSymbol → Type 0) (ts : List PlainTerm) → AreOver P ts → AllByRecursion (λ (m : List PlainSymbol). AllByRecursion P m) (monomials ts)
to_monomials P [] h = tt
to_monomials P (t ∷ ts) h = (h.0, to_monomials P ts h.1)

from_monomials : (P : PlainSymbol → Type 0) (ts : List PlainTerm) → AllByRecursion (λ (m : List PlainSymbol). AllByRecursion P m) (monomials ts) → AreOver P ts
from_monomials P [] h = tt
from_monomials P (t ∷ ts) h = (h.0, from_monomials P ts h.1)

pub collected_over : (P : PlainSymbol → Type 0) (mass : ℤ) (ts us : List PlainTerm) → IsPolynomial mass ts → HaveSameCoefficients ts us → AreOver P us → AreOver P ts
collected_over P mass ts us poly same over = from_monomials P ts (collected-all (λ (m : List PlainSymbol). AllByRecursion P m) mass ts us poly same (to_monomials P us over))
