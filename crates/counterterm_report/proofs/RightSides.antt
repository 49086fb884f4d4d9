-- The right sides of an equation: their terms have monomials, their sums are in range, and their
-- symbols are those of the equation.
use Rattle.std.proofs.Common.{◌≡◌, ℕ, zero, suc, ◌*◌, ◌<◌, ◌≤◌, ◌==◌, ℤ, pos, Bool, true, false, cond, List, [], ◌∷◌, length, map, Some, None, Option, Ok, Err, Result, arith, refl, ap, subst, ◌∙◌, unsigned_abs}
use Rattle.std.specs.Prelude.{option_map, slice_get, IfOk, IfErr, IsOkUnless}
use Rattle.std.specs.List.{All, AllByRecursion}
use Rattle.std.proofs.lemmas.Int.{ints}
use Rattle.std.proofs.lemmas.List.Elements.{All-head, All-tail}
use Rattle.degree_numbers.specs.declared.types.Types.{Types}
use Rattle.degree_numbers.specs.declared.types.TypeEntry.{TypeEntry}
use Rattle.degree_numbers.specs.declared.types.Kind.{Kind}
use Rattle.degree_numbers.specs.declared.types.Kind.TheVariants.{Noise, Kernel}
use Rattle.degree_numbers.specs.Types.{kind_of}
use Rattle.exact_sums.specs.Saturating.{overflow}
use Rattle.equations.specs.Accepted.{IsEquation, IsUnknown, IsRightTerm, IsFactor}
use Rattle.equations.specs.EdgeTypes.{EdgeType}
use Rattle.equations.specs.declared.equation.Equation.{Equation}
use Rattle.equations.specs.declared.equation.RightTerm.{RightTerm}
use Rattle.equations.specs.declared.equation.Unknown.{Unknown}
use Rattle.symbol_polys.specs.Symbols.{PlainSymbol, parameter, IsMonomial}
use Rattle.symbol_polys.specs.Polynomials.{PlainTerm, monomials, size_of, HaveSameCoefficients, IsPolynomial, IsSumOf, IsRefused}
use Rattle.symbol_polys.specs.Products.{monomial_product}
use Rattle.symbol_polys.specs.Text.{IsOver, IsTermOver}
use Rattle.symbol_polys.specs.View.{terms_of, IsPoly}
use Rattle.symbol_polys.specs.declared.poly.Poly.{Poly}
use Rattle.symbol_polys.specs.declared.error.PolyError.{PolyError}
use Rattle.symbol_polys.specs.declared.error.PolyError.TheVariants.{CoefficientTooLarge, PolyText, Memory}
use Rattle.symbol_polys.proofs.Collected.{collected-all}
use Rattle.symbol_polys.proofs.MonomialLaws.{all-monomial_product}
use Rattle.elementary_diff.specs.Differentials.{symbol_by, factor_symbol, right_term, side_of, right_terms}
use Rattle.elementary_diff.proofs.Rooms.{right-monomial}
use Rattle.counterterm_report.specs.Values.{IsPrinted}

-- monomials
rights-monomials : (ty : Types) (ts : List RightTerm) → AllByRecursion IsMonomial (monomials (map (right_term ty) ts))
rights-monomials ty [] = tt
rights-monomials ty (t ∷ ts) = (right-monomial ty t.parameters t.factors, rights-monomials ty ts)

side-monomials : (ty : Types) (k : ℕ) (us : List Unknown) → AllByRecursion IsMonomial (monomials (side_of ty us k))
side-monomials ty k [] = tt
side-monomials ty k (u ∷ us) =
    elim (u.kernel.0 == k) as (λ (b : Bool). AllByRecursion IsMonomial (monomials (cond b (map (right_term ty) u.right) (side_of ty us k)))) [ true ↦ rights-monomials ty u.right | false ↦ side-monomials ty k us ]

pub right-monomials : (eq : Equation) (k : ℕ) → AllByRecursion IsMonomial (monomials (right_terms eq k))
right-monomials eq k = side-monomials eq.types k eq.unknowns

-- sizes
rights-size : (ty : Types) (count : ℕ) (ts : List RightTerm) → All (IsRightTerm ty count) ts → size_of (map (right_term ty) ts) ≤ length ts * 64000000000000
rights-size ty count [] h = omega arith
rights-size ty count (t ∷ ts) h =
    let first : unsigned_abs t.coefficient ≤ 64000000000000 = (All-head (IsRightTerm ty count) t ts h).bounded in
    omega (arith, first, rights-size ty count ts (All-tail (IsRightTerm ty count) t ts h))

side-size : (ty : Types) (count k : ℕ) (us : List Unknown) → All (IsUnknown ty count) us → size_of (side_of ty us k) < overflow
side-size ty count k [] h = omega arith
side-size ty count k (u ∷ us) h =
    let first = All-head (IsUnknown ty count) u us h in
    let few : length u.right ≤ 64 = first.few in
    elim (u.kernel.0 == k) as (λ (b : Bool). size_of (cond b (map (right_term ty) u.right) (side_of ty us k)) < overflow) [
      | true ↦ omega (arith, few, rights-size ty count u.right first.terms)
      | false ↦ side-size ty count k us (All-tail (IsUnknown ty count) u us h)
    ]

pub right-size : (eq : Equation) (k : ℕ) → IsEquation eq → size_of (right_terms eq k) < overflow
right-size eq k h = side-size eq.types (length eq.parameters) k eq.unknowns h.unknowns

-- symbols
no-kind : (es : List TypeEntry) (k : ℕ) → k < length es → option_map (λ e. e.kind) (slice_get es k) ≡ None → ⊥
no-kind [] k h e = absurd (omega (arith, h))
no-kind (x ∷ es) zero h e = absurd cc
no-kind (x ∷ es) (suc k) h e = no-kind es k (omega (arith, h)) e

module _ (ty : Types) (ps : List (List ℕ)) where
  abbrev Over : List PlainSymbol → Type 0
  Over m = AllByRecursion (IsOver ty ps) m

  over-factor : (f : EdgeType) → IsFactor ty f → IsOver ty ps (factor_symbol ty f)
  over-factor f h = at (kind_of ty f.0.0) refl
    where
      at : (o : Option Kind) → kind_of ty f.0.0 ≡ o → IsOver ty ps (symbol_by o f.0.0 f.1.entries)
      at None e = absurd (no-kind ty.list f.0.0 h.known e)
      at (Some Noise) e = e
      at (Some Kernel) e = (e, h.derivative)

  over-factors : (fs : List EdgeType) → All (IsFactor ty) fs → Over (map (factor_symbol ty) fs)
  over-factors [] h = tt
  over-factors (f ∷ fs) h = (over-factor f (All-head (IsFactor ty) f fs h), over-factors fs (All-tail (IsFactor ty) f fs h))

  over-parameters : (qs : List ℕ) → All (λ q. q < length ps) qs → Over (map parameter qs)
  over-parameters [] h = tt
  over-parameters (q ∷ qs) h = (All-head (λ q. q < length ps) q qs h, over-parameters qs (All-tail (λ q. q < length ps) q qs h))

  over-right : (t : RightTerm) → IsRightTerm ty (length ps) t → Over (right_term ty t).symbols
  over-right t h =
      let factors = map (factor_symbol ty) t.factors in
      all-monomial_product (IsOver ty ps) (map parameter t.parameters) (monomial_product factors []) (over-parameters t.parameters h.parameters_known)
      (all-monomial_product (IsOver ty ps) factors [] (over-factors t.factors h.factors_known) tt)

  over-rights : (ts : List RightTerm) → All (IsRightTerm ty (length ps)) ts → AllByRecursion Over (monomials (map (right_term ty) ts))
  over-rights [] h = tt
  over-rights (t ∷ ts) h = (over-right t (All-head (IsRightTerm ty (length ps)) t ts h), over-rights ts (All-tail (IsRightTerm ty (length ps)) t ts h))

  over-side : (k : ℕ) (us : List Unknown) → All (IsUnknown ty (length ps)) us → AllByRecursion Over (monomials (side_of ty us k))
  over-side k [] h = tt
  over-side k (u ∷ us) h =
      elim (u.kernel.0 == k) as (λ (b : Bool). AllByRecursion Over (monomials (cond b (map (right_term ty) u.right) (side_of ty us k)))) [
        | true ↦ over-rights u.right (All-head (IsUnknown ty (length ps)) u us h).terms
        | false ↦ over-side k us (All-tail (IsUnknown ty (length ps)) u us h)
      ]

  over-terms : (ts : List PlainTerm) → AllByRecursion IsMonomial (monomials ts) → AllByRecursion Over (monomials ts) → AllByRecursion (IsTermOver ty ps) ts
  over-terms [] h o = tt
  over-terms (t ∷ ts) h o = (record { over = o.0; trees = h.0.trees }, over-terms ts h.1 o.1)

pub right-printed : (eq : Equation) (k : ℕ) (mass : ℤ) (ts : List PlainTerm) → IsEquation eq →
    IsPolynomial mass ts → HaveSameCoefficients ts (right_terms eq k) →
    AllByRecursion (IsTermOver eq.types eq.parameters) ts
right-printed eq k mass ts h p same =
    over-terms eq.types eq.parameters ts p.each
    (collected-all (λ m. AllByRecursion (IsOver eq.types eq.parameters) m) mass ts (right_terms eq k) p same (over-side eq.types eq.parameters k eq.unknowns h.unknowns))

pub right-sum : (eq : Equation) (k : ℕ) (mass : ℤ) (ts : List PlainTerm) → IsPolynomial mass ts →
    HaveSameCoefficients ts (right_terms eq k) → mass ≡ pos (size_of (right_terms eq k)) →
    IsSumOf (right_terms eq k) ts
right-sum eq k mass ts p same is = record {
  ascending = p.ascending;
  not_zero = p.not_zero;
  coefficients = same;
  size = omega (arith, ints, p.within, is);
}

-- what the call answers
pub sum_is : (eq : Equation) (k : ℕ) (us : List PlainTerm) (r : Result Poly PolyError) →
    us ≡ right_terms eq k → IfOk r IsPoly →
    IfOk r (λ p. HaveSameCoefficients (terms_of p.terms) us) →
    IfOk r (λ p. p.mass ≡ pos (size_of us))
    → IfOk r (λ p. IsSumOf (right_terms eq k) (terms_of p.terms))
sum_is eq k us (Ok p) is h same mass =
    right-sum eq k p.mass (terms_of p.terms) h (subst (λ ts. HaveSameCoefficients (terms_of p.terms) ts) is same) (mass ∙ ap (λ ts. pos (size_of ts)) is)
sum_is eq k us (Err e) is h same mass = tt

pub printed_is : (eq : Equation) (k : ℕ) (us : List PlainTerm) (r : Result Poly PolyError) →
    IsEquation eq → us ≡ right_terms eq k → IfOk r IsPoly →
    IfOk r (λ p. HaveSameCoefficients (terms_of p.terms) us) → IfOk r (IsPrinted eq)
printed_is eq k us (Ok p) h is poly same = right-printed eq k p.mass (terms_of p.terms) h poly (subst (λ ts. HaveSameCoefficients (terms_of p.terms) ts) is same)
printed_is eq k us (Err e) h is poly same = tt

pub memory_alone : (eq : Equation) (k : ℕ) (us : List PlainTerm) (r : Result Poly PolyError) →
    IsEquation eq → us ≡ right_terms eq k → IfErr r (IsRefused (overflow ≤ size_of us)) →
    IsOkUnless r Memory
memory_alone eq k us (Ok p) h is refused = tt
memory_alone eq k us (Err CoefficientTooLarge) h is refused = absurd (omega (arith, right-size eq k h, subst (λ ts. overflow ≤ size_of ts) is refused))
memory_alone eq k us (Err PolyText) h is refused = absurd refused
memory_alone eq k us (Err Memory) h is refused = refl
