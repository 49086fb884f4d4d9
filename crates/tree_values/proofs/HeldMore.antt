-- What is out of range stays so, and values stay the same, where constants are held besides.
use Rattle.std.proofs.Common.{◌≡◌, ◌<◌, ◌⊎◌, inl, inr, true, false, cond, pos, List, [], ◌∷◌, refl, sym, ap, ◌∙◌, subst, arith, Option, Some, None}
use Rattle.std.specs.Ordering.{is_eq}
use Rattle.exact_sums.specs.Saturating.{overflow}
use Rattle.equations.specs.declared.Equation.{Equation}
use Rattle.plain_trees.specs.Plain.{Plain, tree_order}
use Rattle.plain_trees.specs.Degree.{HasTypes}
use Rattle.symbol_polys.specs.declared.Poly.{Poly}
use Rattle.antipode_laws.specs.Weighed.{Weighed}
use Rattle.antipode_laws.specs.Constants.{expected, IsConstants}
use Rattle.antipode_laws.specs.Sameness.{AreSameValues, IsSameHeld, IsHeldValue}
use Rattle.antipode_laws.proofs.SameValues.{same_solutions}
use Rattle.tree_pool.specs.Content.{Content, tree_at}
use Rattle.counterterm_report.specs.declared.TreeValues.{TreeValues}
use Rattle.twisted_antipode.specs.Values.{IsPolyOf}
use Rattle.twisted_antipode.specs.Held.{Held, held_over, AreHeldOver}
use Rattle.tree_values.specs.declared.quantity.Quantity.{Quantity}
use Rattle.tree_values.specs.declared.quantity.Quantity.TheVariants.{Extraction, Recentring, Antipode, Constant, Differential, Denominator}
use Rattle.tree_values.specs.Quantities.{quantities}
use Rattle.tree_values.specs.Ranges.{IsPast, IsFirstPast, IsInRange}
use Rattle.tree_values.specs.Values.{IsValuesOf}
use Rattle.tree_values.proofs.Firsts.{range_same, first_same}
use Rattle.tree_values.proofs.Ranges.{large_mass}

-- values that are the same
same_trans : (u v w : Weighed) → AreSameValues u v → AreSameValues v w → AreSameValues u w
same_trans u v w h k = record { coefficients = λ m. h.coefficients m ∙ k.coefficients m; mass = h.mass ∙ k.mass }

same_back : (u v : Weighed) → AreSameValues u v → AreSameValues v u
same_back u v h = record { coefficients = λ m. sym (h.coefficients m); mass = sym h.mass }

same_poly : (u v : Weighed) (p : Poly) → AreSameValues u v → IsPolyOf v p → IsPolyOf u p
same_poly u v p h k = record { coefficients = λ m. k.coefficients m ∙ sym (h.coefficients m); mass = k.mass ∙ ap pos (sym h.mass) }

none_before : (h k : Option Weighed) (w : Weighed) → IsSameHeld h k ⊎ IsHeldValue k w → k ≡ None → h ≡ None
none_before None k w e none = refl
none_before (Some u) None w (inl e) none = absurd e
none_before (Some u) None w (inr e) none = absurd e
none_before (Some u) (Some v) w e none = absurd cc

module _ (eq : Equation) (held more : Plain → Option Weighed) (c d : Plain → Weighed) (solves : IsConstants eq.types held c) (also : IsConstants eq.types more d)
    (extends : (t : Plain) → HasTypes eq.types t → IsSameHeld (held t) (more t) ⊎ IsHeldValue (more t) (c t))
    (range : (t : Plain) (w : Weighed) → more t ≡ Some w → w.mass < overflow) where
  pub same_constants : (t : Plain) → HasTypes eq.types t → AreSameValues (c t) (d t)
  same_constants = same_solutions c d (expected eq.types) eq.types held more solves also extends

  module _ (t : Plain) (typed : HasTypes eq.types t) where
    mass_in_range : (w : Weighed) → more t ≡ Some w → (c t).mass < overflow
    mass_in_range w e =
        let same = (same_constants t typed).mass in
        let value : d t ≡ w = also t typed ∙ rw e refl in
        let fits = range t w e in
        let mass : (d t).mass ≡ w.mass = ap (λ (u : Weighed). u.mass) value in
        omega (arith, same, fits, mass)

    coefficients_past : (o : Option Weighed) → more t ≡ o → IsPast eq held c t Extraction → IsPast eq more d t Extraction
    coefficients_past None e h = (e, h.1)
    coefficients_past (Some w) e h =
        let large = large_mass eq.types held c t solves typed h.0 h.1 in
        let fits = mass_in_range w e in
        absurd (omega (arith, large, fits))

    mass_past : (o : Option Weighed) → more t ≡ o → IsPast eq held c t Constant → IsPast eq more d t Constant
    mass_past None e h = (e, (let large = h.1 in let same = (same_constants t typed).mass in omega (arith, large, same)))
    mass_past (Some w) e h = let large = h.1 in let fits = mass_in_range w e in absurd (omega (arith, large, fits))

    past_to : (q : Quantity) → IsPast eq held c t q → IsPast eq more d t q
    past_to Extraction h = coefficients_past (more t) refl h
    past_to Recentring h = h
    past_to Antipode h = h
    past_to Constant h = mass_past (more t) refl h
    past_to (Differential kernel) h = h
    past_to (Denominator kernel) h = h

    before : more t ≡ None → held t ≡ None
    before = none_before (held t) (more t) (c t) (extends t typed)

    past_from : (q : Quantity) → IsPast eq more d t q → IsPast eq held c t q
    past_from Extraction h = (before h.0, h.1)
    past_from Recentring h = h
    past_from Antipode h = h
    past_from Constant h = (before h.0, (let large = h.1 in let same = (same_constants t typed).mass in omega (arith, large, same)))
    past_from (Differential kernel) h = h
    past_from (Denominator kernel) h = h

    pub in_range_before : IsInRange eq more d t → IsInRange eq held c t
    in_range_before h = range_same (IsPast eq more d t) (IsPast eq held c t) past_from past_to (quantities eq) h

    pub first_before : (q : Quantity) → IsFirstPast eq more d t q → IsFirstPast eq held c t q
    first_before q h = first_same (IsPast eq more d t) (IsPast eq held c t) past_from past_to (quantities eq) q h

    pub values_before : (v : TreeValues) → IsValuesOf eq d t v → IsValuesOf eq c t v
    values_before v h =
        record {
          tree = h.tree;
          degree = h.degree;
          symmetry = h.symmetry;
          polynomial = h.polynomial;
          constant = same_poly (c t) (d t) v.constant (same_constants t typed) h.constant;
          differentials = h.differentials;
        }

-- what is held, by tree
pub held_range : (c : Content) (hs : List Held) (t : Plain) (w : Weighed) → AreHeldOver c hs → held_over c hs t ≡ Some w → w.mass < overflow
held_range c [] t w h e = absurd cc
held_range c (k ∷ hs) t w h e =
    (elim (is_eq (tree_order (tree_at c k.0) t)) as (λ b. cond b (Some k.1) (held_over c hs t) ≡ Some w → w.mass < overflow) [
      | true ↦ λ i. (let same : k.1 ≡ w = cc in subst (λ (u : Weighed). u.mass < overflow) same h.0.range)
      | false ↦ λ i. held_range c hs t w h.1 i
    ]) e
