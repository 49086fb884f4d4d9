-- The first quantity that is out of range.
use Rattle.std.proofs.Common.{inl, inr, List, [], ◌∷◌, ◌++◌, Option}
use Rattle.equations.specs.declared.Equation.{Equation}
use Rattle.equations.specs.declared.Unknown.{Unknown}
use Rattle.plain_trees.specs.Plain.{Plain}
use Rattle.antipode_laws.specs.Weighed.{Weighed}
use Rattle.tree_values.specs.declared.quantity.Quantity.{Quantity}
use Rattle.tree_values.specs.declared.quantity.Quantity.TheVariants.{Extraction, Constant}
use Rattle.tree_values.specs.Quantities.{quantities_at}
use Rattle.tree_values.specs.Ranges.{IsDifferentialPast, IsPast, IsFirstOf, AreInRange, IsFirstPast, IsInRange}

module _ (past : Quantity → Type 0) where
  pub range_both : (qs rs : List Quantity) → AreInRange past qs → AreInRange past rs → AreInRange past (qs ++ rs)
  range_both [] rs h k = k
  range_both (q ∷ qs) rs h k = (h.0, range_both qs rs h.1 k)

  pub first_in_front : (qs rs : List Quantity) (q : Quantity) → IsFirstOf past qs q → IsFirstOf past (qs ++ rs) q
  first_in_front [] rs q h = absurd h
  first_in_front (p ∷ ps) rs q (inl h) = inl h
  first_in_front (p ∷ ps) rs q (inr h) = inr (h.0, first_in_front ps rs q h.1)

  pub first_behind : (qs rs : List Quantity) (q : Quantity) → AreInRange past qs → IsFirstOf past rs q → IsFirstOf past (qs ++ rs) q
  first_behind [] rs q h k = k
  first_behind (p ∷ ps) rs q h k = inr (h.0, first_behind ps rs q h.1 k)

-- tests that say the same
module _ (past other : Quantity → Type 0) (to : (q : Quantity) → past q → other q) (from : (q : Quantity) → other q → past q) where
  pub range_same : (qs : List Quantity) → AreInRange past qs → AreInRange other qs
  range_same [] h = tt
  range_same (q ∷ qs) h = (λ o. h.0 (from q o), range_same qs h.1)

  pub first_same : (qs : List Quantity) (q : Quantity) → IsFirstOf past qs q → IsFirstOf other qs q
  first_same [] q h = absurd h
  first_same (p ∷ ps) q (inl h) = inl (h.0, to p h.1)
  first_same (p ∷ ps) q (inr h) = inr (λ o. h.0 (from p o), first_same ps q h.1)

-- differentials are asked in the same way everywhere
module _ (eq : Equation) (held : Plain → Option Weighed) (c : Plain → Weighed) (t : Plain) where
  range_at : (us : List Unknown) → AreInRange (IsDifferentialPast eq t) (quantities_at us) → AreInRange (IsPast eq held c t) (quantities_at us)
  range_at [] h = tt
  range_at (u ∷ us) h = (h.0, (h.1.0, range_at us h.1.1))

  first_at : (us : List Unknown) (q : Quantity) → IsFirstOf (IsDifferentialPast eq t) (quantities_at us) q → IsFirstOf (IsPast eq held c t) (quantities_at us) q
  first_at [] q h = absurd h
  first_at (u ∷ us) q (inl h) = inl h
  first_at (u ∷ us) q (inr h) = inr (h.0, elim h.1 [ inl k ↦ inl k | inr k ↦ inr (k.0, first_at us q k.1) ])

  module _ (coefficients : IsPast eq held c t Extraction → ⊥) (mass : IsPast eq held c t Constant → ⊥) where
    pub in_range : AreInRange (IsDifferentialPast eq t) (quantities_at eq.unknowns) → IsInRange eq held c t
    in_range h = (coefficients, (mass, range_at eq.unknowns h))

    pub first_past : (q : Quantity) → IsFirstOf (IsDifferentialPast eq t) (quantities_at eq.unknowns) q → IsFirstPast eq held c t q
    first_past q h = inr (coefficients, inr (mass, first_at eq.unknowns q h))
