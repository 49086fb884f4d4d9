-- Values that are equal as polynomials with a mass.
--   AreSameValues w u == each monomial has one coefficient in both, and the masses are equal
--   IsSameHeld h k == nothing is held in both, or values that are the same
--   IsHeldValue h w == a value is held, and it is the same as w
use Rattle.std.specs.Prelude.{◌≡◌, Option, Some, None}
use Rattle.symbol_polys.specs.Polynomials.{HaveSameCoefficients}
use Rattle.antipode_laws.specs.Weighed.{Weighed}

pub record AreSameValues (w u : Weighed) : Type 0 where
  pub coefficients : HaveSameCoefficients w.terms u.terms
  pub mass : w.mass ≡ u.mass

abbrev pub IsSameHeld : Option Weighed → Option Weighed → Type 0
IsSameHeld None None = Unit {0}
IsSameHeld None (Some u) = ⊥
IsSameHeld (Some w) None = ⊥
IsSameHeld (Some w) (Some u) = AreSameValues w u

abbrev pub IsHeldValue : Option Weighed → Weighed → Type 0
IsHeldValue None w = ⊥
IsHeldValue (Some h) w = AreSameValues h w
