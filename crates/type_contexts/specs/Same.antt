-- Types in different common denominators.
--   IsSameFraction x d y e == x over d and y over e are the same number
--   IsSameEntry d e s t == the types s and t, in units of one over d and of one over e, are the
--       same, their degrees as numbers
--   AreSameTypes s t == s and t are the same in every field but the units and the degrees, which
--       are the same as numbers
--   degree_fractions den es == the fractions of the degrees
--   AreInLeastUnits ty == the units are the least common denominator of the degrees
use Rattle.std.specs.Prelude.{◌≡◌, ℕ, ◌*◌, ℤ, unsigned_abs, List, [], ◌∷◌}
use Rattle.std.specs.Int.{is_negative}
use Rattle.std.specs.List.{AllZip}
use Rattle.degree_numbers.specs.declared.types.TypeEntry.{TypeEntry}
use Rattle.degree_numbers.specs.declared.types.Types.{Types}
use Rattle.degree_numbers.specs.Fraction.{Fraction, IsLeastCommon}
use Rattle.degree_numbers.specs.Units.{fraction_of}

pub record IsSameFraction (x : ℤ) (d : ℕ) (y : ℤ) (e : ℕ) : Type 0 where
  pub size : unsigned_abs x * e ≡ unsigned_abs y * d
  pub sign : is_negative x ≡ is_negative y

pub record IsSameEntry (d e : ℕ) (s t : TypeEntry) : Type 0 where
  pub name : s.name ≡ t.name
  pub kind : s.kind ≡ t.kind
  pub group : s.group ≡ t.group
  pub moments : s.moments ≡ t.moments
  pub a : IsSameFraction s.degree.a d t.degree.a e
  pub b : IsSameFraction s.degree.b d t.degree.b e

pub record AreSameTypes (s t : Types) : Type 0 where
  pub dims : s.dims ≡ t.dims
  pub scaling : s.scaling ≡ t.scaling
  pub list : AllZip (IsSameEntry (unsigned_abs s.units.den) (unsigned_abs t.units.den)) s.list
      t.list
  pub groups : s.groups ≡ t.groups
  pub reflect : s.reflect ≡ t.reflect

abbrev pub degree_fractions : ℤ → List TypeEntry → List Fraction
degree_fractions den [] = []
degree_fractions den (e ∷ es) =
    fraction_of e.degree.a den ∷ fraction_of e.degree.b den ∷ degree_fractions den es

abbrev pub AreInLeastUnits : Types → Type 0
AreInLeastUnits ty =
    IsLeastCommon (unsigned_abs ty.units.den) (degree_fractions ty.units.den ty.list)
