-- The types that are read: group names with their numbers, and degrees in units.
-- Working notions of the code and of proofs, which no contract of a public call names:
--   place_of names name == the place of the name in the list, from 0; the length of the list where
--       it is not there
--   stands_in names name == the name is there
--   with_name kind groups name == the groups, and the name behind them where it is a noise's that
--       is not there
--   with_group groups d == the groups, and behind them the group of d where it is a noise's that is
--       not there
--   groups_of drafts == the groups, in the order of their first noise
--   number_by kind groups name == the number of a noise's group; 0 for a kernel
--   IsEntryOf den groups d e == e is the type that is read as d, in units of one over den
--   AreMadeOf dims scaling reflect drafts ty == ty are the types that are read as drafts, with this
--       scaling and these directions, in units of one over the least common denominator of the
--       degrees
use Rattle.std.specs.Prelude.{◌≡◌, ℕ, nat_lt, Bool, not, List, [], ◌∷◌, ◌++◌, length, if◌then◌else◌, fold, map, ℤ, ◌*ℤ◌}
use Rattle.std.specs.List.{AllZip, prefix_len}
use Rattle.std.specs.Str.{bytes_eq}
use Rattle.degree_numbers.specs.declared.types.Kind.{Kind}
use Rattle.degree_numbers.specs.declared.types.Kind.TheVariants.{Noise, Kernel}
use Rattle.degree_numbers.specs.declared.types.TypeEntry.{TypeEntry}
use Rattle.degree_numbers.specs.declared.types.Types.{Types}
use Rattle.degree_numbers.specs.Units.{fractions, AreUnits}
use Rattle.type_contexts.specs.declared.draft.Draft.{Draft}

abbrev pub place_of : List (List ℕ) → List ℕ → ℕ
place_of names name = prefix_len (λ n. not (bytes_eq n name)) names

abbrev pub stands_in : List (List ℕ) → List ℕ → Bool
stands_in names name = nat_lt (place_of names name) (length names)

abbrev pub with_name : Kind → List (List ℕ) → List ℕ → List (List ℕ)
with_name Noise groups name = if stands_in groups name then groups else groups ++ name ∷ []
with_name Kernel groups name = groups

abbrev pub with_group : List (List ℕ) → Draft → List (List ℕ)
with_group groups d = with_name d.kind groups d.group

abbrev pub groups_of : List Draft → List (List ℕ)
groups_of drafts = fold with_group [] drafts

abbrev pub number_by : Kind → List (List ℕ) → List ℕ → ℕ
number_by Noise groups name = place_of groups name
number_by Kernel groups name = 0

pub record IsEntryOf (den : ℤ) (groups : List (List ℕ)) (d : Draft) (e : TypeEntry) : Type 0 where
  pub name : e.name ≡ d.name
  pub kind : e.kind ≡ d.kind
  pub group : e.group ≡ number_by d.kind groups d.group
  pub moments : e.moments ≡ d.moments
  pub a : e.degree.a *ℤ d.degree.a_den ≡ d.degree.a_num *ℤ den
  pub b : e.degree.b *ℤ d.degree.b_den ≡ d.degree.b_num *ℤ den

pub record AreMadeOf (dims : ℕ) (scaling reflect : List ℕ) (drafts : List Draft)
    (ty : Types) : Type 0 where
  pub dims_are : ty.dims ≡ dims
  pub scaling_is : ty.scaling ≡ scaling
  pub reflect_is : ty.reflect ≡ reflect
  pub units : AreUnits (fractions (map (λ d. d.degree) drafts)) ty.units.den
  pub groups : ty.groups ≡ groups_of drafts
  pub list : AllZip (IsEntryOf ty.units.den ty.groups) drafts ty.list
