-- What a table of a file means, key by key, in the order in which faults are sought: the first
-- fault, or what the table holds. Items count from 1.
--   ◌>>=◌ == r >>= f is what f makes of what r gives; the fault of r where it has one
--   required, of_kind, of_value e x == x; `missing`, `kind` or `value` at the entry e where it is
--       not there
--   is_key set key == the key may stand in such a table
--   has_other_key set ms == the table has a key that may not stand in such a table
--   keys_of e set ms == `key` at e where there is one
--   version_by z == the version with the number z, where there is one
--   version_of ms == the version, which is 1 or 2
--   of_version e version == `version` at the entry e where the version is 1
--   whole z, natural z == the whole number z, where it is at least 1, and where it is at least 0
--   up_to most n == n, where it is at most `most`
--   number_of at d == an entry of the scaling: a whole number of at least 1
--   numbers_from at found ds == whole numbers of at least 1, after those found
--   direction_of dims at seen d == a number of a direction, from 1 to dims, that was not seen
--       before
--   directions_from dims at seen ds == directions, after those seen
--   reflect_of version dims d == the directions that may be reflected, where they are written; in
--       version 2 alone
--   moments_of e version d == the moment number of a kernel, at most 20, where one is written; in
--       version 2 alone
--   some_items s ds == the items of the list at s; `value` where it is empty
--   list_of s key ms == the list at a key, which is there and not empty
--   of_name e text == text, where it is a name
--   new_name e seen text == a name that was not seen before
--   parameter_of at seen d == a parameter: a name that was not seen before
--   parameters_from at seen ds == names, after those seen
--   parameters_of d == the parameters, where they are written
--   table_of s set at d == the table of an item, which has none but these keys
--   text_of e key ms == the text at a key of an item
--   name_of s at seen ms == the name of an item, which was not seen before
--   of_degree e w == w; `degree` at the entry e where it is not there
--   degree_of e key ms == the degree at a key of an item
--   group_of e name d == the group of a noise, which is named as the noise where it is not written
--   noise_of at seen d == a noise: its keys, its name, its degree, its group
--   noises_from at seen found ds == noises, after those found, with all names seen
--   noises_of seen d == the noises, where there are any, with all names seen
--   positive_of e key ms == the degree of an unknown, which has no k part and is above 0
--   standard_of e key ms == the regularity of an unknown, which has no k part
--   unknown_of version at seen d == an unknown: its keys, its name, its degree above 0 and its
--       regularity, both without k part, and its moment number
--   unknowns_from version at seen found ds == unknowns, after those found, with all names seen
--   known_terms e names ts == the terms, where their names are known and none has two noises
--   terms_of e names ts == the same of what was read; `polynomial` where that is outside the
--       grammar
--   directions_of version ms == the scaling, and the directions that may be reflected
--   right_of names dims at d == the terms of a right side, whose names are known, with at most one
--       noise in each
--   rights_from names dims at found ds == right sides, after those found
--   names_of list first_noise first_unknown == all names, with the places where noises and unknowns
--       begin
--   unknown_part version directions first_noise noises items == the unknowns with their right
--       sides, as a document with what stands before them
--   document_of ms == all that the table of a file holds
use Rattle.std.specs.Prelude.{ℕ, ◌+◌, ℤ, pos, negsuc, List, [], ◌∷◌, ◌++◌, length, codes, Bool, true, false, not, ◌||◌, nat_lt, nat_le, nat_eq, ⊤, if◌then◌else◌, Option, Some, None, Result, Ok, Err}
use Rattle.std.specs.List.{list_any}
use Rattle.std.specs.Ordering.{int_eq}
use Rattle.std.specs.Str.{bytes_eq}
use Rattle.toml.specs.Data.{Data, Items, no_items, item, Members, no_members, member, get_member, as_array, as_integer, as_str, as_table}
use Rattle.degree_numbers.specs.DegreeText.{Written, written_of}
use Rattle.degree_numbers.specs.Name.{is_name}
use Rattle.right_side_text.specs.Grammar.{right_side}
use Rattle.right_side_text.specs.declared.written.WrittenTerm.{WrittenTerm}
use Rattle.equation_document.specs.declared.document.Document.{Document}
use Rattle.equation_document.specs.declared.document.NoiseEntry.{NoiseEntry}
use Rattle.equation_document.specs.declared.document.UnknownEntry.{UnknownEntry}
use Rattle.equation_document.specs.declared.fault.Section.{Section}
use Rattle.equation_document.specs.declared.fault.Section.TheVariants.{Version, Scaling, Reflect, Parameters, Noise, Unknown}
use Rattle.equation_document.specs.declared.fault.Field.TheVariants as fields
use Rattle.equation_document.specs.declared.fault.Entry.{Entry}
use Rattle.equation_document.specs.declared.fault.Entry.TheVariants.{File, Whole, Item, Part}
use Rattle.equation_document.specs.declared.fault.Reason.TheVariants as reasons
use Rattle.equation_document.specs.declared.fault.Fault.{Fault}
use Rattle.equation_document.specs.declared.fault.Fault.TheVariants.{Malformed}
use Rattle.equation_document.specs.declared.versions.FileVersion.{FileVersion}
use Rattle.equation_document.specs.declared.versions.FileVersion.TheVariants.{One, Two}
use Rattle.equation_document.specs.declared.names.Names.{Names}
use Rattle.equation_document.specs.declared.entries.KeySet.{KeySet}
use Rattle.equation_document.specs.declared.entries.KeySet.TheVariants as keys
use Rattle.equation_document.specs.Bounds.{largest_moment}
use Rattle.equation_document.specs.DegreeEntry.{is_positive, is_standard}
use Rattle.equation_document.specs.Names.{stands_in, are_known, have_one_noise}

infixl 10 ◌>>=◌
abbrev pub ◌>>=◌ : {A B : Type 0} → Result A Fault → (A → Result B Fault) → Result B Fault
(Ok x) >>= f = f x
(Err e) >>= f = Err e

abbrev pub required : {A : Type 0} → Entry → Option A → Result A Fault
required e None = Err (Malformed e reasons.Missing)
required e (Some x) = Ok x

abbrev pub of_kind : {A : Type 0} → Entry → Option A → Result A Fault
of_kind e None = Err (Malformed e reasons.Kind)
of_kind e (Some x) = Ok x

abbrev pub of_value : {A : Type 0} → Entry → Option A → Result A Fault
of_value e None = Err (Malformed e reasons.Value)
of_value e (Some x) = Ok x

abbrev pub is_key : KeySet → List ℕ → Bool
is_key keys.Top key = ((((bytes_eq key (codes "noise") || bytes_eq key (codes "parameters"))
    || bytes_eq key (codes "reflect")) || bytes_eq key (codes "scaling"))
    || bytes_eq key (codes "unknown")) || bytes_eq key (codes "version")
is_key keys.OfNoise key = (bytes_eq key (codes "degree") || bytes_eq key (codes "group"))
    || bytes_eq key (codes "name")
is_key keys.OfUnknown key = (((bytes_eq key (codes "degree") || bytes_eq key (codes "moments"))
    || bytes_eq key (codes "name")) || bytes_eq key (codes "regularity"))
    || bytes_eq key (codes "right")

abbrev pub has_other_key : KeySet → Members → Bool
has_other_key set no_members = false
has_other_key set (member key d ms) = not (is_key set key) || has_other_key set ms

abbrev pub keys_of : Entry → KeySet → Members → Result Bool Fault
keys_of e set ms = if has_other_key set ms then Err (Malformed e reasons.Key) else Ok true

abbrev pub version_by : ℤ → Option FileVersion
version_by z = if int_eq z (pos 1) then Some One else if int_eq z (pos 2) then Some Two else None

unfoldable pub version_of : Members → Result FileVersion Fault
version_of ms = do
  d ← required (Whole Version) (get_member (codes "version") ms)
  z ← of_kind (Whole Version) (as_integer d)
  of_value (Whole Version) (version_by z)

-- that an entry which version 1 has not may stand in a file
abbrev pub of_version : Entry → FileVersion → Result ⊤ Fault
of_version e One = Err (Malformed e reasons.Version)
of_version e Two = Ok tt

-- a whole number that is at least 1
abbrev pub whole : ℤ → Option ℕ
whole (pos n) = if nat_lt 0 n then Some n else None
whole (negsuc n) = None

-- a whole number that is at least 0
abbrev pub natural : ℤ → Option ℕ
natural (pos n) = Some n
natural (negsuc n) = None

abbrev pub up_to : ℕ → Option ℕ → Option ℕ
up_to most None = None
up_to most (Some n) = if nat_le n most then Some n else None

unfoldable pub number_of : ℕ → Data → Result ℕ Fault
number_of at d = do
  n ← of_kind (Item Scaling at) (as_integer d)
  of_value (Item Scaling at) (whole n)

unfoldable pub numbers_from : ℕ → List ℕ → Items → Result (List ℕ) Fault
numbers_from at found no_items = Ok found
numbers_from at found (item d ds) = do
  n ← number_of at d
  numbers_from (at + 1) (found ++ n ∷ []) ds

unfoldable pub direction_of : ℕ → ℕ → List ℕ → Data → Result ℕ Fault
direction_of dims at seen d = do
  z ← of_kind (Item Reflect at) (as_integer d)
  i ← of_value (Item Reflect at) (up_to dims (whole z))
  if list_any (λ j. nat_eq j i) seen then Err (Malformed (Item Reflect at) reasons.Repeated) else Ok i

unfoldable pub directions_from : ℕ → ℕ → List ℕ → Items → Result (List ℕ) Fault
directions_from dims at seen no_items = Ok seen
directions_from dims at seen (item d ds) = do
  i ← direction_of dims at seen d
  directions_from dims (at + 1) (seen ++ i ∷ []) ds

-- the directions that may be reflected, where they are written
unfoldable pub reflect_of : FileVersion → ℕ → Option Data → Result (List ℕ) Fault
reflect_of version dims None = Ok []
reflect_of version dims (Some d) = do
  later ← of_version (Whole Reflect) version
  items ← of_kind (Whole Reflect) (as_array d)
  directions_from dims 1 [] items

-- the moment number of a kernel, where one is written
unfoldable pub moments_of : Entry → FileVersion → Option Data → Result (Option ℕ) Fault
moments_of e version None = Ok None
moments_of e version (Some d) = do
  later ← of_version e version
  z ← of_kind e (as_integer d)
  r ← of_value e (up_to largest_moment (natural z))
  Ok (Some r)

-- a list that is not empty
abbrev pub some_items : Section → Items → Result Items Fault
some_items s no_items = Err (Malformed (Whole s) reasons.Value)
some_items s (item d ds) = Ok (item d ds)

unfoldable pub list_of : Section → List ℕ → Members → Result Items Fault
list_of s key ms = do
  d ← required (Whole s) (get_member key ms)
  items ← of_kind (Whole s) (as_array d)
  some_items s items

abbrev pub of_name : Entry → List ℕ → Result (List ℕ) Fault
of_name e text = if is_name text then Ok text else Err (Malformed e reasons.Name)

unfoldable pub new_name : Entry → List (List ℕ) → List ℕ → Result (List ℕ) Fault
new_name e seen text = do
  name ← of_name e text
  if stands_in seen name then Err (Malformed e reasons.Repeated) else Ok name

unfoldable pub parameter_of : ℕ → List (List ℕ) → Data → Result (List ℕ) Fault
parameter_of at seen d = do
  text ← of_kind (Item Parameters at) (as_str d)
  new_name (Item Parameters at) seen text

unfoldable pub parameters_from : ℕ → List (List ℕ) → Items → Result (List (List ℕ)) Fault
parameters_from at seen no_items = Ok seen
parameters_from at seen (item d ds) = do
  name ← parameter_of at seen d
  parameters_from (at + 1) (seen ++ name ∷ []) ds

-- the parameters, where they are written
unfoldable pub parameters_of : Option Data → Result (List (List ℕ)) Fault
parameters_of None = Ok []
parameters_of (Some d) = do
  items ← of_kind (Whole Parameters) (as_array d)
  parameters_from 1 [] items

-- the table of an item, which has no other keys
unfoldable pub table_of : Section → KeySet → ℕ → Data → Result Members Fault
table_of s set at d = do
  ms ← of_kind (Item s at) (as_table d)
  known ← keys_of (Item s at) set ms
  Ok ms

-- the text at a key of an item
unfoldable pub text_of : Entry → List ℕ → Members → Result (List ℕ) Fault
text_of e key ms = do
  d ← required e (get_member key ms)
  of_kind e (as_str d)

unfoldable pub name_of : Section → ℕ → List (List ℕ) → Members → Result (List ℕ) Fault
name_of s at seen ms = do
  text ← text_of (Part s at fields.Name) (codes "name") ms
  new_name (Part s at fields.Name) seen text

abbrev pub of_degree : Entry → Option Written → Result Written Fault
of_degree e None = Err (Malformed e reasons.Degree)
of_degree e (Some w) = Ok w

-- the degree at a key of an item
unfoldable pub degree_of : Entry → List ℕ → Members → Result Written Fault
degree_of e key ms = do
  text ← text_of e key ms
  of_degree e (written_of text)

-- the group of a noise, which is named as the noise where it is not written
unfoldable pub group_of : Entry → List ℕ → Option Data → Result (List ℕ) Fault
group_of e name None = Ok name
group_of e name (Some d) = do
  text ← of_kind e (as_str d)
  of_name e text

unfoldable pub noise_of : ℕ → List (List ℕ) → Data → Result NoiseEntry Fault
noise_of at seen d = do
  ms ← table_of Noise keys.OfNoise at d
  name ← name_of Noise at seen ms
  degree ← degree_of (Part Noise at fields.Degree) (codes "degree") ms
  group ← group_of (Part Noise at fields.Group) name (get_member (codes "group") ms)
  Ok (record { name = name; degree = degree; group = group })

unfoldable pub noises_from : ℕ → List (List ℕ) → List NoiseEntry → Items →
    Result (List (List ℕ) × List NoiseEntry) Fault
noises_from at seen found no_items = Ok (seen, found)
noises_from at seen found (item d ds) = do
  noise ← noise_of at seen d
  noises_from (at + 1) (seen ++ noise.name ∷ []) (found ++ noise ∷ []) ds

-- the noises, where there are any
unfoldable pub noises_of : List (List ℕ) → Option Data →
    Result (List (List ℕ) × List NoiseEntry) Fault
noises_of seen None = Ok (seen, [])
noises_of seen (Some d) = do
  items ← of_kind (Whole Noise) (as_array d)
  noises_from 1 seen [] items

-- the degree of an unknown
unfoldable pub positive_of : Entry → List ℕ → Members → Result Written Fault
positive_of e key ms = do
  degree ← degree_of e key ms
  if is_positive degree then Ok degree else Err (Malformed e reasons.Value)

-- the regularity of an unknown
unfoldable pub standard_of : Entry → List ℕ → Members → Result Written Fault
standard_of e key ms = do
  degree ← degree_of e key ms
  if is_standard degree then Ok degree else Err (Malformed e reasons.Value)

unfoldable pub unknown_of : FileVersion → ℕ → List (List ℕ) → Data → Result UnknownEntry Fault
unknown_of version at seen d = do
  ms ← table_of Unknown keys.OfUnknown at d
  name ← name_of Unknown at seen ms
  degree ← positive_of (Part Unknown at fields.Degree) (codes "degree") ms
  regularity ← standard_of (Part Unknown at fields.Regularity) (codes "regularity") ms
  moments ← moments_of (Part Unknown at fields.Moments) version (get_member (codes "moments") ms)
  Ok (record { name = name; degree = degree; regularity = regularity; moments = moments })

unfoldable pub unknowns_from : FileVersion → ℕ → List (List ℕ) → List UnknownEntry → Items →
    Result (List (List ℕ) × List UnknownEntry) Fault
unknowns_from version at seen found no_items = Ok (seen, found)
unknowns_from version at seen found (item d ds) = do
  unknown ← unknown_of version at seen d
  unknowns_from version (at + 1) (seen ++ unknown.name ∷ []) (found ++ unknown ∷ []) ds

-- the terms, where their names are known and none has two noises
abbrev pub known_terms : Entry → Names → List WrittenTerm → Result (List WrittenTerm) Fault
known_terms e names ts =
    if are_known names ts then (if have_one_noise names ts then Ok ts
    else Err (Malformed e reasons.Noise)) else Err (Malformed e reasons.Polynomial)

abbrev pub terms_of : Entry → Names → Option (List WrittenTerm) → Result (List WrittenTerm) Fault
terms_of e names None = Err (Malformed e reasons.Polynomial)
terms_of e names (Some ts) = known_terms e names ts

unfoldable pub right_of : Names → ℕ → ℕ → Data → Result (List WrittenTerm) Fault
right_of names dims at d = do
  ms ← of_kind (Item Unknown at) (as_table d)
  text ← text_of (Part Unknown at fields.Right) (codes "right") ms
  terms_of (Part Unknown at fields.Right) names (right_side dims text)

unfoldable pub rights_from : Names → ℕ → ℕ → List (List WrittenTerm) → Items →
    Result (List (List WrittenTerm)) Fault
rights_from names dims at found no_items = Ok found
rights_from names dims at found (item d ds) = do
  terms ← right_of names dims at d
  rights_from names dims (at + 1) (found ++ terms ∷ []) ds

abbrev pub names_of : List (List ℕ) → ℕ → ℕ → Names
names_of list first_noise first_unknown =
    record { list = list; first_noise = first_noise; first_unknown = first_unknown }

-- the scaling, and the directions that may be reflected
unfoldable pub directions_of : FileVersion → Members → Result (List ℕ × List ℕ) Fault
directions_of version ms = do
  numbers ← list_of Scaling (codes "scaling") ms
  scaling ← numbers_from 1 [] numbers
  reflect ← reflect_of version (length scaling) (get_member (codes "reflect") ms)
  Ok (scaling, reflect)

-- what the directions and names of a file are followed by: its unknowns with their right sides
unfoldable pub unknown_part : FileVersion → (List ℕ × List ℕ) → ℕ →
    (List (List ℕ) × List NoiseEntry) → Items → Result Document Fault
unknown_part version directions first_noise noises items = do
  unknowns ← unknowns_from version 1 noises.0 [] items
  rights ← rights_from (names_of unknowns.0 first_noise (length noises.0)) (length directions.0) 1 [] items
  Ok (record { scaling = directions.0; reflect = directions.1; names = names_of unknowns.0 first_noise (length noises.0); noises = noises.1; unknowns = unknowns.1; rights = rights })

unfoldable pub document_of : Members → Result Document Fault
document_of ms = do
  known ← keys_of File keys.Top ms
  version ← version_of ms
  directions ← directions_of version ms
  parameters ← parameters_of (get_member (codes "parameters") ms)
  noises ← noises_of parameters (get_member (codes "noise") ms)
  items ← list_of Unknown (codes "unknown") ms
  unknown_part version directions (length parameters) noises items
