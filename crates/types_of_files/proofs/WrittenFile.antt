-- A file that is written for types.
--   noise_data t groups e == the table of the noise e, whose degree has the text t e
--   moments_member moments ms == ms, and in front of them the moment number, where there is one
--   unknown_by degree regularity name moments == the table of an unknown with these texts and this
--       moment number, whose right side is empty
--   unknown_data t regularity e == that of an unknown for the kernel e, of regularity 0
--   file_of t regularity ty == the table of a file with these types
use Rattle.std.specs.Prelude.{ℕ, pos, List, [], ◌∷◌, codes, take, Option, Some, None}
use Rattle.toml.specs.Data.{Data, string, integer, array, table, Items, no_items, item, Members, no_members, member}
use Rattle.degree_numbers.specs.declared.types.TypeEntry.{TypeEntry}
use Rattle.degree_numbers.specs.declared.types.Types.{Types}
use Rattle.degree_numbers.specs.Types.{noises, kernels}
use Rattle.type_contexts.specs.Context.{name_at}

abbrev pub noise_data : (TypeEntry → List ℕ) → List (List ℕ) → TypeEntry → Data
noise_data t groups e = table (member (codes "degree") (string (t e)) (member (codes "group") (string (name_at groups e.group)) (member (codes "name") (string e.name) no_members)))

abbrev pub moments_member : Option ℕ → Members → Members
moments_member None ms = ms
moments_member (Some r) ms = member (codes "moments") (integer (pos r)) ms

abbrev pub unknown_by : List ℕ → List ℕ → List ℕ → Option ℕ → Data
unknown_by degree regularity name moments = table (member (codes "degree") (string degree) (moments_member moments (member (codes "name") (string name) (member (codes "regularity") (string regularity) (member (codes "right") (string []) no_members)))))

abbrev pub unknown_data : (TypeEntry → List ℕ) → List ℕ → TypeEntry → Data
unknown_data t regularity e = unknown_by (t e) regularity e.name e.moments

abbrev pub items_by : {A : Type 0} → (A → Data) → List A → Items
items_by f [] = no_items
items_by f (x ∷ xs) = item (f x) (items_by f xs)

abbrev pub file_of : (TypeEntry → List ℕ) → List ℕ → Types → Members
file_of t regularity ty =
    member (codes "noise") (array (items_by (noise_data t ty.groups) (noises ty)))
    (member (codes "reflect") (array (items_by (λ i. integer (pos i)) ty.reflect))
    (member (codes "scaling") (array (items_by (λ n. integer (pos n)) (take ty.dims ty.scaling)))
    (member (codes "unknown") (array (items_by (unknown_data t regularity) (kernels ty))) (member (codes "version") (integer (pos 2)) no_members))))
