-- What a keeper holds, what its calls answer, and what they change.
--   bytes_cmp == the order of texts by their bytes
--   row_cmp == the order of pairs of texts by the first, then by the second: the context and the
--       tree of a row
--   Projects == a finite map from the names of projects to their files
--   Rows == a finite map from contexts and trees to values
--   Kept == a version, 1 or 2, projects and rows
--   kept_code == tables as pairs of numbers and lists, by which proofs tell them apart
--   nothing_kept == version 2 without projects and rows
--   most_projects == how many projects a keeper takes
--   put_answer projects name == `Replaced` where a project of that name is kept, `Full` where none
--       is and most_projects are kept, else `Added`
--   put_file put name file projects == the projects after that answer: the file stands under the
--       name, unless it is `Full`
--   after_put put name file k == k after that answer
--   without_project name k == k without the project of that name
--   names_in projects, names_of k == the names of the projects, in the order of their bytes
--   contexts_in rows, contexts_of k == the contexts that have a row, each once, in the order of
--       their bytes
--   within context rows == of a list of rows, the trees and values of those of that context
--   results_of k context == the trees of the rows of that context with their values, in the order
--       of the trees' bytes
--   put_rows context given rows == the rows after these were put, one after the other: each is
--       added, or replaces the row of its tree
--   with_rows context given k == k after that
--   new_context pairs context == the new context of an old one
--   moved pairs row == the row under the new context of its own
--   moved_rows pairs rows == the rows, each under the new context of its own
--   migrated pairs k == k in version 2, where each row stands under the new context of its own
--   CanMigrate pairs k == the old contexts of the pairs are those of k in their order, the new ones
--       are distinct, and none of them is an old one
use Rattle.std.specs.Prelude.{◌≡◌, ℕ, nat_le, false, List, map, filter, fold, All, unwrap_or, if◌then◌else◌}
use Rattle.std.specs.List.{IsDistinct, list_any, dedup, find}
use Rattle.std.specs.Option.{option_map}
use Rattle.std.specs.Ordering.{nat_cmp, then_cmp, on}
use Rattle.std.specs.declared.cmp.Ordering.{Ordering}
use Rattle.std.specs.Cmp.Lexicographic.{slice_cmp}
use Rattle.std.specs.Str.{bytes_eq}
use Rattle.std.specs.FinMap.{FinMap, empty, insert, remove, contains_key, len, keys, entries, from_entries}
use Rattle.std.specs.Coded.{Coded, code_by, coded×, coded_ℕ, coded_list}
use Rattle.std.proofs.Common.{refl}
use Rattle.std.specs.FinMap as finite
use Rattle.result_keeper.specs.declared.put.Put.{Put}
use Rattle.result_keeper.specs.declared.put.Put.TheVariants.{Added, Replaced, Full}

abbrev pub bytes_cmp : List ℕ → List ℕ → Ordering
bytes_cmp = slice_cmp nat_cmp

abbrev pub row_cmp : List ℕ × List ℕ → List ℕ × List ℕ → Ordering
row_cmp = then_cmp (on (λ p. p.0) bytes_cmp) (on (λ p. p.1) bytes_cmp)

abbrev pub Projects : Type 0
Projects = FinMap bytes_cmp (List ℕ)

abbrev pub Rows : Type 0
Rows = FinMap row_cmp (List ℕ)

pub record Kept : Type 0 where
  pub version : ℕ
  pub projects : Projects
  pub rows : Rows

abbrev pub kept_code : Coded Kept
kept_code =
    code_by (ℕ × (Projects × Rows))
    (coded× coded_ℕ (coded× (finite.code (coded_list coded_ℕ) (coded_list coded_ℕ))
    (finite.code (coded× (coded_list coded_ℕ) (coded_list coded_ℕ)) (coded_list coded_ℕ))))
    (λ k. (k.version, (k.projects, k.rows)))
    (λ p. record { version = p.0; projects = p.1.0; rows = p.1.1 })
    (λ _. refl)

abbrev pub nothing_kept : Kept
nothing_kept = record { version = 2; projects = empty; rows = empty }

abbrev pub most_projects : ℕ
most_projects = 10000

abbrev pub put_answer : Projects → List ℕ → Put
put_answer projects name =
    if contains_key projects name then Replaced
    else (if nat_le most_projects (len projects) then Full else Added)

abbrev pub put_file : Put → List ℕ → List ℕ → Projects → Projects
put_file Added name file projects = insert projects name file
put_file Replaced name file projects = insert projects name file
put_file Full name file projects = projects

abbrev pub after_put : Put → List ℕ → List ℕ → Kept → Kept
after_put put name file k =
    record { version = k.version; projects = put_file put name file k.projects; rows = k.rows }

abbrev pub without_project : List ℕ → Kept → Kept
without_project name k =
    record { version = k.version; projects = remove k.projects name; rows = k.rows }

abbrev pub names_in : Projects → List (List ℕ)
names_in projects = keys projects

abbrev pub names_of : Kept → List (List ℕ)
names_of k = names_in k.projects

abbrev pub contexts_in : Rows → List (List ℕ)
contexts_in rows = dedup bytes_eq (map (λ r. r.0) (keys rows))

abbrev pub contexts_of : Kept → List (List ℕ)
contexts_of k = contexts_in k.rows

abbrev pub within : List ℕ → List ((List ℕ × List ℕ) × List ℕ) → List (List ℕ × List ℕ)
within context rows = map (λ r. (r.0.1, r.1)) (filter (λ r. bytes_eq r.0.0 context) rows)

abbrev pub results_of : Kept → List ℕ → List (List ℕ × List ℕ)
results_of k context = within context (entries k.rows)

abbrev pub put_rows : List ℕ → List (List ℕ × List ℕ) → Rows → Rows
put_rows context given rows = fold (λ m row. insert m (context, row.0) row.1) rows given

abbrev pub with_rows : List ℕ → List (List ℕ × List ℕ) → Kept → Kept
with_rows context given k =
    record { version = k.version; projects = k.projects; rows = put_rows context given k.rows }

abbrev pub new_context : List (List ℕ × List ℕ) → List ℕ → List ℕ
new_context pairs context =
    unwrap_or (option_map (λ p. p.1) (find (λ p. bytes_eq context p.0) pairs)) context

abbrev pub moved : List (List ℕ × List ℕ) → (List ℕ × List ℕ) × List ℕ → (List ℕ × List ℕ) × List ℕ
moved pairs row = ((new_context pairs row.0.0, row.0.1), row.1)

abbrev pub moved_rows : List (List ℕ × List ℕ) → Rows → Rows
moved_rows pairs rows = from_entries (map (moved pairs) (entries rows))

abbrev pub migrated : List (List ℕ × List ℕ) → Kept → Kept
migrated pairs k = record { version = 2; projects = k.projects; rows = moved_rows pairs k.rows }

pub record CanMigrate (pairs : List (List ℕ × List ℕ)) (k : Kept) : Type 0 where
  pub olds : map (λ p. p.0) pairs ≡ contexts_of k
  pub news : IsDistinct bytes_eq (map (λ p. p.1) pairs)
  pub apart : All (λ p. list_any (bytes_eq p.1) (contexts_of k) ≡ false) pairs
