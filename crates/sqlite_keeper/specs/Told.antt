-- Which tables a keeper over a database tells.
--   same_code a b == the two codes are one
--   has_schema schema == it is that of the tables of the store
--   is_text v, is_blob v == what the value is
--   ascends r xs == r holds of each element and each later one
--   is_project_row r, is_result_row r == tests for IsProjectRow and IsResultRow
--   in_order rows == the numbers of the rows rise
--   are_apart c es == no key comes twice, by the order c
--   is_store db == a test for IsStore
--   kept_in db == what the database holds: its version, the projects and the rows of results
--   opened db == what a keeper makes of it: of version 2 also where there are no results
--   first_version db == the version of a store that has no table `store`: 1 exactly where it has
--     results
--   opened_first db == what a keeper makes of such a store
--   version_of is_old == the version of a keeper that says whether it is 1
--   told_of is_steady is_old db == what the database holds, over a store that is clean and open at
--     all times, where the database is a store of the keeper's version
use Rattle.std.specs.Prelude.{ℕ, nat_lt, length, Bool, true, false, not, ◌&&◌, ◌==◌, List, [], ◌∷◌, map, Option, Some, None, if◌then◌else◌}
use Rattle.std.specs.List.{list_all}
use Rattle.std.specs.Ordering.{is_lt, eq_by_cmp}
use Rattle.std.specs.declared.cmp.Ordering.{Ordering}
use base.Stored.{Gv, gnil, gnum, gcons}
use Rattle.sqlite.specs.declared.types.Value.{Value}
use Rattle.sqlite.specs.declared.types.Value.TheVariants.{Null, Int, Real, Text, Blob}
use Rattle.sqlite.specs.Order.{Row, column, bytes, value_cmp}
use Rattle.sqlite.specs.Tree.{rowid}
use Rattle.sqlite.specs.View.{is_int}
use Rattle.sqlite.specs.Schema.{Schema}
use Rattle.sqlite.specs.Effect.{Database}
use Rattle.sqlite_schema.specs.contracts.schema.Schema.{the_row}
use Rattle.result_keeper.specs.ProjectName.{is_project_name}
use Rattle.result_keeper.specs.Kept.{bytes_cmp, row_cmp, Kept}
use Rattle.sqlite_keeper.specs.Schema.{store_schema}
use Rattle.sqlite_keeper.specs.Tables.{project_rows, result_rows, version_in, project_entry, result_entry, projects_in, results_in}

abbrev pub same_code : Gv → Gv → Bool
same_code gnil gnil = true
same_code gnil (gnum n) = false
same_code gnil (gcons c d) = false
same_code (gnum m) gnil = false
same_code (gnum m) (gnum n) = m == n
same_code (gnum m) (gcons c d) = false
same_code (gcons a b) gnil = false
same_code (gcons a b) (gnum n) = false
same_code (gcons a b) (gcons c d) = same_code a c && same_code b d

unfoldable pub has_schema : Schema → Bool
has_schema schema = same_code (the_row.coded.code schema) (the_row.coded.code store_schema)

abbrev pub is_text : Value → Bool
is_text Null = false
is_text (Int n) = false
is_text (Real x) = false
is_text (Text t) = true
is_text (Blob b) = false

abbrev pub is_blob : Value → Bool
is_blob Null = false
is_blob (Int n) = false
is_blob (Real x) = false
is_blob (Text t) = false
is_blob (Blob b) = true

abbrev pub ascends : {X : Type 0} → (X → X → Bool) → List X → Bool
ascends r [] = true
ascends r (x ∷ xs) = list_all (r x) xs && ascends r xs

abbrev pub is_project_row : Row → Bool
is_project_row r =
    is_int (rowid r)
    && (is_text (column r 1) && (is_project_name (bytes (column r 1)) && is_blob (column r 2)))

abbrev pub is_result_row : Row → Bool
is_result_row r =
    is_int (rowid r) && (is_blob (column r 1) && (is_blob (column r 2) && is_blob (column r 3)))

abbrev pub in_order : List Row → Bool
in_order = ascends (λ a b. is_lt (value_cmp (rowid a) (rowid b)))

abbrev pub are_apart : {K X : Type 0} → (K → K → Ordering) → List (K × X) → Bool
are_apart c es = ascends (λ a b. not (eq_by_cmp c a b)) (map (λ e. e.0) es)

unfoldable pub is_store : Database → Bool
is_store db =
    has_schema db.schema
    && (list_all is_project_row (project_rows db)
    && (list_all is_result_row (result_rows db)
    && (in_order (project_rows db)
    && (in_order (result_rows db)
    && (are_apart bytes_cmp (map project_entry (project_rows db))
    && are_apart row_cmp (map result_entry (result_rows db)))))))

abbrev pub kept_in : Database → Kept
kept_in db = record { version = version_in db; projects = projects_in db; rows = results_in db }

abbrev pub opened : Database → Kept
opened db = record {
  version = if nat_lt 0 (length (result_rows db)) then version_in db else 2;
  projects = projects_in db;
  rows = results_in db;
}

abbrev pub first_version : Database → ℕ
first_version db = if nat_lt 0 (length (result_rows db)) then 1 else 2

abbrev pub opened_first : Database → Kept
opened_first db =
    record { version = first_version db; projects = projects_in db; rows = results_in db }

abbrev pub version_of : Bool → ℕ
version_of is_old = if is_old then 1 else 2

abbrev pub told_of : Bool → Bool → Database → Option Kept
told_of is_steady is_old db =
    if is_steady && (version_in db == version_of is_old && is_store db) then Some (kept_in db)
    else None
