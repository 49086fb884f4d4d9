-- What the rows of the database tell.
--   project_rows db, result_rows db, store_rows db == the rows of the three tables; a row is its
--     number, then its columns
--   version_told rows == the version that the rows of `store` tell: 1 exactly where there are none
--   version_in db == that of the database
--   project_entry r == the name and the file in a row of `project`
--   result_entry r == the context and the tree in a row of `result`, and its value
--   named v == the text of the value, where it is the name of a project
--   shown_name r == the name that the row of an answer shows, where it is the name of a project
--   shown_text r == the bytes of the first column that the row of an answer shows
--   shown_pair r == those of the first two
--   IsProjectRow r == the number of the row is an integer, its name is a text and the name of a
--     project, its file is a blob
--   IsResultRow r == the number of the row is an integer; its context, tree and value are blobs
--   projects_in db, results_in db == the finite maps that the rows make
--   AreProjects rows == they are such rows of `project` in the order of their numbers, and no name
--     comes twice
--   AreResults rows == they are such rows of `result` in the order of their numbers, and no pair of
--     a context and a tree comes twice
--   IsStoreUnder s db == the database has the schema s, and its rows of the two tables are such
--   IsStore db == the same with the tables of the store
use Rattle.std.specs.Prelude.{◌≡◌, ℕ, true, List, [], ◌∷◌, map, All, Option, Some, None, if◌then◌else◌}
use Rattle.std.specs.FinMap.{from_entries}
use Rattle.sqlite.specs.Order.{Row, column, bytes}
use Rattle.sqlite.specs.declared.types.Value.{Value}
use Rattle.sqlite.specs.declared.types.Value.TheVariants.{Int, Text, Blob}
use Rattle.sqlite.specs.Schema.{Schema}
use Rattle.sqlite.specs.Effect.{Database}
use Rattle.sqlite.specs.Edit.{id_in}
use Rattle.sqlite.specs.Tree.{IsTable, rowid}
use Rattle.result_keeper.specs.ProjectName.{is_project_name}
use Rattle.result_keeper.specs.Kept.{bytes_cmp, row_cmp, Projects, Rows}
use Rattle.result_keeper.specs.Entries.{AreApart}
use Rattle.sqlite_keeper.specs.Schema.{store_schema}

abbrev pub project_rows : Database → List Row
project_rows db = db.trees 0

abbrev pub result_rows : Database → List Row
result_rows db = db.trees 2

abbrev pub store_rows : Database → List Row
store_rows db = db.trees 4

abbrev pub version_told : List Row → ℕ
version_told [] = 1
version_told (r ∷ rows) = 2

abbrev pub version_in : Database → ℕ
version_in db = version_told (store_rows db)

abbrev pub project_entry : Row → List ℕ × List ℕ
project_entry r = (bytes (column r 1), bytes (column r 2))

abbrev pub result_entry : Row → (List ℕ × List ℕ) × List ℕ
result_entry r = ((bytes (column r 1), bytes (column r 2)), bytes (column r 3))

abbrev pub named : Value → Option (List ℕ)
named (Text t) = if is_project_name t then Some t else None
named _ = None

abbrev pub shown_name : Row → Option (List ℕ)
shown_name r = named (column r 0)

abbrev pub shown_text : Row → List ℕ
shown_text r = bytes (column r 0)

abbrev pub shown_pair : Row → List ℕ × List ℕ
shown_pair r = (bytes (column r 0), bytes (column r 1))

pub record IsProjectRow (r : Row) : Type 0 where
  pub number : rowid r ≡ Int (id_in (rowid r))
  pub name : column r 1 ≡ Text (bytes (column r 1))
  pub named : is_project_name (bytes (column r 1)) ≡ true
  pub file : column r 2 ≡ Blob (bytes (column r 2))

pub record IsResultRow (r : Row) : Type 0 where
  pub number : rowid r ≡ Int (id_in (rowid r))
  pub context : column r 1 ≡ Blob (bytes (column r 1))
  pub tree : column r 2 ≡ Blob (bytes (column r 2))
  pub value : column r 3 ≡ Blob (bytes (column r 3))

abbrev pub projects_in : Database → Projects
projects_in db = from_entries (map project_entry (project_rows db))

abbrev pub results_in : Database → Rows
results_in db = from_entries (map result_entry (result_rows db))

pub record AreProjects (rows : List Row) : Type 0 where
  pub typed : All IsProjectRow rows
  pub ordered : IsTable rows
  pub apart : AreApart bytes_cmp (map project_entry rows)

pub record AreResults (rows : List Row) : Type 0 where
  pub typed : All IsResultRow rows
  pub ordered : IsTable rows
  pub apart : AreApart row_cmp (map result_entry rows)

pub record IsStoreUnder (s : Schema) (db : Database) : Type 0 where
  pub schema : db.schema ≡ s
  pub projects : AreProjects (project_rows db)
  pub results : AreResults (result_rows db)

abbrev pub IsStore : Database → Type 0
IsStore = IsStoreUnder store_schema
