-- What the calls answer, and what they leave.
--   HasTables k db == the database is a store that holds k
--   without_row context tree k == k without the row of that context and tree
--   with_moved pairs k == k, where each row stands under the new context of its own
--   in_version_2 k == k, in version 2
--   IsEmptyStore db == the database is a store without projects and results
--   IsGrown old new == the new database has the tables of the store, that of the version without a
--     row, and the rows of the others stay
--   Opens is_old old new == the new database is a store that holds what a keeper makes of the old
--     one, and whether it is of version 1 is told
--   HasResults db == the database has the tables of the store, and that of results has such rows in
--     the order of their numbers
--   HasMoved pairs old new == the rows of results are the old ones, each under the new context of
--     its own, and all else stays
--   IsStill old new == if either of the two databases is a store, they are the same
--   IsRead old new == of a call on a clean database that is open: it is still what it was
--   AnswersBy P old new result == of a call on a clean store: its answer stands in P to what the
--     store holds
--   Turns change old new result == of a call on a clean store that succeeds: the store then holds
--     what the change makes of what it held
--   TurnsWithin change old new result == the same of a call within a transaction
--   FailsAlone old new result == of a call on a clean database that is open: where it fails it
--     changed nothing
--   RunsWithin old new result == of a call within a transaction: the transaction goes on where the
--     call succeeds, and the last commit stays
use Rattle.std.specs.Prelude.{◌≡◌, ◌⊎◌, ℕ, Bool, List, [], map, All, Result, IsTrue, OnOk, OnErr, IfOk}
use Rattle.std.specs.List.Sorted.{IsPermutation}
use Rattle.std.specs.FinMap.{remove}
use Rattle.sqlite.specs.declared.error.Error.{Error}
use Rattle.sqlite.specs.Effect.{Database}
use Rattle.sqlite.specs.Tree.{IsTable}
use Rattle.sqlite.specs.State.{State, HasCleanDisk, KeepsCommit}
use Rattle.result_keeper.specs.Kept.{Kept, moved, moved_rows}
use Rattle.sqlite_keeper.specs.Schema.{store_schema}
use Rattle.sqlite_keeper.specs.Tables.{IsStore, IsResultRow, project_rows, result_rows, store_rows, version_in, result_entry, projects_in, results_in}
use Rattle.sqlite_keeper.specs.Told.{kept_in, opened, version_of}

pub record HasTables (k : Kept) (db : Database) : Type 0 where
  pub is : IsStore db
  pub version : version_in db ≡ k.version
  pub projects : projects_in db ≡ k.projects
  pub rows : results_in db ≡ k.rows

abbrev pub without_row : List ℕ → List ℕ → Kept → Kept
without_row context tree k =
    record { version = k.version; projects = k.projects; rows = remove k.rows (context, tree) }

abbrev pub with_moved : List (List ℕ × List ℕ) → Kept → Kept
with_moved pairs k =
    record { version = k.version; projects = k.projects; rows = moved_rows pairs k.rows }

abbrev pub in_version_2 : Kept → Kept
in_version_2 k = record { version = 2; projects = k.projects; rows = k.rows }

pub record IsEmptyStore (db : Database) : Type 0 where
  pub is : IsStore db
  pub projects : project_rows db ≡ []
  pub results : result_rows db ≡ []

pub record IsGrown (old new : Database) : Type 0 where
  pub schema : new.schema ≡ store_schema
  pub projects : project_rows new ≡ project_rows old
  pub results : result_rows new ≡ result_rows old
  pub store : store_rows new ≡ []

pub record Opens (is_old : Bool) (old new : Database) : Type 0 where
  pub tables : HasTables (opened old) new
  pub version : (opened old).version ≡ version_of is_old

pub record HasResults (db : Database) : Type 0 where
  pub schema : db.schema ≡ store_schema
  pub results : All IsResultRow (result_rows db)
  pub ordered : IsTable (result_rows db)

pub record HasMoved (pairs : List (List ℕ × List ℕ)) (old new : Database) : Type 0 where
  pub is : HasResults new
  pub projects : project_rows new ≡ project_rows old
  pub store : store_rows new ≡ store_rows old
  pub entries : IsPermutation (map (moved pairs) (map result_entry (result_rows old)))
      (map result_entry (result_rows new))

abbrev pub IsStill : Database → Database → Type 0
IsStill old new = IsStore old ⊎ IsStore new → new ≡ old

abbrev pub IsRead : State → State → Type 0
IsRead old new = HasCleanDisk new → IsTrue new.is_open → IsStill old.now new.now

abbrev pub AnswersBy : {X : Type 0} → (Kept → X → Type 0) → State → State → Result X Error → Type 0
AnswersBy P old new result = HasCleanDisk new → IsStore old.now → IfOk result (P (kept_in old.now))

abbrev pub Turns : {X : Type 0} → (Kept → Kept) → State → State → Result X Error → Type 0
Turns change old new result =
    HasCleanDisk new → IsStore old.now → OnOk result (HasTables (change (kept_in old.now)) new.now)

abbrev pub TurnsWithin : {X : Type 0} → (Kept → Kept) → State → State → Result X Error → Type 0
TurnsWithin change old new result =
    HasCleanDisk new → IsTrue old.in_transaction → IsStore old.now
    → OnOk result (HasTables (change (kept_in old.now)) new.now)

abbrev pub FailsAlone : {X : Type 0} → State → State → Result X Error → Type 0
FailsAlone old new result = HasCleanDisk new → IsTrue new.is_open → OnErr result (new.now ≡ old.now)

pub record RunsWithin {X : Type 0} (old new : State) (result : Result X Error) : Type 0 where
  pub clean : HasCleanDisk new → HasCleanDisk old
  pub goes_on : HasCleanDisk new → IsTrue old.in_transaction
      → OnOk result (IsTrue new.in_transaction)
  pub commit : HasCleanDisk new → IsTrue old.in_transaction → KeepsCommit old new
