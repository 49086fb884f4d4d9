-- What the statements that make the tables leave.
use Rattle.std.proofs.Common.{Result, Err, IfOk, ◌≡◌, ℕ, codes, List, [], map, false, None, Ok, refl, sym, ap, subst, ◌∙◌, nat_lt, length, if◌then◌else◌, Bool}
use Rattle.std.specs.List.{IsDistinct}
use Rattle.std.specs.FinMap.{from_entries}
use Rattle.std.proofs.lemmas.List.Elements.{All-nil}
use Rattle.sqlite.specs.declared.error.Error.{Error}
use Rattle.sqlite.specs.Table.{Table}
use Rattle.sqlite.specs.Schema.{Schema}
use Rattle.sqlite.specs.Change.{created, next_tree, KeepsRows}
use Rattle.sqlite.specs.Compile.{table_defined_by}
use Rattle.sqlite.specs.Command.TheVariants.{CreateTable}
use Rattle.sqlite.specs.Effect.{Database}
use Rattle.sqlite.specs.Does.{Tally, lacks_sequence}
use Rattle.sqlite.specs.State.{State, Writes, Executes}
use Rattle.sqlite.specs.Listing.{understood}
use Rattle.sqlite.proofs.Callers.{IsPlain, command_of, statement_of, runs_as}
use Rattle.sqlite_tied.specs.Compute.{everything}
use Rattle.sqlite_keeper.specs.Schema.{no_schema, project_table, result_table, store_table, first_schema, store_schema}
use Rattle.sqlite_keeper.specs.Tables.{project_rows, result_rows, version_told, version_in, project_entry, result_entry, IsProjectRow, IsResultRow, AreProjects, AreResults, IsStoreUnder, IsStore}
use Rattle.sqlite_keeper.specs.Told.{kept_in, opened, first_version, opened_first, version_of}
use Rattle.sqlite_keeper.specs.Changes.{HasTables, IsEmptyStore, IsGrown, Opens, in_version_2}
use Rattle.sqlite_keeper.proofs.Undone.{went, same_value}

abbrev pub project_text : List ℕ
project_text = codes "CREATE TABLE project(name TEXT PRIMARY KEY NOT NULL, file BLOB NOT NULL) STRICT"

abbrev pub result_text : List ℕ
result_text = codes "CREATE TABLE result(context BLOB NOT NULL, tree BLOB NOT NULL, value BLOB NOT NULL, UNIQUE(context, tree)) STRICT"

abbrev pub store_text : List ℕ
store_text = codes "CREATE TABLE store(one INTEGER PRIMARY KEY NOT NULL CHECK (one = 1), version INTEGER NOT NULL) STRICT"

abbrev pub one_table : Schema
one_table = created no_schema project_table

-- the text makes the table in that schema
record IsMaking (t : List ℕ) (before : Schema) (made : Table) : Type 0 where
  pub command : command_of (understood before t) ≡ CreateTable
  pub text : statement_of t (understood before t) ≡ t
  pub table : table_defined_by t ≡ Ok made
  pub lacks : lacks_sequence (created before made) ≡ false
  pub plain : IsPlain (understood before t)

project_is : IsMaking project_text no_schema project_table
unfolding understood everything
project_is = record { command = refl; text = refl; table = refl; lacks = refl; plain = (refl, refl) }

result_is : IsMaking result_text one_table result_table
unfolding understood everything
result_is = record { command = refl; text = refl; table = refl; lacks = refl; plain = (refl, refl) }

store_is : IsMaking store_text first_schema store_table
unfolding understood everything
store_is = record { command = refl; text = refl; table = refl; lacks = refl; plain = (refl, refl) }

pub record Made (before : Schema) (table : Table) (old new : Database) : Type 0 where
  pub schema : new.schema ≡ created before table
  pub none : new.trees (next_tree before) ≡ []
  pub others : KeepsRows before.tables old.trees new.trees

makes : (text : List ℕ) (before : Schema) (table : Table) → IsMaking text before table → (old new : State) (count : ℕ) → old.now.schema ≡ before → Executes text [] old new (Ok count) → Made before table old.now new.now
makes text before table is old new count has h =
    let w = subst (λ t. Writes old new None CreateTable t [] count) is.text (runs_as text [] old new before has CreateTable is.command is.plain count h) in
    let all = went w.changed in
    let first = went all.1 in
    let made = first.1 in
    let both : Ok made.table ≡ Ok table = sym made.defined ∙ is.table in
    let same : made.table ≡ table = cc in
    let schema : first.0.schema ≡ created before table = made.is ∙ ap (λ s. created s made.table) has ∙ ap (created before) same in
    let lacks : lacks_sequence first.0.schema ≡ false = ap lacks_sequence schema ∙ is.lacks in
    let now : new.now ≡ first.0 = ap (λ (p : Tally × Database). p.1) (same_value all.2) ∙ same_value (rw lacks at first.2) in
    record {
      schema = ap (λ (d : Database). d.schema) now ∙ schema;
      none = ap (λ (d : Database). d.trees (next_tree before)) now ∙ subst (λ s. first.0.trees (next_tree s) ≡ []) has made.empty;
      others = subst (λ (d : Database). KeepsRows before.tables old.now.trees d.trees) (sym now) (subst (λ s. KeepsRows s.tables old.now.trees first.0.trees) has made.others);
    }

pub makes_project : (old new : State) (count : ℕ) → old.now.schema ≡ no_schema → Executes project_text [] old new (Ok count) → Made no_schema project_table old.now new.now
makes_project = makes project_text no_schema project_table project_is

pub makes_result : (old new : State) (count : ℕ) → old.now.schema ≡ one_table → Executes result_text [] old new (Ok count) → Made one_table result_table old.now new.now
makes_result = makes result_text one_table result_table result_is

pub makes_store : (old new : State) (count : ℕ) → old.now.schema ≡ first_schema → Executes store_text [] old new (Ok count) → Made first_schema store_table old.now new.now
makes_store = makes store_text first_schema store_table store_is

no_projects : AreProjects []
unfolding IsDistinct
no_projects = record { typed = All-nil IsProjectRow; ordered = tt; apart = tt }

no_results : AreResults []
unfolding IsDistinct
no_results = record { typed = All-nil IsResultRow; ordered = tt; apart = tt }

-- the three tables, one after the other, are an empty store
pub made_empty : (a b c d : Database) → Made no_schema project_table a b → Made one_table result_table b c → Made first_schema store_table c d → IsEmptyStore d
made_empty a b c d p r s =
    let projects : project_rows d ≡ [] = s.others.0 ∙ r.others.0 ∙ p.none in
    let results : result_rows d ≡ [] = s.others.1.0 ∙ r.none in
    record {
      is = record { schema = s.schema; projects = subst AreProjects (sym projects) no_projects; results = subst AreResults (sym results) no_results };
      projects = projects;
      results = results;
    }

-- the table of the version comes to the two others
pub made_last : (a b : Database) → Made first_schema store_table a b → IsGrown a b
made_last a b s = record { schema = s.schema; projects = s.others.0; results = s.others.1.0; store = s.none }

-- what has the same projects and results is a store
pub same_rows : (s : Schema) (a b : Database) → IsStoreUnder s a → b.schema ≡ store_schema → project_rows b ≡ project_rows a → result_rows b ≡ result_rows a → IsStore b
same_rows s a b is schema projects results = record { schema = schema; projects = subst AreProjects (sym projects) is.projects; results = subst AreResults (sym results) is.results }

-- and with a version it is one of version 2
pub same_tables : (a b : Database) → IsStore a → b.schema ≡ store_schema → project_rows b ≡ project_rows a → result_rows b ≡ result_rows a → version_in b ≡ 2 → HasTables (in_version_2 (kept_in a)) b
same_tables a b is schema projects results version = record {
  is = same_rows store_schema a b is schema projects results;
  version = version;
  projects = ap (λ l. from_entries (map project_entry l)) projects;
  rows = ap (λ l. from_entries (map result_entry l)) results;
}

-- a store of version 1 that got the table of the version, and what a keeper makes of it
pub opens_first : (r : Result Bool Error) (a b c : Database) → IsStoreUnder first_schema a → IsGrown a b → (IsStore b → IfOk r (λ is_old. Opens is_old b c)) → IfOk r (λ is_old. HasTables (opened_first a) c × (first_version a ≡ version_of is_old))
opens_first (Err e) a b c is grown f = tt
opens_first (Ok is_old) a b c is grown f =
    let o : Opens is_old b c = f (same_rows first_schema a b is grown.schema grown.projects grown.results) in
    let version : (opened b).version ≡ first_version a = (λ i. if nat_lt 0 (length (grown.results i)) then version_told (grown.store i) else 2) in (
      record {
        is = o.tables.is;
        version = o.tables.version ∙ version;
        projects = o.tables.projects ∙ ap (λ l. from_entries (map project_entry l)) grown.projects;
        rows = o.tables.rows ∙ ap (λ l. from_entries (map result_entry l)) grown.results;
      },
      sym version ∙ o.version,
    )
