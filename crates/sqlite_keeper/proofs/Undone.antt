-- What a statement leaves that fails.
use Rattle.std.proofs.Common.{◌≡◌, ◌⊎◌, inl, inr, ℕ, List, false, None, Some, slice_get, Option, Ok, Err, Result, IsTrue, OnErr, IfErr, IfOk, sym, subst, ap, ◌∙◌, Vec, Global}
use Rattle.std.proofs.lemmas.Bool.{cases_Bool}
use Rattle.sqlite.specs.declared.error.Error.{Error}
use Rattle.sqlite.specs.Order.{Row}
use Rattle.sqlite.specs.Effect.{Database}
use Rattle.sqlite.specs.State.{State, mode_of, text_of, ShowsRows, Executes, ExecutesIn, RunsCommand, FailsToQuery, FailsToShow, IsNotRun, IsUnchanged, IsRolledBack, Shown, shows_rows}
use Rattle.sqlite.specs.Listing.{understood}
use Rattle.sqlite.proofs.Callers.{IsPlain}
use Rattle.sqlite_resolve.specs.declared.compiled.Compiled.{Compiled}
use Rattle.sqlite_schema.specs.declared.command.Returning.{Returning}
use Rattle.sqlite.specs.Tree.{Trees}
use Rattle.sqlite.specs.Does.{Tally, Does, AtPlace, OnRows}
use Rattle.sqlite.specs.Rows.{Task}
use Rattle.sqlite.specs.declared.run.Mode.{Mode}
use Rattle.sqlite_schema.specs.declared.schema.Table.{Table}
use Rattle.sqlite_schema.specs.declared.command.Command.{Command}
use Rattle.sqlite_schema.specs.declared.command.Command.TheVariants.{Insert, InsertOr, Update, Delete}
use Rattle.sqlite_keeper.specs.Schema.{store_schema}
use Rattle.sqlite_keeper.specs.Tables.{IsStore}
use Rattle.sqlite_keeper.proofs.Queries.{unchanged_as}

-- a part that gave a value did not stop on the way
pub went : {B E R : Type 0} {b : B} {Stops : E → Type 0} → ((stop : E) × Stops stop × (Ok b ≡ Err stop)) ⊎ R → R
went (inl stopped) = absurd (let e = stopped.2 in cc)
went (inr on) = on

pub same_value : {B E : Type 0} {a b : B} → ◌≡◌ {A = Result B E} (Ok a) (Ok b) → a ≡ b
same_value e = cc

abbrev pub IsLeft : State → State → Type 0
IsLeft old new = IsUnchanged old new ⊎ IsRolledBack old new

module _ (sql : List ℕ) (params : Row) (old new : State) (e : Error) where
  not_run : IsNotRun old new sql params e → IsLeft old new
  unfolding IsNotRun
  not_run (inl h) = inl h.1
  not_run (inr h) = inr h.3

  command_left : (c : Compiled) (given : Row) → RunsCommand old new sql c given (Err e) → IsLeft old new
  command_left c given (inl h) = inl h.1
  command_left c given (inr h) = inr h.3

  show_left : (c : Compiled) (given : Row) (r : Option Returning) → FailsToShow old new sql c given e r → IsLeft old new
  show_left c given None h = inl h.3
  show_left c given (Some what) h = command_left c given h

  pub execute_left : Executes sql params old new (Err e) → IsLeft old new
  unfolding ExecutesIn
  execute_left (inl h) = not_run h
  execute_left (inr h) =
      elim (cases_Bool (shows_rows false h.0)) [
        | inl shows ↦ inl (rw shows at h.2).1
        | inr runs ↦ command_left h.0 _ (rw runs at h.2)
      ]

  pub query_left : FailsToQuery sql params old new e → IsLeft old new
  unfolding FailsToQuery
  query_left (inl h) = not_run h
  query_left (inr h) = show_left h.0 _ h.0.returning h.2

-- outside a transaction all is committed, so a rollback changes nothing
pub left_now : (old new : State) → IsLeft old new → (IsTrue old.is_open → old.now ≡ old.committed) → IsTrue new.is_open → new.now ≡ old.now
left_now old new (inl same) settled live = same.0.now_is
left_now old new (inr back) settled live = (back.undone live).0 ∙ sym (settled (back.was_open live))

pub execute_leaves : (sql : List ℕ) (params : Row) (old new : State) (r : Result ℕ Error) → Executes sql params old new r → (IsTrue old.is_open → old.now ≡ old.committed) → IsTrue new.is_open → OnErr r (new.now ≡ old.now)
execute_leaves sql params old new (Ok n) h settled live = tt
execute_leaves sql params old new (Err e) h settled live = left_now old new (execute_left sql params old new e h) settled live

-- a query changes nothing, whether it fails or not
pub query_stays : (sql : List ℕ) (params : Row) (old new : State) (r : Result (Vec Row Global) Error) → IsPlain (understood store_schema sql) → old.now.schema ≡ store_schema
    → IfOk r (λ rows. Shown sql params old new rows.items) → OnErr r (new.now ≡ old.now) → new.now ≡ old.now
query_stays sql params old new (Ok rows) plain has h left = (unchanged_as sql params old new rows.items (subst (λ s. IsPlain (understood s sql)) (sym has) plain) h).0.now_is
query_stays sql params old new (Err e) plain has h left = left

pub query_leaves : (sql : List ℕ) (params : Row) (old new : State) (r : Result (Vec Row Global) Error) → IfErr r (FailsToQuery sql params old new) → (IsTrue old.is_open → old.now ≡ old.committed) → IsTrue new.is_open → OnErr r (new.now ≡ old.now)
query_leaves sql params old new (Ok rows) h settled live = tt
query_leaves sql params old new (Err e) h settled live = left_now old new (query_left sql params old new e h) settled live

-- a query leaves the schema, also where it is a write that shows rows
rows_schema : (limit : Option ℕ) (mode : Mode) (task : Task) (returning : Option Returning) (command : Command) (db : Trees) (tally : Tally) (after : Database) → OnRows task mode returning command db (Ok (tally, after)) → after.schema ≡ task.schema
rows_schema limit mode task returning command db tally after h = ap (λ (p : Tally × Database). p.1.schema) (same_value (went (went (went h).2).2).2)

on_table : (limit : Option ℕ) (mode : Mode) (params : Row) (db : Database) (what : Returning) (command : Command) (tally : Tally) (after : Database) (t : Option Table)
    → AtPlace (λ table. OnRows (record { limit = limit; keys = mode.keys; schema = db.schema; table = table; params = params }) mode (Some what) command db.trees) t (Ok (tally, after)) → after.schema ≡ db.schema
on_table limit mode params db what command tally after None h = absurd cc
on_table limit mode params db what command tally after (Some table) h =
    rows_schema limit mode (record { limit = limit; keys = mode.keys; schema = db.schema; table = table; params = params }) (Some what) command db.trees tally after h

shown_keeps : (limit : Option ℕ) (mode : Mode) (params : Row) (db : Database) (text : List ℕ) (what : Returning) (command : Command) (tally : Tally) (after : Database) → Does limit mode params db text (Some what) command (Ok (tally, after)) → after.schema ≡ db.schema
shown_keeps limit mode params db text what (Insert at from) tally after h = on_table limit mode params db what (Insert at from) tally after (slice_get db.schema.tables at) h
shown_keeps limit mode params db text what (InsertOr at way from clauses) tally after h = on_table limit mode params db what (InsertOr at way from clauses) tally after (slice_get db.schema.tables at) h
shown_keeps limit mode params db text what (Update at q) tally after h = on_table limit mode params db what (Update at q) tally after (slice_get db.schema.tables at) h
shown_keeps limit mode params db text what (Delete at q) tally after h = on_table limit mode params db what (Delete at q) tally after (slice_get db.schema.tables at) h
shown_keeps limit mode params db text what _ tally after h = absurd cc

shown_schema : (sql : List ℕ) (params : Row) (old new : State) (rows : List Row) → Shown sql params old new rows → new.now.schema ≡ old.now.schema
unfolding Shown
shown_schema sql params old new rows h = by_returning h.0 _ h.0.returning h.2
  where
    by_returning : (c : Compiled) (given : Row) (r : Option Returning) → ShowsRows old new sql c given rows r → new.now.schema ≡ old.now.schema
    by_returning c given None it = ap (λ (d : Database). d.schema) it.3.0.now_is
    by_returning c given (Some what) it = shown_keeps old.step_limit (mode_of old) given old.now (text_of sql c) what c.command it.1.tally new.now it.1.changed

-- where one of the two is a store, a query changed nothing
pub query_still : (sql : List ℕ) (params : Row) (old new : State) (r : Result (Vec Row Global) Error) → IsPlain (understood store_schema sql)
    → IfOk r (λ rows. Shown sql params old new rows.items) → OnErr r (new.now ≡ old.now) → IsStore old.now ⊎ IsStore new.now → new.now ≡ old.now
query_still sql params old new (Ok rows) plain h left (inl is) = query_stays sql params old new (Ok rows) plain is.schema h left
query_still sql params old new (Ok rows) plain h left (inr is) = query_stays sql params old new (Ok rows) plain (sym (shown_schema sql params old new rows.items h) ∙ is.schema) h left
query_still sql params old new (Err e) plain h left is = left
