-- What DELETE, INSERT and UPDATE make of the rows of a table.
use Rattle.std.proofs.Common.{◌≡◌, ◌≢◌, ℕ, ℤ, List, [], map, drop, length, true, false, cond, Some, None, Option, Ok, refl, sym, ap, subst, ◌∙◌, Bool}
use Rattle.std.specs.List.{AllByRecursion}
use Rattle.std.proofs.lemmas.List.{length-map}
use Rattle.sqlite.specs.declared.types.Value.{Value}
use Rattle.sqlite.specs.declared.types.Value.TheVariants.{Null, Int}
use Rattle.sqlite.specs.Order.{Row}
use Rattle.sqlite.specs.Kind.TheVariants.{Integer}
use Rattle.sqlite.specs.Ops.{unary}
use Rattle.sqlite.specs.Cast.{cast, cast_row}
use Rattle.sqlite.specs.Tree.{Trees}
use Rattle.sqlite.specs.Edit.{Edit, edit_of, numbered, put_all, without_all, are_fresh, taken_by}
use Rattle.sqlite.specs.Rowids.TheVariants.{Chosen, Given}
use Rattle.sqlite.specs.Effect.{Database, Answers, IsSource}
use Rattle.sqlite.specs.Does.{Tally, OnRows}
use Rattle.sqlite.specs.Rows.{Task, Written, stamped}
use Rattle.sqlite.proofs.Callers.{one_step}
use Rattle.sqlite_rules.specs.Calls.{ids_of}
use Rattle.sqlite_schema.specs.declared.schema.Keys.{Keys}
use Rattle.sqlite_schema.specs.declared.schema.Column.{Column}
use Rattle.sqlite_schema.specs.declared.schema.Table.{Table}
use Rattle.sqlite_schema.specs.declared.program.Program.{Program}
use Rattle.sqlite_schema.specs.declared.command.Source.{Source}
use Rattle.sqlite_schema.specs.declared.command.Command.TheVariants.{Insert, Delete, Update}
use Rattle.sqlite_value.specs.declared.keys.Order.{Order}
use Rattle.sqlite_sql.specs.Term.{Term}
use Rattle.sqlite.specs.declared.run.Mode.{Mode}
use Rattle.sqlite_keeper.specs.Schema.{store_schema}
use Rattle.sqlite_keeper.proofs.Undone.{went, same_value}

either : (b : Bool) (x : Value) → cond b x x ≡ x
either true x = refl
either false x = refl

pub cast_null : cast Integer Null ≡ Null
unfolding unary
cast_null = either _ Null

pub cast_int : (n : ℤ) → cast Integer (Int n) ≡ Int n
unfolding unary
cast_int n = either _ (Int n)

-- the other tables have the rows that they had
abbrev pub KeepsOthers : ℕ → Trees → Trees → Type 0
KeepsOthers tree old new = AllByRecursion (λ t. t.tree ≢ tree → new t.tree ≡ old t.tree) store_schema.tables

-- a table that counts no rowids and refers to no other
abbrev pub plain_table : List ℕ → ℕ → List Column → Option ℕ → List ℕ → List (List ℕ) → List Order → List Term → Table
plain_table name tree columns key primary uniques orders checks = record {
  name = name;
  tree = tree;
  columns = columns;
  key = key;
  primary = primary;
  uniques = uniques;
  orders = orders;
  checks = checks;
  references = [];
  computed = [];
  stamps = record { places = []; terms = []; formats = [] };
  is_counted = false;
}

module _ (limit : Option ℕ) (keys : Keys) (mode : Mode) (params : Row) (name : List ℕ) (tree : ℕ) (columns : List Column) (key : Option ℕ) (primary : List ℕ) (uniques : List (List ℕ)) (orders : List Order) (checks : List Term) where
  abbrev pub written_table : Table
  written_table = plain_table name tree columns key primary uniques orders checks

  abbrev pub written_task : Task
  written_task = record { limit = limit; keys = keys; schema = store_schema; table = written_table; params = params }

  pub record Removes (q : Program) (db : Trees) (tally : Tally) (after : Database) : Type 0 where
    pub found : List Row
    pub answers : Answers (record { schema = store_schema; trees = db }) q params found
    pub schema : after.schema ≡ store_schema
    pub rows : after.trees tree ≡ without_all (db tree) (ids_of found)
    pub others : KeepsOthers tree db after.trees
    pub count : tally.rows ≡ Some (length found)

  pub removes : (at : ℕ) (q : Program) (db : Trees) (tally : Tally) (after : Database) → OnRows written_task mode None (Delete at q) db (Ok (tally, after)) → Removes q db tally after
  removes at q db tally after h =
      let done = went h in
      let given = went done.1 in
      let made = went given.2 in
      let end = same_value (went (went done.2).2).2 in
      let edit : Edit = edit_of db written_table (ids_of given.0) Given 0 [] in
      let applies = one_step store_schema keys db made.0 edit refl made.1 in
      let written = same_value made.2 in
      let now : after ≡ record { schema = store_schema; trees = made.0 } = ap (λ (p : Tally × Database). p.1) end ∙ ap (λ (w : Written). record { schema = store_schema; trees = w.trees }) written in
      let width : length (taken_by db edit) ≡ length given.0 = length-map _ _ ∙ length-map given.0 _ in
      record {
        found = given.0;
        answers = given.1;
        schema = ap (λ (d : Database). d.schema) now;
        rows = ap (λ (d : Database). d.trees tree) now ∙ applies.rows;
        others = subst (KeepsOthers tree db) (sym (ap (λ (d : Database). d.trees) now)) applies.tables;
        count = ap (λ (p : Tally × Database). p.0.rows) end ∙ ap (λ (w : Written). Some (length w.rows)) written ∙ ap (λ n. Some n) width;
      }

  pub record Adds (from : Source) (db : Trees) (tally : Tally) (after : Database) : Type 0 where
    pub given : List Row
    pub source : IsSource (record { schema = store_schema; trees = db }) (stamped written_table params) from given
    pub schema : after.schema ≡ store_schema
    pub rows : after.trees tree ≡ put_all (db tree) (numbered Chosen (db tree) (map (cast_row written_table) given))
    pub fresh : are_fresh (db tree) (numbered Chosen (db tree) (map (cast_row written_table) given)) ≡ true
    pub others : KeepsOthers tree db after.trees

  pub adds : (at : ℕ) (from : Source) (db : Trees) (tally : Tally) (after : Database) → OnRows written_task mode None (Insert at from) db (Ok (tally, after)) → Adds from db tally after
  adds at from db tally after h =
      let done = went h in
      let given = went done.1 in
      let made = went (went given.2).2 in
      let counted = went made.2 in
      let end = same_value (went (went done.2).2).2 in
      let edit : Edit = edit_of db written_table [] Chosen 0 given.0 in
      let trees : done.0.trees ≡ made.0 = ap (λ (it : Written). it.trees) (same_value counted.2) ∙ same_value counted.1 in
      let applies = one_step store_schema keys db made.0 edit refl made.1 in
      let now : after ≡ record { schema = store_schema; trees = made.0 } = ap (λ (p : Tally × Database). p.1) end ∙ ap (λ (t : Trees). record { schema = store_schema; trees = t }) trees in
      record {
        given = given.0;
        source = given.1;
        schema = ap (λ (d : Database). d.schema) now;
        rows = ap (λ (d : Database). d.trees tree) now ∙ applies.rows;
        fresh = applies.fresh;
        others = subst (KeepsOthers tree db) (sym (ap (λ (d : Database). d.trees) now)) applies.tables;
      }

  pub record Changes (q : Program) (db : Trees) (tally : Tally) (after : Database) : Type 0 where
    pub found : List Row
    pub answers : Answers (record { schema = store_schema; trees = db }) q params found
    pub schema : after.schema ≡ store_schema
    pub rows : after.trees tree ≡ put_all (without_all (db tree) (ids_of found)) (numbered Given (without_all (db tree) (ids_of found)) (map (λ s. cast_row written_table (drop 1 s)) found))
    pub fresh : are_fresh (without_all (db tree) (ids_of found)) (numbered Given (without_all (db tree) (ids_of found)) (map (λ s. cast_row written_table (drop 1 s)) found)) ≡ true
    pub others : KeepsOthers tree db after.trees

  pub changes : (at : ℕ) (q : Program) (db : Trees) (tally : Tally) (after : Database) → OnRows written_task mode None (Update at q) db (Ok (tally, after)) → Changes q db tally after
  changes at q db tally after h =
      let done = went h in
      let given = went done.1 in
      let made = went given.2 in
      let end = same_value (went (went done.2).2).2 in
      let edit : Edit = edit_of db written_table (ids_of given.0) Given 1 given.0 in
      let applies = one_step store_schema keys db made.0 edit refl made.1 in
      let written = same_value made.2 in
      let now : after ≡ record { schema = store_schema; trees = made.0 } = ap (λ (p : Tally × Database). p.1) end ∙ ap (λ (w : Written). record { schema = store_schema; trees = w.trees }) written in
      record {
        found = given.0;
        answers = given.1;
        schema = ap (λ (d : Database). d.schema) now;
        rows = ap (λ (d : Database). d.trees tree) now ∙ applies.rows;
        fresh = applies.fresh;
        others = subst (KeepsOthers tree db) (sym (ap (λ (d : Database). d.trees) now)) applies.tables;
      }
