-- What the statements compile to.
use Rattle.std.proofs.Common.{◌≡◌, ℕ, pos, negsuc, List, [], ◌∷◌, codes, Bool, true, false, None, refl}
use Rattle.sqlite.specs.Command.TheVariants.{Select, Insert, Update, Delete}
use Rattle.sqlite.specs.Source.TheVariants.{Values}
use Rattle.sqlite.specs.Table.{Table}
use Rattle.sqlite.specs.Command.{Command}
use Rattle.sqlite.specs.Order.{Row}
use Rattle.sqlite.specs.Program.{overlay}
use Rattle.sqlite.specs.State.{State, Shown}
use Rattle.sqlite.specs.Query.{Query, IsAnswer, inner, end}
use Rattle.sqlite.specs.Term.{Term, lit, col, op2}
use Rattle.sqlite.specs.declared.types.Value.TheVariants.{Int, Null}
use Rattle.sqlite.specs.Collation.{Collation}
use Rattle.sqlite.specs.Collation.TheVariants.{Binary}
use Rattle.sqlite_value.specs.declared.keys.Key.{Key}
use Rattle.sqlite_value.specs.Keys.{ascending}
use Rattle.sqlite_sql.specs.declared.ops.BinaryOp.TheVariants.{Compare}
use Rattle.sqlite_sql.specs.declared.ops.CompareOp.TheVariants.{Eq}
use Rattle.sqlite_tied.specs.Compute.{everything}
use Rattle.sqlite.specs.Listing.{understood, reads_listing}
use Rattle.sqlite.proofs.Callers.{IsPlain, command_of, reads_as}
use Rattle.sqlite_keeper.specs.Schema.{store_schema, result_table, store_table}

-- the text is that query over the tables of the store, whose columns have these names
pub record IsQuery (text : List ℕ) (body : Query) (names : List (List ℕ)) : Type 0 where
  pub command : command_of (understood store_schema text) ≡ Select (record { lets = []; body = body }) names
  pub own : reads_listing store_schema text ≡ false
  pub plain : IsPlain (understood store_schema text)

-- the text is that change of them
pub record IsChange (text : List ℕ) (change : Command) : Type 0 where
  pub command : command_of (understood store_schema text) ≡ change
  pub plain : IsPlain (understood store_schema text)

-- what the rows that such a query shows are
pub answer_of : (text : List ℕ) (body : Query) (names : List (List ℕ)) → IsQuery text body names → (params : Row) (old new : State) (rows : List Row) → old.now.schema ≡ store_schema → Shown text params old new rows
    → IsAnswer body (overlay old.now.trees []) params rows
answer_of text body names is params old new rows has h = (reads_as text params old new store_schema has _ is.command is.plain is.own rows h).answer Null

abbrev pub file_text : List ℕ
file_text = codes "SELECT file FROM project WHERE name = ?1"

abbrev pub names_text : List ℕ
names_text = codes "SELECT name FROM project ORDER BY name"

abbrev pub contexts_text : List ℕ
contexts_text = codes "SELECT DISTINCT context FROM result ORDER BY context"

abbrev pub results_text : List ℕ
results_text = codes "SELECT tree, value FROM result WHERE context = ?1 ORDER BY tree"

abbrev query : ℕ → List Term → List Term → Bool → List Collation → List (Term × Key) → Query
query tree filter project distinct collations order = record {
  from = inner tree end;
  filter = filter;
  group = None;
  project = project;
  distinct = distinct;
  collations = collations;
  order = order;
  limit = lit (Int (negsuc 0));
  offset = lit (Int (pos 0));
}

-- the first column is the parameter
abbrev pub by_parameter : List Term
by_parameter = op2 (Compare Eq Binary) (col 1 1) (col 0 0) ∷ []

abbrev pub file_query : Query
file_query = query 0 by_parameter (col 1 2 ∷ []) false [] []

abbrev pub names_query : Query
names_query = query 0 [] (col 1 1 ∷ []) false [] ((col 1 1, ascending Binary) ∷ [])

abbrev pub contexts_query : Query
contexts_query = query 2 [] (col 1 1 ∷ []) true (Binary ∷ []) ((col 1 1, ascending Binary) ∷ [])

abbrev pub results_query : Query
results_query = query 2 by_parameter (col 1 2 ∷ col 1 3 ∷ []) false [] ((col 1 2, ascending Binary) ∷ [])

pub file_is : IsQuery file_text file_query (codes "file" ∷ [])
unfolding understood everything
file_is = record { command = refl; own = refl; plain = (refl, refl) }

pub names_is : IsQuery names_text names_query (codes "name" ∷ [])
unfolding understood everything
names_is = record { command = refl; own = refl; plain = (refl, refl) }

pub contexts_is : IsQuery contexts_text contexts_query (codes "context" ∷ [])
unfolding understood everything
contexts_is = record { command = refl; own = refl; plain = (refl, refl) }

pub results_is : IsQuery results_text results_query (codes "tree" ∷ codes "value" ∷ [])
unfolding understood everything
results_is = record { command = refl; own = refl; plain = (refl, refl) }

-- the tables as they stand in the schema, with the numbers of their trees
abbrev pub numbered_result : Table
numbered_result = record result_table { tree = 2 }

abbrev pub numbered_store : Table
numbered_store = record store_table { tree = 4 }

abbrev pub delete_project_text : List ℕ
delete_project_text = codes "DELETE FROM project WHERE name = ?1"

abbrev pub insert_project_text : List ℕ
insert_project_text = codes "INSERT INTO project(name, file) VALUES (?1, ?2)"

abbrev pub delete_result_text : List ℕ
delete_result_text = codes "DELETE FROM result WHERE context = ?1 AND tree = ?2"

abbrev pub insert_result_text : List ℕ
insert_result_text = codes "INSERT INTO result(context, tree, value) VALUES (?1, ?2, ?3)"

abbrev pub insert_version_text : List ℕ
insert_version_text = codes "INSERT INTO store(one, version) VALUES (1, 2)"

abbrev pub move_results_text : List ℕ
move_results_text = codes "UPDATE result SET context = ?2 WHERE context = ?1"

-- the first two columns are the parameters
abbrev pub by_two_parameters : List Term
by_two_parameters = op2 (Compare Eq Binary) (col 1 1) (col 0 0) ∷ op2 (Compare Eq Binary) (col 1 2) (col 0 1) ∷ []

abbrev pub delete_project_query : Query
delete_project_query = query 0 by_parameter (col 1 0 ∷ []) false [] []

abbrev pub delete_result_query : Query
delete_result_query = query 2 by_two_parameters (col 1 0 ∷ []) false [] []

abbrev pub move_results_query : Query
move_results_query = query 2 by_parameter (col 1 0 ∷ col 1 0 ∷ col 0 1 ∷ col 1 2 ∷ col 1 3 ∷ []) false [] []

abbrev pub project_terms : List Term
project_terms = lit Null ∷ col 0 0 ∷ col 0 1 ∷ []

abbrev pub result_terms : List Term
result_terms = lit Null ∷ col 0 0 ∷ col 0 1 ∷ col 0 2 ∷ []

abbrev pub version_terms : List Term
version_terms = lit (Int (pos 1)) ∷ lit Null ∷ lit (Int (pos 2)) ∷ []

pub delete_project_is : IsChange delete_project_text (Delete 0 (record { lets = []; body = delete_project_query }))
unfolding understood everything
delete_project_is = record { command = refl; plain = (refl, refl) }

pub insert_project_is : IsChange insert_project_text (Insert 0 (Values project_terms 3))
unfolding understood everything
insert_project_is = record { command = refl; plain = (refl, refl) }

pub delete_result_is : IsChange delete_result_text (Delete 1 (record { lets = []; body = delete_result_query }))
unfolding understood everything
delete_result_is = record { command = refl; plain = (refl, refl) }

pub insert_result_is : IsChange insert_result_text (Insert 1 (Values result_terms 4))
unfolding understood everything
insert_result_is = record { command = refl; plain = (refl, refl) }

pub insert_version_is : IsChange insert_version_text (Insert 2 (Values version_terms 3))
unfolding understood everything
insert_version_is = record { command = refl; plain = (refl, refl) }

pub move_results_is : IsChange move_results_text (Update 1 (record { lets = []; body = move_results_query }))
unfolding understood everything
move_results_is = record { command = refl; plain = (refl, refl) }

abbrev pub version_text : List ℕ
version_text = codes "SELECT version FROM store"

abbrev pub version_query : Query
version_query = query 4 [] (col 1 2 ∷ []) false [] []

pub version_is : IsQuery version_text version_query (codes "version" ∷ [])
unfolding understood everything
version_is = record { command = refl; own = refl; plain = (refl, refl) }
