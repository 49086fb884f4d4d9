-- The tables of the store, as the database understands their texts.
--   has_table name schema == a table of the schema has this name
--   no_schema == the schema of an empty database
--   project_table, result_table, store_table == the tables `project`, `result` and `store`; a row
--     is its number, then its columns
--   a_column name kind == a column of that name and kind, which takes no NULL
--   first_schema == the schema that has the first two, as stores of version 1 were made
--   store_schema == the schema that has these tables, made in this order
use Rattle.std.specs.Prelude.{ℕ, List, Bool, true, false, [], ◌∷◌, Some, None, codes, pos, bytes_eq}
use Rattle.std.specs.List.{list_any}
use Rattle.sqlite.specs.Collation.TheVariants.{Binary}
use Rattle.sqlite.specs.declared.types.Value.TheVariants.{Null, Int}
use Rattle.sqlite.specs.Table.{Table}
use Rattle.sqlite_schema.specs.declared.schema.Column.{Column}
use Rattle.sqlite.specs.Kind.{Kind}
use Rattle.sqlite.specs.Schema.{Schema}
use Rattle.sqlite.specs.Change.{created}
use Rattle.sqlite.specs.Kind.TheVariants.{Text, Blob, Integer}
use Rattle.sqlite.specs.Term.{lit, col, op2}
use Rattle.sqlite_sql.specs.declared.ops.BinaryOp.TheVariants.{Compare}
use Rattle.sqlite_sql.specs.declared.ops.CompareOp.TheVariants.{Eq}

abbrev pub has_table : List ℕ → Schema → Bool
has_table name schema = list_any (λ t. bytes_eq t.name name) schema.tables

abbrev pub no_schema : Schema
no_schema = record { tables = []; indexes = []; views = [] }

abbrev pub a_column : List ℕ → Kind → Column
a_column name kind = record {
  name = name;
  kind = kind;
  is_strict = true;
  not_null = true;
  default = Null;
  collation = Binary;
}

abbrev pub project_table : Table
project_table = record {
  name = codes "project";
  tree = 0;
  columns = a_column (codes "name") Text ∷ a_column (codes "file") Blob ∷ [];
  key = None;
  primary = 1 ∷ [];
  uniques = (1 ∷ []) ∷ [];
  orders = record { digits = 0 } ∷ [];
  checks = [];
  references = [];
  computed = [];
  stamps = record { places = []; terms = []; formats = [] };
  is_counted = false;
}

abbrev pub result_table : Table
result_table = record {
  name = codes "result";
  tree = 0;
  columns = a_column (codes "context") Blob ∷ a_column (codes "tree") Blob
      ∷ a_column (codes "value") Blob ∷ [];
  key = None;
  primary = [];
  uniques = (1 ∷ 2 ∷ []) ∷ [];
  orders = record { digits = 0 } ∷ [];
  checks = [];
  references = [];
  computed = [];
  stamps = record { places = []; terms = []; formats = [] };
  is_counted = false;
}

abbrev pub store_table : Table
store_table = record {
  name = codes "store";
  tree = 0;
  columns = a_column (codes "one") Integer ∷ a_column (codes "version") Integer ∷ [];
  key = Some 0;
  primary = 0 ∷ [];
  uniques = [];
  orders = [];
  checks = op2 (Compare Eq Binary) (col 1 0) (lit (Int (pos 1))) ∷ [];
  references = [];
  computed = [];
  stamps = record { places = []; terms = []; formats = [] };
  is_counted = false;
}

abbrev pub first_schema : Schema
first_schema = created (created no_schema project_table) result_table

abbrev pub store_schema : Schema
store_schema = created first_schema store_table
