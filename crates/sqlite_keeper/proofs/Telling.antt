-- The tests of a store, and what a keeper tells by them.
use Rattle.std.proofs.Common.{◌≡◌, ◌&&◌, ◌==◌, not, ℕ, List, [], ◌∷◌, map, Bool, true, false, cond, Some, None, IfSome, refl, sym, ap, subst, ◌∙◌, arith, Ordering, Less, Equal, Greater, is_lt}
use Rattle.std.specs.List.{AllByRecursion, IsDistinct, list_all}
use Rattle.std.specs.Ordering.{eq_by_cmp}
use Rattle.std.proofs.lemmas.Bool.Decides.{nat_tests}
use Rattle.std.proofs.lemmas.List.Elements.{All-from_recursion, recursion_from_All}
use base.Stored.{Gv, gnil, gnum, gcons}
use Rattle.sqlite.specs.declared.types.Value.{Value}
use Rattle.sqlite.specs.declared.types.Value.TheVariants.{Null, Int, Real, Text, Blob}
use Rattle.sqlite.specs.Order.{Row, column, bytes, value_cmp}
use Rattle.sqlite.specs.Edit.{id_in}
use Rattle.sqlite.specs.Tree.{IsTable, rowid}
use Rattle.sqlite.specs.View.{is_int}
use Rattle.sqlite.specs.Schema.{Schema}
use Rattle.sqlite.specs.Effect.{Database}
use Rattle.sqlite_schema.specs.contracts.schema.Schema.{the_row}
use Rattle.result_keeper.specs.ProjectName.{is_project_name}
use Rattle.result_keeper.specs.Kept.{bytes_cmp, row_cmp, Kept}
use Rattle.result_keeper.specs.Told.{Becomes, Stays}
use Rattle.sqlite_keeper.specs.Schema.{store_schema}
use Rattle.sqlite_keeper.specs.Tables.{project_rows, result_rows, version_in, project_entry, IsProjectRow, IsResultRow, IsStore}
use Rattle.sqlite_keeper.specs.Changes.{HasTables}
use Rattle.sqlite_keeper.specs.Told.{same_code, has_schema, is_text, is_blob, ascends, is_project_row, is_result_row, are_apart, is_store, kept_in, version_of, told_of}

both_true : (a b : Bool) → (a && b) ≡ true → (a ≡ true) × (b ≡ true)
both_true true b h = (refl, h)
both_true false b h = absurd (let m : false ≡ true = h in cc)

true_both : (a b : Bool) → a ≡ true → b ≡ true → (a && b) ≡ true
true_both true b p q = q
true_both false b p q = absurd (let m : false ≡ true = p in cc)

code_refl : (a : Gv) → same_code a a ≡ true
code_refl gnil = refl
code_refl (gnum n) = grind (arith, nat_tests)
code_refl (gcons a b) = true_both (same_code a a) (same_code b b) (code_refl a) (code_refl b)

same_number : (m n : ℕ) → (m == n) ≡ true → m ≡ n
same_number m n h = grind (arith, nat_tests)

number_same : (m n : ℕ) → m ≡ n → (m == n) ≡ true
number_same m n h = grind (arith, nat_tests)

code_same : (a b : Gv) → same_code a b ≡ true → a ≡ b
code_same gnil gnil h = refl
code_same gnil (gnum n) h = absurd (let m : false ≡ true = h in cc)
code_same gnil (gcons c d) h = absurd (let m : false ≡ true = h in cc)
code_same (gnum m) gnil h = absurd (let m : false ≡ true = h in cc)
code_same (gnum m) (gnum n) h = ap gnum (same_number m n h)
code_same (gnum m) (gcons c d) h = absurd (let m : false ≡ true = h in cc)
code_same (gcons a b) gnil h = absurd (let m : false ≡ true = h in cc)
code_same (gcons a b) (gnum n) h = absurd (let m : false ≡ true = h in cc)
code_same (gcons a b) (gcons c d) h = let p = both_true (same_code a c) (same_code b d) h in λ i. gcons (code_same a c p.0 i) (code_same b d p.1 i)

schema_is : (s : Schema) → has_schema s ≡ true → s ≡ store_schema
unfolding has_schema
schema_is s h = the_row.coded.inj s store_schema (code_same _ _ h)

is_schema : (s : Schema) → s ≡ store_schema → has_schema s ≡ true
unfolding has_schema
is_schema s e = ap (λ t. same_code (the_row.coded.code t) (the_row.coded.code store_schema)) e ∙ code_refl (the_row.coded.code store_schema)

int_is : (v : Value) → is_int v ≡ true → v ≡ Int (id_in v)
int_is Null h = absurd (let m : false ≡ true = h in cc)
int_is (Int n) h = refl
int_is (Real x) h = absurd (let m : false ≡ true = h in cc)
int_is (Text t) h = absurd (let m : false ≡ true = h in cc)
int_is (Blob b) h = absurd (let m : false ≡ true = h in cc)

text_is : (v : Value) → is_text v ≡ true → v ≡ Text (bytes v)
text_is Null h = absurd (let m : false ≡ true = h in cc)
text_is (Int n) h = absurd (let m : false ≡ true = h in cc)
text_is (Real x) h = absurd (let m : false ≡ true = h in cc)
text_is (Text t) h = refl
text_is (Blob b) h = absurd (let m : false ≡ true = h in cc)

blob_is : (v : Value) → is_blob v ≡ true → v ≡ Blob (bytes v)
blob_is Null h = absurd (let m : false ≡ true = h in cc)
blob_is (Int n) h = absurd (let m : false ≡ true = h in cc)
blob_is (Real x) h = absurd (let m : false ≡ true = h in cc)
blob_is (Text t) h = absurd (let m : false ≡ true = h in cc)
blob_is (Blob b) h = refl

project_is : (r : Row) → is_project_row r ≡ true → IsProjectRow r
project_is r h =
    let a = both_true (is_int (rowid r)) _ h in
    let b = both_true (is_text (column r 1)) _ a.1 in
    let c = both_true (is_project_name (bytes (column r 1))) _ b.1 in
    record { number = int_is (rowid r) a.0; name = text_is (column r 1) b.0; named = c.0; file = blob_is (column r 2) c.1 }

is_project : (r : Row) → IsProjectRow r → is_project_row r ≡ true
is_project r is =
    true_both (is_int (rowid r)) _ (ap is_int is.number) (true_both (is_text (column r 1)) _ (ap is_text is.name) (true_both (is_project_name (bytes (column r 1))) _ is.named (ap is_blob is.file)))

result_is : (r : Row) → is_result_row r ≡ true → IsResultRow r
result_is r h =
    let a = both_true (is_int (rowid r)) _ h in
    let b = both_true (is_blob (column r 1)) _ a.1 in
    let c = both_true (is_blob (column r 2)) _ b.1 in
    record { number = int_is (rowid r) a.0; context = blob_is (column r 1) b.0; tree = blob_is (column r 2) c.0; value = blob_is (column r 3) c.1 }

is_result : (r : Row) → IsResultRow r → is_result_row r ≡ true
is_result r is = true_both (is_int (rowid r)) _ (ap is_int is.number) (true_both (is_blob (column r 1)) _ (ap is_blob is.context) (true_both (is_blob (column r 2)) _ (ap is_blob is.tree) (ap is_blob is.value)))

module _ {X : Type 0} (p : X → Bool) (P : X → Type 0) where
  all_are : ((x : X) → p x ≡ true → P x) → (xs : List X) → list_all p xs ≡ true → AllByRecursion P xs
  all_are f [] h = tt
  all_are f (x ∷ xs) h = let a = both_true (p x) (list_all p xs) h in (f x a.0, all_are f xs a.1)

  are_all : ((x : X) → P x → p x ≡ true) → (xs : List X) → AllByRecursion P xs → list_all p xs ≡ true
  are_all f [] a = refl
  are_all f (x ∷ xs) a = true_both (p x) (list_all p xs) (f x a.0) (are_all f xs a.1)

less_is : (o : Ordering) → is_lt o ≡ true → o ≡ Less
less_is Less h = refl
less_is Equal h = absurd (let m : false ≡ true = h in cc)
less_is Greater h = absurd (let m : false ≡ true = h in cc)

abbrev below : Row → Row → Bool
below a b = is_lt (value_cmp (rowid a) (rowid b))

table_is : (rows : List Row) → ascends below rows ≡ true → IsTable rows
table_is [] h = tt
table_is (r ∷ rows) h = let a = both_true (list_all (below r) rows) (ascends below rows) h in (all_are (below r) (λ b. value_cmp (rowid r) (rowid b) ≡ Less) (λ b. less_is (value_cmp (rowid r) (rowid b))) rows a.0, table_is rows a.1)

is_table : (rows : List Row) → IsTable rows → ascends below rows ≡ true
is_table [] t = refl
is_table (r ∷ rows) t = true_both (list_all (below r) rows) (ascends below rows) (are_all (below r) (λ b. value_cmp (rowid r) (rowid b) ≡ Less) (λ b e. ap is_lt e) rows t.0) (is_table rows t.1)

not_is : (b : Bool) → not b ≡ true → b ≡ false
not_is true h = absurd (let m : false ≡ true = h in cc)
not_is false h = refl

module _ {K : Type 0} (e : K → K → Bool) where
  distinct_is : (ks : List K) → ascends (λ a b. not (e a b)) ks ≡ true → IsDistinct e ks
  unfolding IsDistinct
  distinct_is [] h = tt
  distinct_is (k ∷ ks) h = let a = both_true (list_all (λ b. not (e k b)) ks) (ascends (λ a b. not (e a b)) ks) h in (all_are (λ b. not (e k b)) (λ b. e k b ≡ false) (λ b. not_is (e k b)) ks a.0, distinct_is ks a.1)

  is_distinct : (ks : List K) → IsDistinct e ks → ascends (λ a b. not (e a b)) ks ≡ true
  unfolding IsDistinct
  is_distinct [] d = refl
  is_distinct (k ∷ ks) d = true_both (list_all (λ b. not (e k b)) ks) (ascends (λ a b. not (e a b)) ks) (are_all (λ b. not (e k b)) (λ b. e k b ≡ false) (λ b h. ap not h) ks d.0) (is_distinct ks d.1)

pub store_is : (db : Database) → is_store db ≡ true → IsStore db
unfolding is_store
store_is db h =
    let a = both_true (has_schema db.schema) _ h in
    let b = both_true (list_all is_project_row (project_rows db)) _ a.1 in
    let c = both_true (list_all is_result_row (result_rows db)) _ b.1 in
    let d = both_true (ascends below (project_rows db)) _ c.1 in
    let e = both_true (ascends below (result_rows db)) _ d.1 in
    let f = both_true (are_apart bytes_cmp (map project_entry (project_rows db))) _ e.1 in
    record {
      schema = schema_is db.schema a.0;
      projects = record {
        typed = All-from_recursion IsProjectRow (project_rows db) (all_are is_project_row IsProjectRow project_is (project_rows db) b.0);
        ordered = table_is (project_rows db) d.0;
        apart = distinct_is (eq_by_cmp bytes_cmp) _ f.0;
      };
      results = record {
        typed = All-from_recursion IsResultRow (result_rows db) (all_are is_result_row IsResultRow result_is (result_rows db) c.0);
        ordered = table_is (result_rows db) e.0;
        apart = distinct_is (eq_by_cmp row_cmp) _ f.1;
      };
    }

pub is_a_store : (db : Database) → IsStore db → is_store db ≡ true
unfolding is_store
is_a_store db is =
    true_both (has_schema db.schema) _ (is_schema db.schema is.schema)
    (true_both (list_all is_project_row (project_rows db)) _ (are_all is_project_row IsProjectRow is_project (project_rows db) (recursion_from_All IsProjectRow (project_rows db) is.projects.typed))
    (true_both (list_all is_result_row (result_rows db)) _ (are_all is_result_row IsResultRow is_result (result_rows db) (recursion_from_All IsResultRow (result_rows db) is.results.typed))
    (true_both (ascends below (project_rows db)) _ (is_table (project_rows db) is.projects.ordered)
    (true_both (ascends below (result_rows db)) _ (is_table (result_rows db) is.results.ordered)
    (true_both (are_apart bytes_cmp (map project_entry (project_rows db))) _ (is_distinct (eq_by_cmp bytes_cmp) _ is.projects.apart) (is_distinct (eq_by_cmp row_cmp) _ is.results.apart))))))

-- ---- what is told

tells_when : (steady old : Bool) (db : Database) → (steady && (version_in db == version_of old && is_store db)) ≡ true → (steady ≡ true) × (version_in db ≡ version_of old) × IsStore db
tells_when steady old db h =
    let a = both_true steady _ h in
    let b = both_true (version_in db == version_of old) _ a.1 in
    (a.0, same_number (version_in db) (version_of old) b.0, store_is db b.1)

tells : (steady old : Bool) (db : Database) → steady ≡ true → version_in db ≡ version_of old → IsStore db → told_of steady old db ≡ Some (kept_in db)
tells steady old db s v is =
    ap (λ b. cond b (Some (kept_in db)) None) (true_both steady _ s (true_both (version_in db == version_of old) _ (number_same (version_in db) (version_of old) v) (is_a_store db is)))

told_if : (steady old : Bool) (db : Database) (P : Kept → Type 0) → (steady ≡ true → version_in db ≡ version_of old → IsStore db → P (kept_in db)) → IfSome (told_of steady old db) P
told_if steady old db P f =
    (elim (steady && (version_in db == version_of old && is_store db)) as (λ b. (steady && (version_in db == version_of old && is_store db)) ≡ b → IfSome (cond b (Some (kept_in db)) None) P) [
      | true ↦ λ h. let t = tells_when steady old db h in f t.0 t.1 t.2
      | false ↦ λ h. tt
    ]) refl

pub told_answer : (steady old : Bool) (db : Database) (P : Kept → Type 0) → (steady ≡ true → IsStore db → P (kept_in db)) → IfSome (told_of steady old db) P
told_answer steady old db P f = told_if steady old db P (λ s v is. f s is)

-- what is told before a call, and what after it
pub told_turns : (steady old young : Bool) (a b : Database) (f : Kept → Kept) → (steady ≡ true → version_in a ≡ version_of old → IsStore a → IsStore b × (kept_in b ≡ f (kept_in a)) × (version_in b ≡ version_of young))
    → Becomes f (told_of steady old a) (told_of steady young b)
told_turns steady old young a b f g =
    (elim (steady && (version_in a == version_of old && is_store a)) as (λ t. (steady && (version_in a == version_of old && is_store a)) ≡ t → Becomes f (cond t (Some (kept_in a)) None) (told_of steady young b)) [
      | true ↦ λ h.
          let t = tells_when steady old a h in
          let it = g t.0 t.1 t.2 in
          tells steady young b t.0 it.2 it.0 ∙ ap (λ k. Some k) it.1
      | false ↦ λ h. tt
    ]) refl

-- the same of a call that leaves the version
pub told_becomes : (steady old : Bool) (a b : Database) (f : Kept → Kept) → ((k : Kept) → (f k).version ≡ k.version) → (steady ≡ true → IsStore a → IsStore b × (kept_in b ≡ f (kept_in a))) → Becomes f (told_of steady old a) (told_of steady old b)
told_becomes steady old a b f leaves g = told_turns steady old old a b f (λ s v is. let it = g s is in (it.0, it.1, ap (λ (k : Kept). k.version) it.1 ∙ leaves (kept_in a) ∙ v))

pub told_stays : (steady old : Bool) (a b : Database) → (steady ≡ true → IsStore a → b ≡ a) → Stays (told_of steady old a) (told_of steady old b)
told_stays steady old a b f = told_becomes steady old a b (λ k. k) (λ k. refl) (λ s is. let same = f s is in (subst IsStore (sym same) is, ap kept_in same))

-- what is asked of a keeper that tells holds of what its database holds
pub told_holds : (steady old : Bool) (db : Database) (P : Kept → Type 0) → IfSome (told_of steady old db) P → steady ≡ true → version_in db ≡ version_of old → IsStore db → P (kept_in db)
told_holds steady old db P h s v is = subst (λ o. IfSome o P) (tells steady old db s v is) h

pub kept_is : (k : Kept) (db : Database) → HasTables k db → kept_in db ≡ k
kept_is k db t = λ i. record { version = t.version i; projects = t.projects i; rows = t.rows i }

pub told_is : (steady old : Bool) (k : Kept) (db : Database) → steady ≡ true → k.version ≡ version_of old → HasTables k db → told_of steady old db ≡ Some k
told_is steady old k db s o t = tells steady old db s (t.version ∙ o) t.is ∙ ap (λ x. Some x) (kept_is k db t)
