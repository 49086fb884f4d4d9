-- What counting the rows of a table answers.
use Rattle.std.proofs.Common.{◌≡◌, ℕ, suc, ℤ, filter, min, pos, negsuc, nat_le, nat_lt, codes, List, [], ◌∷◌, map, length, slice_index_or, true, false, Some, refl, sym, ap, subst, ◌∙◌, arith}
use Rattle.std.specs.List.{AllZip, flat_map}
use Rattle.std.specs.List.Sorted.{IsPermutation}
use Rattle.std.specs.FinMap.{len}
use Rattle.std.proofs.lemmas.Bool.Decides.{nat_tests}
use Rattle.std.proofs.lemmas.List.{length-map}
use Rattle.std.proofs.lemmas.List.Sorted.{length_permutation}
use Rattle.sqlite.specs.declared.types.Value.{Value}
use Rattle.sqlite.specs.declared.types.Value.TheVariants.{Int, Null}
use Rattle.sqlite.specs.Collation.TheVariants.{Binary}
use Rattle.sqlite.specs.Order.{Row, column}
use Rattle.sqlite.specs.Term.{Env, lit, col}
use Rattle.sqlite.specs.Query.{Query, IsAnswer, output, Output, inner, end}
use Rattle.sqlite.specs.Program.{overlay}
use Rattle.sqlite.specs.Listing.{understood}
use Rattle.sqlite.specs.State.{State, Shown}
use Rattle.sqlite.specs.Effect.{Database}
use Rattle.sqlite.proofs.Callers.{one_permutation}
use Rattle.sqlite_sql.specs.Aggregate.{count}
use Rattle.sqlite_sql.specs.Group.{Aggregate, Grouping, IsSummary, Summarizes, value_over}
use Rattle.sqlite_sql.specs.declared.aggregate.AggregateOp.TheVariants.{CountRows}
use Rattle.sqlite_tied.specs.Compute.{everything}
use Rattle.result_keeper.specs.Kept.{bytes_cmp, most_projects}
use Rattle.result_keeper.proofs.Orders.{bytes_total}
use Rattle.result_keeper.proofs.Maps.{len-from_entries}
use Rattle.sqlite_keeper.proofs.Statements.{IsQuery, answer_of}
use Rattle.sqlite_keeper.specs.Tables.{project_rows, result_rows, project_entry, projects_in, IsStore}

abbrev pub count_projects_text : List ℕ
count_projects_text = codes "SELECT COUNT(*) FROM project"

abbrev all_rows : Aggregate
all_rows = record { op = CountRows; distinct = false; collation = Binary; argument = lit Null }

abbrev as_one : Grouping
as_one = record { keys = []; collations = []; aggregates = all_rows ∷ []; having = [] }

abbrev pub count_query : ℕ → Query
count_query tree = record {
  from = inner tree end;
  filter = [];
  group = Some as_one;
  project = col 1 0 ∷ [];
  distinct = false;
  collations = [];
  order = [];
  limit = lit (Int (negsuc 0));
  offset = lit (Int (pos 0));
}

pub count_projects_is : IsQuery count_projects_text (count_query 0) (codes "COUNT(*)" ∷ [])
unfolding understood everything
count_projects_is = record { command = refl; own = refl; plain = (refl, refl) }

abbrev Counts : List Env → Aggregate → Value → Type 0
Counts group a v = value_over group a ≡ Some v

one_count : (group : List Env) (values : Row) → AllZip (Counts group) (all_rows ∷ []) values → values ≡ count (length group) ∷ []
one_count group [] h = absurd h
one_count group (v ∷ []) h =
    let found : Some (count (length (map (λ (e : Env). Null) group))) ≡ Some v = h.0 in
    let same : v ≡ count (length (map (λ (e : Env). Null) group)) = cc in
    ap (λ x. x ∷ []) (same ∙ ap count (length-map group (λ (e : Env). Null)))
one_count group (v ∷ w ∷ values) h = absurd h.1

one_summary : (group : List Env) (rows : List Row) → AllZip (IsSummary as_one) (group ∷ []) rows → rows ≡ (count (length group) ∷ []) ∷ []
one_summary group [] h = absurd h
one_summary group (r ∷ []) h = ap (λ x. x ∷ []) (h.0.2 ∙ one_count group h.0.0 h.0.1)
one_summary group (r ∷ s ∷ rows) h = absurd h.1

pub all_matches : (rows : List Row) → length (flat_map (λ (r : Row). ([] ∷ r ∷ []) ∷ []) rows) ≡ length rows
all_matches [] = refl
all_matches (r ∷ rows) = ap suc (all_matches rows)

-- the answer to a count is one row with the number of rows
pub counted : (tree : ℕ) (db : ℕ → List Row) (rows : List Row) → overlay db [] tree ≡ db tree → IsAnswer (count_query tree) (overlay db []) [] rows → rows ≡ (count (length (db tree)) ∷ []) ∷ []
counted tree db rows there a =
    let all = flat_map (λ (r : Row). ([] ∷ r ∷ []) ∷ []) (overlay db [] tree) in
    let s : Summarizes as_one [] all a.staged = a.grouped in
    let order = s.grouping.0 in
    let one = one_summary order s.rows (subst (λ gs. AllZip (IsSummary as_one) gs s.rows) s.grouping.2 s.summaries) in
    let width : length order ≡ length (db tree) = length_permutation all order s.grouping.1 ∙ all_matches (overlay db [] tree) ∙ ap length there in
    let row = count (length (db tree)) ∷ [] in
    let staged : a.staged ≡ ([] ∷ row ∷ []) ∷ [] = s.having ∙ ap (λ rs. filter (λ (e : Env). true) (map (λ (r : Row). [] ∷ r ∷ []) rs)) (one ∙ ap (λ n. (count n ∷ []) ∷ []) width) in
    let o : Output = ([], row) in
    let kept : a.kept ≡ o ∷ [] = a.distinct ∙ ap (map (output (count_query tree))) staged in
    let ordered = one_permutation o a.ordered (subst (λ k. IsPermutation k a.ordered) kept a.same) in
    a.shown ∙ ap (map (λ (p : Output). p.1)) ordered

past : (n : ℕ) → nat_le most_projects (min n 9223372036854775807) ≡ nat_le most_projects n
past n = grind (arith, nat_tests)

some : (n : ℕ) → nat_lt 0 (min n 9223372036854775807) ≡ nat_lt 0 n
some n = grind (arith, nat_tests)

-- the number that is shown is that of the projects, or the greatest that can be shown
pub number_of_rows : (old new : State) (rows : List Row) (z : ℤ) → IsStore old.now → Shown count_projects_text [] old new rows → column (slice_index_or rows 0 []) 0 ≡ Int z
    → z ≡ pos (min (length (project_rows old.now)) 9223372036854775807)
number_of_rows old new rows z is h first =
    let found = counted 0 old.now.trees rows refl (answer_of count_projects_text (count_query 0) _ count_projects_is [] old new rows is.schema h) in
    let number : Int z ≡ count (length (project_rows old.now)) = sym first ∙ ap (λ rs. column (slice_index_or rs 0 []) 0) found in
    cc

-- whether these are as many projects as a keeper takes
pub full_of_rows : (db : Database) → IsStore db → nat_le most_projects (min (length (project_rows db)) 9223372036854775807) ≡ nat_le most_projects (len (projects_in db))
full_of_rows db is =
    let all = project_rows db in
    past (length all) ∙ ap (nat_le most_projects) (sym (len-from_entries bytes_cmp bytes_total (map project_entry all) is.projects.apart ∙ length-map all project_entry))

abbrev pub count_results_text : List ℕ
count_results_text = codes "SELECT COUNT(*) FROM result"

pub count_results_is : IsQuery count_results_text (count_query 2) (codes "COUNT(*)" ∷ [])
unfolding understood everything
count_results_is = record { command = refl; own = refl; plain = (refl, refl) }

-- the number that is shown is that of the results, or the greatest that can be shown
pub number_of_results : (old new : State) (rows : List Row) (z : ℤ) → IsStore old.now → Shown count_results_text [] old new rows → column (slice_index_or rows 0 []) 0 ≡ Int z
    → z ≡ pos (min (length (result_rows old.now)) 9223372036854775807)
number_of_results old new rows z is h first =
    let found = counted 2 old.now.trees rows refl (answer_of count_results_text (count_query 2) _ count_results_is [] old new rows is.schema h) in
    let number : Int z ≡ count (length (result_rows old.now)) = sym first ∙ ap (λ rs. column (slice_index_or rs 0 []) 0) found in
    cc

-- whether there are any
pub some_results : (db : Database) → nat_lt 0 (min (length (result_rows db)) 9223372036854775807) ≡ nat_lt 0 (length (result_rows db))
some_results db = some (length (result_rows db))
