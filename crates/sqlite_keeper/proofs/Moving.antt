-- What moving the results of a context leaves, and moving those of several contexts, one after the other.
use Rattle.std.proofs.Common.{◌≡◌, ◌≢◌, not, ◌&&◌, ◌||◌, ℕ, zero, suc, ◌+◌, ◌<◌, List, [], ◌∷◌, ◌++◌, length, get_or, take, drop, map, filter, Bool, true, false, cond, Some, None, unwrap_or, if◌then◌else◌, inl, inr, Ok, Err, Result, All, OnOk, refl, sym, ap, subst, subst₂, ◌∙◌, arith}
use Rattle.std.specs.Option.{option_map}
use Rattle.std.specs.List.{AllByRecursion, flat_map, list_any, list_all}
use Rattle.std.specs.List.Sorted.{IsPermutation}
use Rattle.std.specs.Ordering.{eq_by_cmp}
use Rattle.std.specs.Cmp.{eq_by_cmp_equiv}
use Rattle.std.specs.Str.{bytes_eq}
use Rattle.std.specs.FinMap.{from_entries}
use Rattle.std.proofs.lemmas.Bool.{cases_Bool}
use Rattle.std.proofs.lemmas.Simd.{map-map}
use Rattle.std.proofs.lemmas.List.{length-map, take_more, get_or-map}
use Rattle.std.proofs.lemmas.List.Elements.{All-from_recursion, recursion_from_All, All-take}
use Rattle.std.proofs.lemmas.List.Sorted.{IsPermutation-refl, IsPermutation-cons, IsPermutation-trans, IsPermutation-sym, IsPermutation-middle, IsPermutation-append, IsPermutation-map, All-permutation}
use Rattle.std.proofs.lemmas.Map.Keys.{IsDistinct-IsPermutation}
use Rattle.sqlite.specs.declared.error.Error.{Error}
use Rattle.sqlite.specs.declared.types.Value.TheVariants.{Blob, Null}
use Rattle.sqlite.specs.Order.{Row, column}
use Rattle.sqlite.specs.Kind.TheVariants.{Integer}
use Rattle.sqlite.specs.Cast.{cast, cast_row}
use Rattle.sqlite.specs.Term.{Env, holds}
use Rattle.sqlite.specs.Query.{IsAnswer, output, Output}
use Rattle.sqlite.specs.Program.{overlay}
use Rattle.sqlite.specs.Tree.{IsTable, put_row}
use Rattle.sqlite.specs.Edit.{numbered, put_all, without_all, are_fresh, is_taken}
use Rattle.sqlite.specs.Rowids.TheVariants.{Given}
use Rattle.sqlite.specs.Command.TheVariants.{Update}
use Rattle.sqlite.specs.Effect.{Database}
use Rattle.sqlite.specs.Does.{Does}
use Rattle.sqlite.specs.State.{State, mode_of, Executes, ExecutesInside}
use Rattle.sqlite.specs.Listing.{understood}
use Rattle.sqlite.proofs.Callers.{statement_of, runs_as}
use Rattle.sqlite_rules.specs.Calls.{ids_of}
use Rattle.sqlite_schema.specs.declared.program.Program.{Program}
use Rattle.sqlite_trees.proofs.TreeLemmas.{all-put_row, IsTable-put_row}
use Rattle.result_keeper.specs.Kept.{Kept, bytes_cmp, row_cmp, moved, CanMigrate}
use Rattle.result_keeper.specs.Entries.{context_pair}
use Rattle.result_keeper.specs.declared.ContextPair.{ContextPair}
use Rattle.result_keeper.proofs.Orders.{bytes_total, bytes_exact, row_total, row_exact}
use Rattle.result_keeper.proofs.Maps.{same_in_any_order}
use Rattle.result_keeper.proofs.Moves.{moves, moves_apart, moved_then}
use Rattle.sqlite_keeper.specs.Schema.{store_schema}
use Rattle.sqlite_keeper.specs.Tables.{result_rows, version_told, project_entry, result_entry, AreProjects, IsResultRow, IsStore}
use Rattle.sqlite_keeper.specs.Told.{kept_in}
use Rattle.sqlite_keeper.specs.Changes.{HasTables, HasResults, HasMoved, with_moved}
use Rattle.sqlite_keeper.proofs.Statements.{numbered_result, move_results_text, move_results_query, by_parameter, move_results_is}
use Rattle.sqlite_keeper.proofs.Queries.{blob_test}
use Rattle.sqlite_keeper.proofs.ProjectRows.{weaken}
use Rattle.sqlite_keeper.proofs.Results.{is_within, within_entry}
use Rattle.sqlite_keeper.proofs.Removing.{IsNumbered, taken_out, all_filter, ordered_filter, put_permutes}
use Rattle.sqlite_keeper.proofs.Writing.{changes, cast_int}

abbrev Pairs : Type 0
Pairs = List (List ℕ × List ℕ)

-- ---- rows with numbers of their own come to the others

given_is : (rows news : List Row) → numbered Given rows news ≡ news
given_is rows [] = refl
given_is rows (r ∷ news) = ap (λ l. r ∷ l) (given_is (put_row r rows) news)

first_of : (a b : Bool) → (not a && b) ≡ true → (a ≡ false) × (b ≡ true)
first_of true b h = absurd (let m : false ≡ true = h in cc)
first_of false b h = (refl, h)

put_all_permutes : (news rows : List Row) → are_fresh rows news ≡ true → IsPermutation (news ++ rows) (put_all rows news)
put_all_permutes [] rows h = IsPermutation-refl rows
put_all_permutes (x ∷ news) rows h =
    let p = first_of (is_taken rows x) (are_fresh (put_row x rows) news) h in
    IsPermutation-trans (x ∷ news ++ rows) (news ++ x ∷ rows) (put_all (put_row x rows) news) (IsPermutation-sym (news ++ x ∷ rows) (x ∷ news ++ rows) (IsPermutation-middle news x rows))
    (IsPermutation-trans (news ++ x ∷ rows) (news ++ put_row x rows) (put_all (put_row x rows) news)
    (IsPermutation-append news news (x ∷ rows) (put_row x rows) (IsPermutation-refl news) (put_permutes x rows p.0)) (put_all_permutes news (put_row x rows) p.1))

all_put : (P : Row → Type 0) (news rows : List Row) → AllByRecursion P news → AllByRecursion P rows → AllByRecursion P (put_all rows news)
all_put P [] rows n a = a
all_put P (x ∷ news) rows n a = all_put P news (put_row x rows) n.1 (all-put_row P x rows n.0 a)

ordered_put : (news rows : List Row) → IsTable rows → IsTable (put_all rows news)
ordered_put [] rows t = t
ordered_put (x ∷ news) rows t = ordered_put news (put_row x rows) (IsTable-put_row x rows t)

-- ---- what the statement finds, and what it makes of that

-- the row under another context
abbrev with_context : List ℕ → Row → Row
with_context c r = column r 0 ∷ Blob c ∷ column r 2 ∷ column r 3 ∷ []

abbrev found_row : List ℕ → Row → Row
found_row c r = column r 0 ∷ with_context c r

abbrev step : List ℕ → List ℕ → Row → List Env
step old new r = if list_all (holds ((Blob old ∷ Blob new ∷ []) ∷ r ∷ [])) by_parameter then ((Blob old ∷ Blob new ∷ []) ∷ r ∷ []) ∷ [] else []

shows_found : (old new : List ℕ) (rows : List Row) → map (λ (o : Output). o.1) (map (output move_results_query) (flat_map (step old new) rows)) ≡ map (found_row new) (filter (is_within old) rows)
shows_found old new [] = refl
shows_found old new (r ∷ rows) =
    elim (cases_Bool (is_within old r)) [
      | inl same ↦ rw (blob_test (column r 1) old, same) (ap (λ (l : List Row). found_row new r ∷ l) (shows_found old new rows))
      | inr other ↦ rw (blob_test (column r 1) old, other) (shows_found old new rows)
    ]

abbrev made : Row → Row
made s = cast_row numbered_result (drop 1 s)

made_is : (c : List ℕ) (r : Row) → IsResultRow r → made (found_row c r) ≡ with_context c r
made_is c r is = ap (λ v. v ∷ Blob c ∷ column r 2 ∷ column r 3 ∷ []) (ap (cast Integer) is.number ∙ cast_int _ ∙ sym is.number)

all_made : (c : List ℕ) (rows : List Row) → AllByRecursion IsResultRow rows → map (λ r. made (found_row c r)) rows ≡ map (with_context c) rows
all_made c [] a = refl
all_made c (r ∷ rows) a = λ i. made_is c r a.0 i ∷ all_made c rows a.1 i

all_fit : (c : List ℕ) (rows : List Row) → AllByRecursion IsResultRow rows → AllByRecursion IsResultRow (map (with_context c) rows)
all_fit c [] a = tt
all_fit c (r ∷ rows) a = (record { number = a.0.number; context = refl; tree = a.0.tree; value = a.0.value }, all_fit c rows a.1)

-- some rows are changed, and the others stay
abbrev changed : (Row → Bool) → (Row → Row) → Row → Row
changed p f r = cond (p r) (f r) r

changed_permutes : (p : Row → Bool) (f : Row → Row) (rows : List Row) → IsPermutation (map (changed p f) rows) (map f (filter p rows) ++ filter (λ r. not (p r)) rows)
changed_permutes p f [] = IsPermutation-refl []
changed_permutes p f (r ∷ rows) =
    let some = map f (filter p rows) in
    let others = filter (λ x. not (p x)) rows in
    let rest = changed_permutes p f rows in
    elim (p r) as (λ b. IsPermutation (cond b (f r) r ∷ map (changed p f) rows) (map f (cond b (r ∷ filter p rows) (filter p rows)) ++ cond (not b) (r ∷ others) others)) [
      | true ↦ IsPermutation-cons (f r) (map (changed p f) rows) (some ++ others) rest
      | false ↦
          IsPermutation-trans (r ∷ map (changed p f) rows) (r ∷ some ++ others) (some ++ r ∷ others)
          (IsPermutation-cons r (map (changed p f) rows) (some ++ others) rest)
          (IsPermutation-sym (some ++ r ∷ others) (r ∷ some ++ others) (IsPermutation-middle some r others))
    ]

-- the entry of a changed row is the moved entry
moved_entry : (old new : List ℕ) (r : Row) → IsResultRow r → result_entry (changed (is_within old) (with_context new) r) ≡ moved ((old, new) ∷ []) (result_entry r)
moved_entry old new r is =
    ap (λ b. result_entry (cond b (with_context new r) r)) (within_entry old r is)
    ∙ (elim (bytes_eq (result_entry r).0.0 old) as (λ b. result_entry (cond b (with_context new r) r) ≡ ((unwrap_or (option_map (λ (p : List ℕ × List ℕ). p.1) (cond b (Some (old, new)) None)) (result_entry r).0.0, (result_entry r).0.1), (result_entry r).1)) [
      | true ↦ refl
      | false ↦ refl
    ])

moved_entries : (old new : List ℕ) (rows : List Row) → AllByRecursion IsResultRow rows → map result_entry (map (changed (is_within old) (with_context new)) rows) ≡ map (moved ((old, new) ∷ [])) (map result_entry rows)
moved_entries old new [] a = refl
moved_entries old new (r ∷ rows) a = λ i. moved_entry old new r a.0 i ∷ moved_entries old new rows a.1 i

-- the statement on the rows of a table
moves_rows : (old new : List ℕ) (rows found after : List Row) → AllByRecursion IsResultRow rows → IsTable rows → IsPermutation (map (found_row new) (filter (is_within old) rows)) found
    → after ≡ put_all (without_all rows (ids_of found)) (numbered Given (without_all rows (ids_of found)) (map made found))
    → are_fresh (without_all rows (ids_of found)) (numbered Given (without_all rows (ids_of found)) (map made found)) ≡ true
    → All IsResultRow after × IsTable after × IsPermutation (map (moved ((old, new) ∷ [])) (map result_entry rows)) (map result_entry after)
moves_rows old new rows found after good ordered h is fresh =
    let p = is_within old in
    let f = with_context new in
    let others = filter (λ r. not (p r)) rows in
    let news = map made found in
    let within = all_filter IsResultRow p rows good in
    let numbers = weaken IsResultRow IsNumbered (λ r it. it.number) rows good in
    let left : without_all rows (ids_of found) ≡ others = taken_out p (found_row new) (λ r. refl) rows found numbers ordered h in
    let given : numbered Given (without_all rows (ids_of found)) news ≡ news = given_is (without_all rows (ids_of found)) news in
    let now : after ≡ put_all others news = is ∙ (λ i. put_all (left i) (given i)) in
    let free : are_fresh others news ≡ true = (λ i. are_fresh (sym left i) (sym given i)) ∙ fresh in
    let some : IsPermutation (map f (filter p rows)) news = subst (λ l. IsPermutation l news) (map-map made (found_row new) (filter p rows) ∙ all_made new (filter p rows) within) (IsPermutation-map made (map (found_row new) (filter p rows)) found h) in
    let fit : AllByRecursion IsResultRow news = recursion_from_All IsResultRow news (All-permutation IsResultRow (map f (filter p rows)) news some (All-from_recursion IsResultRow (map f (filter p rows)) (all_fit new (filter p rows) within))) in
    let all : IsPermutation (map (changed p f) rows) (put_all others news) =
    IsPermutation-trans (map (changed p f) rows) (map f (filter p rows) ++ others) (put_all others news) (changed_permutes p f rows)
    (IsPermutation-trans (map f (filter p rows) ++ others) (news ++ others) (put_all others news)
    (IsPermutation-append (map f (filter p rows)) news others others some (IsPermutation-refl others)) (put_all_permutes news others free)) in
    let entries = IsPermutation-map result_entry (map (changed p f) rows) (put_all others news) all in
    subst (λ rs. All IsResultRow rs × IsTable rs × IsPermutation (map (moved ((old, new) ∷ [])) (map result_entry rows)) (map result_entry rs)) (sym now) (
      All-from_recursion IsResultRow (put_all others news) (all_put IsResultRow news others fit (all_filter IsResultRow (λ r. not (p r)) rows good)),
      ordered_put news others (ordered_filter (λ r. not (p r)) rows ordered),
      subst (λ l. IsPermutation l (map result_entry (put_all others news))) (moved_entries old new rows good) entries,
    )

zero_is_not : ◌≢◌ {A = ℕ} 0 2
zero_is_not e = omega (arith, e)

four_is_not : ◌≢◌ {A = ℕ} 4 2
four_is_not e = omega (arith, e)

-- the statement moves the rows of one context
moves_context : (old new : State) (context next : List ℕ) (count : ℕ) → HasResults old.now → Executes move_results_text (Blob context ∷ Blob next ∷ []) old new (Ok count) → HasMoved ((context, next) ∷ []) old.now new.now
moves_context old new context next count is h =
    let params = Blob context ∷ Blob next ∷ [] in
    let db = old.now.trees in
    let rows = result_rows old.now in
    let query : Program = record { lets = []; body = move_results_query } in
    let command = Update 1 query in
    let w = runs_as move_results_text params old new store_schema is.schema command move_results_is.command move_results_is.plain count h in
    let text = statement_of move_results_text (understood store_schema move_results_text) in
    let done = subst (λ s. Does old.step_limit (mode_of old) params (record old.now { schema = s }) text None command (Ok (w.tally, new.now))) is.schema w.changed in
    let it = changes old.step_limit (mode_of old).keys (mode_of old) params numbered_result.name 2 numbered_result.columns None [] ((1 ∷ 2 ∷ []) ∷ []) numbered_result.orders [] 1 query db w.tally new.now done in
    let a : IsAnswer move_results_query (overlay db []) params it.found = it.answers.answer Null in
    let kept = a.distinct ∙ ap (map (output move_results_query)) a.grouped in
    let found : IsPermutation (map (found_row next) (filter (is_within context) rows)) it.found =
    subst₂ IsPermutation (ap (map (λ (o : Output). o.1)) kept ∙ shows_found context next rows) (sym a.shown) (IsPermutation-map (λ (o : Output). o.1) a.kept a.ordered a.same) in
    let now = moves_rows context next rows it.found (result_rows new.now) (recursion_from_All IsResultRow rows is.results) is.ordered found it.rows it.fresh in
    record {
      is = record { schema = it.schema; results = now.0; ordered = now.1 };
      projects = it.others.0 zero_is_not;
      store = it.others.1.1.0 four_is_not;
      entries = now.2;
    }

pub move_within : (old new : State) (context next : List ℕ) (r : Result ℕ Error) → HasResults old.now → ExecutesInside 0 move_results_text (Blob context ∷ Blob next ∷ []) old new r → OnOk r (HasMoved ((context, next) ∷ []) old.now new.now)
move_within old new context next (Err e) is h = tt
move_within old new context next (Ok n) is h = moves_context old new context next n is h.0

-- ---- several contexts, one after the other

moved_none : (es : List ((List ℕ × List ℕ) × List ℕ)) → map (moved []) es ≡ es
moved_none [] = refl
moved_none (e ∷ es) = ap (λ l. e ∷ l) (moved_none es)

pub none_moved : (db : Database) → IsStore db → HasMoved [] db db
none_moved db is = record {
  is = record { schema = is.schema; results = is.results.typed; ordered = is.results.ordered };
  projects = refl;
  store = refl;
  entries = subst (λ l. IsPermutation l (map result_entry (result_rows db))) (sym (moved_none (map result_entry (result_rows db)))) (IsPermutation-refl (map result_entry (result_rows db)));
}

all_moved : (ps : Pairs) (p : List ℕ × List ℕ) (es : List ((List ℕ × List ℕ) × List ℕ)) → AllByRecursion (λ q. bytes_eq q.1 p.0 ≡ false) ps → map (moved (p ∷ [])) (map (moved ps) es) ≡ map (moved (ps ++ p ∷ [])) es
all_moved ps p [] a = refl
all_moved ps p (e ∷ es) a = λ i. moved_then ps p e a i ∷ all_moved ps p es a i

either_false : (a b : Bool) → (a || b) ≡ false → (a ≡ false) × (b ≡ false)
either_false true b h = absurd (let m : true ≡ false = h in cc)
either_false false b h = (refl, h)

none_at : (f : List ℕ × List ℕ → Bool) (ps : Pairs) (i : ℕ) (d : List ℕ × List ℕ) → i < length ps → list_any f ps ≡ false → f (get_or ps i d) ≡ false
none_at f [] i d l h = absurd (omega arith)
none_at f (p ∷ ps) zero d l h = (either_false (f p) (list_any f ps) h).0
none_at f (p ∷ ps) (suc i) d l h = none_at f ps i d (omega arith) (either_false (f p) (list_any f ps) h).1

any_old : (f : List ℕ → Bool) (ps : Pairs) → list_any f (map (λ p. p.0) ps) ≡ list_any (λ p. f p.0) ps
any_old f [] = refl
any_old f (p ∷ ps) = ap (λ b. f p.0 || b) (any_old f ps)

-- no new context of a pair is the old one of another
apart_at : (ps : Pairs) (k : Kept) (i : ℕ) (d : List ℕ × List ℕ) → i < length ps → CanMigrate ps k → AllByRecursion (λ q. bytes_eq q.1 (get_or ps i d).0 ≡ false) (take i ps)
apart_at ps k i d l can =
    recursion_from_All (λ q. bytes_eq q.1 (get_or ps i d).0 ≡ false) (take i ps)
    (All-take (λ q. bytes_eq q.1 (get_or ps i d).0 ≡ false) i ps (λ j e low. none_at (λ p. bytes_eq (get_or ps j e).1 p.0) ps i d l
    (sym (any_old (bytes_eq (get_or ps j e).1) ps) ∙ ap (list_any (bytes_eq (get_or ps j e).1)) can.olds ∙ can.apart j e low)))

-- the contexts that were moved so far, and one more
pub moved_more : (ps more : Pairs) (i : ℕ) (d : List ℕ × List ℕ) (first mid new : Database) → i < length ps → CanMigrate ps (kept_in first) → more ≡ take i ps ++ get_or ps i d ∷ []
    → HasMoved (take i ps) first mid → HasMoved (get_or ps i d ∷ []) mid new → HasMoved more first new
moved_more ps more i d first mid new l can is a b =
    let p = get_or ps i d in
    let es = map result_entry (result_rows first) in
    let es2 = map result_entry (result_rows mid) in
    record {
      is = b.is;
      projects = b.projects ∙ a.projects;
      store = b.store ∙ a.store;
      entries = subst (λ l. IsPermutation l (map result_entry (result_rows new))) (all_moved (take i ps) p es (apart_at ps (kept_in first) i d l can) ∙ ap (λ qs. map (moved qs) es) (sym is))
          (IsPermutation-trans (map (moved (p ∷ [])) (map (moved (take i ps)) es)) (map (moved (p ∷ [])) es2) (map result_entry (result_rows new)) (IsPermutation-map (moved (p ∷ [])) (map (moved (take i ps)) es) es2 a.entries) b.entries);
    }

pub moved_next : (pairs : List ContextPair) (at : ℕ) (pair : ContextPair) (first mid new : Database) → at < length pairs → pair ≡ get_or pairs at pair → CanMigrate (map context_pair pairs) (kept_in first)
    → HasMoved (take at (map context_pair pairs)) first mid → HasMoved (context_pair pair ∷ []) mid new → HasMoved (take (at + 1) (map context_pair pairs)) first new
moved_next pairs at pair first mid new l is can a b =
    let ps = map context_pair pairs in
    let p = context_pair pair in
    let low : at < length ps = omega (arith, l, length-map pairs context_pair) in
    let same : p ≡ get_or ps at p = ap context_pair is ∙ sym (get_or-map context_pair pairs at pair p l) in
    moved_more ps (take (at + 1) ps) at p first mid new low can (take_more ps at p low) a (subst (λ q. HasMoved (q ∷ []) mid new) same b)

-- the store after all were moved
pub moved_tables : (ps : Pairs) (old new : Database) → IsStore old → CanMigrate ps (kept_in old) → HasMoved ps old new → HasTables (with_moved ps (kept_in old)) new
moved_tables ps old new is can m =
    let es = map result_entry (result_rows old) in
    let now = map result_entry (result_rows new) in
    let apart = moves_apart ps es is.results.apart can.olds can.news in
    record {
      is = record {
        schema = m.is.schema;
        projects = subst AreProjects (sym m.projects) is.projects;
        results = record {
          typed = m.is.results;
          ordered = m.is.ordered;
          apart = IsDistinct-IsPermutation (eq_by_cmp row_cmp) (eq_by_cmp_equiv row_total).symm (map (λ e. e.0) (map (moved ps) es)) (map (λ e. e.0) now) (IsPermutation-map (λ e. e.0) (map (moved ps) es) now m.entries) apart;
        };
      };
      version = ap version_told m.store;
      projects = ap (λ l. from_entries (map project_entry l)) m.projects;
      rows = sym (same_in_any_order row_cmp row_total bytes_cmp bytes_total row_exact bytes_exact (map (moved ps) es) now apart m.entries) ∙ moves ps es is.results.apart can.olds can.news;
    }
