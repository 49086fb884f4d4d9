-- What holds of each look-up in a finite map holds of its entries, and of the rows and contexts
-- that are made of them.
use Rattle.std.proofs.Common.{◌≡◌, ℕ, T, List, [], ◌∷◌, ◌++◌, map, filter, Bool, true, false, cond, ◌||◌, Option, Some, None, refl, sym, ap, subst, ◌∙◌, Ordering, Less, Equal, Greater}
use Rattle.std.specs.Prelude.{fold}
use Rattle.std.specs.Cmp.{IsTotalOrder, Equal-is, tied_itself}
use Rattle.std.specs.FinMap.{FinMap, get, insert, remove, entries, keys, from_entries, find, IsAntisymmetric, is_sorted, entries_sorted, get-entries, get-insert, get-remove, get-from_entries}
use Rattle.std.specs.FinMap.Entries.{below_all}
use Rattle.std.specs.List.{AllByRecursion, list_any, dedup, dedup_from}
use Rattle.std.specs.Ordering.{eq_by_cmp, is_eq, is_lt}
use Rattle.std.specs.Str.{bytes_eq}
use Rattle.std.proofs.lemmas.Slice.Eq.{bytes_eq-Decides}
use Rattle.result_keeper.specs.Kept.{bytes_cmp, row_cmp, Kept, Projects, Rows, within, results_of, contexts_in, contexts_of, put_rows, moved, moved_rows}
use Rattle.result_keeper.proofs.Maps.{first_of, second_of, less_of}
use Rattle.result_keeper.proofs.Moves.{bytes_itself}
use Rattle.result_keeper.proofs.Orders.{bytes_total, bytes_exact, row_total, row_exact}

-- all entries of a map
module _ {K X : Type 0} (R : K → K → Ordering) (exact : IsAntisymmetric R) where
  none_below : (k : K) (es : List (K × X)) → T (below_all R k es) → find R k es ≡ None
  none_below k [] h = refl
  none_below k (e ∷ es) h =
      ap (λ r. cond (is_eq r) (Some e.1) (find R k es))
      (less_of (R k e.0) (first_of (is_lt (R k e.0)) (below_all R k es) h))
      ∙ none_below k es (second_of (is_lt (R k e.0)) (below_all R k es) h)

  found_still : (e : K × X) (es : List (K × X)) → T (below_all R e.0 es) → (k : K) (v : X) →
      find R k es ≡ Some v → find R k (e ∷ es) ≡ Some v
  found_still e es below k v found =
      (elim (eq_by_cmp R k e.0) as
      (λ b. eq_by_cmp R k e.0 ≡ b → cond b (Some e.1) (find R k es) ≡ Some v) [
        | true ↦ λ tied.
            let same : k ≡ e.0 = exact k e.0 ((Equal-is (R k e.0)).0 tied) in
            let none : find R k es ≡ None = ap (λ q. find R q es) same ∙ none_below e.0 es below in
            let both : None ≡ Some v = sym none ∙ found in
            absurd cc
        | false ↦ λ apart. found
      ]) refl

  module _ (total : IsTotalOrder R) where
    found_first : (e : K × X) (es : List (K × X)) → find R e.0 (e ∷ es) ≡ Some e.1
    found_first e es =
        ap (λ r. cond (is_eq r) (Some e.1) (find R e.0 es)) (tied_itself total e.0)

    all_found : (P : K × X → Type 0) (es : List (K × X)) → T (is_sorted R es) →
        ((k : K) (v : X) → find R k es ≡ Some v → P (k, v)) → AllByRecursion P es
    all_found P [] rising h = tt
    all_found P (e ∷ es) rising h =
        let below = first_of (below_all R e.0 es) (is_sorted R es) rising in (
          h e.0 e.1 (found_first e es),
          all_found P es (second_of (below_all R e.0 es) (is_sorted R es) rising)
              (λ k v found. h k v (found_still e es below k v found)),
        )

    pub all_entries : (P : K × X → Type 0) (m : FinMap R X) →
        ((k : K) (v : X) → get m k ≡ Some v → P (k, v)) → AllByRecursion P (entries m)
    all_entries P m h = all_found P (entries m) (entries_sorted m)
        (λ k v found. h k v (get-entries m k ∙ found))

  -- what is found stands in the list
  pub found_in : (P : K × X → Type 0) (es : List (K × X)) (k : K) (v : X) → AllByRecursion P es →
      find R k es ≡ Some v → P (k, v)
  found_in P [] k v all found = absurd cc
  found_in P (e ∷ es) k v all found =
      (elim (eq_by_cmp R k e.0) as
      (λ b. eq_by_cmp R k e.0 ≡ b → cond b (Some e.1) (find R k es) ≡ Some v → P (k, v)) [
        | true ↦ λ tied here.
            let same : k ≡ e.0 = exact k e.0 ((Equal-is (R k e.0)).0 tied) in
            let value : e.1 ≡ v = cc in
            subst P (λ i. (sym same i, value i)) all.0
        | false ↦ λ apart there. found_in P es k v all.1 there
      ]) refl found

abbrev pub Entry : Type 0
Entry = (List ℕ × List ℕ) × List ℕ

pub rows_all : (P : Entry → Type 0) (rows : Rows) →
    ((context tree value : List ℕ) → get rows (context, tree) ≡ Some value →
    P ((context, tree), value)) → AllByRecursion P (entries rows)
rows_all P rows h = all_entries row_cmp row_exact row_total P rows (λ k v there. h k.0 k.1 v there)

-- the rows of one context
pub all_within : (P : List ℕ × List ℕ → Type 0) (context : List ℕ) (es : List Entry) →
    AllByRecursion (λ (e : Entry). e.0.0 ≡ context → P (e.0.1, e.1)) es →
    AllByRecursion P (within context es)
all_within P context [] h = tt
all_within P context (e ∷ es) h =
    (elim (bytes_eq e.0.0 context) as (λ b. bytes_eq e.0.0 context ≡ b → AllByRecursion P
    (map (λ (r : Entry). (r.0.1, r.1))
    (cond b (e ∷ filter (λ (r : Entry). bytes_eq r.0.0 context) es)
    (filter (λ (r : Entry). bytes_eq r.0.0 context) es)))) [
      | true ↦ λ same. (h.0 ((bytes_eq-Decides e.0.0 context).0 same), all_within P context es h.1)
      | false ↦ λ other. all_within P context es h.1
    ]) refl

pub all_results : (P : List ℕ × List ℕ → Type 0) (k : Kept) (context : List ℕ) →
    ((tree value : List ℕ) → get k.rows (context, tree) ≡ Some value → P (tree, value)) →
    AllByRecursion P (results_of k context)
all_results P k context h =
    all_within P context (entries k.rows)
    (rows_all (λ (e : Entry). e.0.0 ≡ context → P (e.0.1, e.1)) k.rows
    (λ c tree value there same.
    h tree value (subst (λ x. get k.rows (x, tree) ≡ Some value) same there)))

-- the contexts
all_deduped_from : (P : List ℕ → Type 0) (x : List ℕ) (xs : List (List ℕ)) → P x →
    AllByRecursion P xs → AllByRecursion P (dedup_from bytes_eq x xs)
all_deduped_from P x [] h all = (h, tt)
all_deduped_from P x (y ∷ ys) h all =
    elim (bytes_eq y x) as
    (λ b. AllByRecursion P (cond b (dedup_from bytes_eq x ys) (x ∷ dedup_from bytes_eq y ys))) [
      | true ↦ all_deduped_from P x ys h all.1
      | false ↦ (h, all_deduped_from P y ys all.0 all.1)
    ]

all_deduped : (P : List ℕ → Type 0) (xs : List (List ℕ)) → AllByRecursion P xs →
    AllByRecursion P (dedup bytes_eq xs)
all_deduped P [] all = tt
all_deduped P (x ∷ xs) all = all_deduped_from P x xs all.0 all.1

all_firsts : (P : List ℕ → Type 0) (es : List Entry) →
    AllByRecursion (λ (e : Entry). P e.0.0) es →
    AllByRecursion P (map (λ r. r.0) (map (λ (e : Entry). e.0) es))
all_firsts P [] all = tt
all_firsts P (e ∷ es) all = (all.0, all_firsts P es all.1)

pub all_contexts : (P : List ℕ → Type 0) (k : Kept) →
    ((context tree value : List ℕ) → get k.rows (context, tree) ≡ Some value → P context) →
    AllByRecursion P (contexts_of k)
all_contexts P k h = all_deduped P (map (λ r. r.0) (keys k.rows))
    (all_firsts P (entries k.rows) (rows_all (λ (e : Entry). P e.0.0) k.rows h))

-- rows that are put
pub put_all : (P : List ℕ → List ℕ × List ℕ → Type 0) (context : List ℕ)
    (given : List (List ℕ × List ℕ)) (rows : Rows) → AllByRecursion (P context) given →
    ((c tree value : List ℕ) → get rows (c, tree) ≡ Some value → P c (tree, value)) →
    (c tree value : List ℕ) → get (put_rows context given rows) (c, tree) ≡ Some value →
    P c (tree, value)
put_all P context [] rows all h c tree value there = h c tree value there
put_all P context (row ∷ given) rows all h c tree value there =
    put_all P context given (insert rows (context, row.0) row.1) all.1 one_more c tree value there
  where
    one_more : (c tree value : List ℕ) →
        get (insert rows (context, row.0) row.1) (c, tree) ≡ Some value → P c (tree, value)
    one_more c tree value there =
        (elim (eq_by_cmp row_cmp (c, tree) (context, row.0)) as
        (λ b. eq_by_cmp row_cmp (c, tree) (context, row.0) ≡ b →
        cond b (Some row.1) (get rows (c, tree)) ≡ Some value → P c (tree, value)) [
          | true ↦ λ tied is.
              let same = row_exact (c, tree) (context, row.0)
              ((Equal-is (row_cmp (c, tree) (context, row.0))).0 tied) in
              let text : row.1 ≡ value = cc in
              subst (λ (e : Entry). P e.0.0 (e.0.1, e.1)) (λ i. (sym same i, text i)) all.0
          | false ↦ λ apart is. h c tree value is
        ]) refl (sym (get-insert row_total rows (context, row.0) row.1 (c, tree)) ∙ there)

-- rows that are moved
all_moved : (P Q : Entry → Type 0) (pairs : List (List ℕ × List ℕ)) (es : List Entry) →
    ((e : Entry) → P e → Q (moved pairs e)) → AllByRecursion P es →
    AllByRecursion Q (map (moved pairs) es)
all_moved P Q pairs [] h all = tt
all_moved P Q pairs (e ∷ es) h all = (h e all.0, all_moved P Q pairs es h all.1)

pub moved_all : (P Q : Entry → Type 0) (pairs : List (List ℕ × List ℕ)) (rows : Rows) →
    ((context tree value : List ℕ) → get rows (context, tree) ≡ Some value →
    P ((context, tree), value)) → ((e : Entry) → P e → Q (moved pairs e)) →
    (context tree value : List ℕ) → get (moved_rows pairs rows) (context, tree) ≡ Some value →
    Q ((context, tree), value)
moved_all P Q pairs rows all h context tree value there =
    found_in row_cmp row_exact Q (map (moved pairs) (entries rows)) (context, tree) value
    (all_moved P Q pairs (entries rows) h (rows_all P rows all))
    (sym (get-from_entries row_total (map (moved pairs) (entries rows)) (context, tree)) ∙ there)

-- the files of projects
pub other_projects : (projects : Projects) (name other file : List ℕ) →
    get (remove projects name) other ≡ Some file → get projects other ≡ Some file
other_projects projects name other file there =
    (elim (eq_by_cmp bytes_cmp other name) as
    (λ b. cond b None (get projects other) ≡ Some file → get projects other ≡ Some file) [
      | true ↦ λ none. absurd cc
      | false ↦ λ some. some
    ]) (sym (get-remove bytes_total projects name other) ∙ there)

pub one_more_project : (P : List ℕ → Type 0) (projects : Projects) (name new : List ℕ) → P new →
    ((other file : List ℕ) → get projects other ≡ Some file → P file) →
    (other file : List ℕ) → get (insert projects name new) other ≡ Some file → P file
one_more_project P projects name new h all other file there =
    (elim (eq_by_cmp bytes_cmp other name) as
    (λ b. cond b (Some new) (get projects other) ≡ Some file → P file) [
      | true ↦ λ is. (let same : new ≡ file = cc in subst P same h)
      | false ↦ λ some. all other file some
    ]) (sym (get-insert bytes_total projects name new other) ∙ there)

-- the context of a row is among the contexts
undeduped_from : (P : List ℕ → Type 0) (x : List ℕ) (xs : List (List ℕ)) →
    AllByRecursion P (dedup_from bytes_eq x xs) → P x × AllByRecursion P xs
undeduped_from P x [] all = (all.0, tt)
undeduped_from P x (y ∷ ys) all =
    (elim (bytes_eq y x) as (λ b. bytes_eq y x ≡ b →
    AllByRecursion P (cond b (dedup_from bytes_eq x ys) (x ∷ dedup_from bytes_eq y ys)) →
    P x × AllByRecursion P (y ∷ ys)) [
      | true ↦ λ same h.
          let rest = undeduped_from P x ys h in
          (rest.0, (subst P (sym ((bytes_eq-Decides y x).0 same)) rest.0, rest.1))
      | false ↦ λ other h. (h.0, undeduped_from P y ys h.1)
    ]) refl all

undeduped : (P : List ℕ → Type 0) (xs : List (List ℕ)) →
    AllByRecursion P (dedup bytes_eq xs) → AllByRecursion P xs
undeduped P [] all = tt
undeduped P (x ∷ xs) all = undeduped_from P x xs all

of_firsts : (P : List ℕ → Type 0) (es : List Entry) →
    AllByRecursion P (map (λ r. r.0) (map (λ (e : Entry). e.0) es)) →
    AllByRecursion (λ (e : Entry). P e.0.0) es
of_firsts P [] all = tt
of_firsts P (e ∷ es) all = (all.0, of_firsts P es all.1)

of_contexts : (P : List ℕ → Type 0) (k : Kept) → AllByRecursion P (contexts_of k) →
    (context tree value : List ℕ) → get k.rows (context, tree) ≡ Some value → P context
of_contexts P k all context tree value there =
    found_in row_cmp row_exact (λ (e : Entry). P e.0.0) (entries k.rows) (context, tree) value
    (of_firsts P (entries k.rows) (undeduped P (map (λ r. r.0) (keys k.rows)) all))
    (sym (get-entries k.rows (context, tree)) ∙ there)

more_among : (x : List ℕ) (xs ys : List (List ℕ)) →
    AllByRecursion (λ y. list_any (bytes_eq y) xs ≡ true) ys →
    AllByRecursion (λ y. list_any (bytes_eq y) (x ∷ xs) ≡ true) ys
more_among x xs [] all = tt
more_among x xs (y ∷ ys) all = (
  elim (bytes_eq y x) as (λ b. (b || list_any (bytes_eq y) xs) ≡ true) [
    | true ↦ refl
    | false ↦ all.0
  ],
  more_among x xs ys all.1,
)

all_among : (xs : List (List ℕ)) → AllByRecursion (λ x. list_any (bytes_eq x) xs ≡ true) xs
all_among [] = tt
all_among (x ∷ xs) = (
  ap (λ b. b || list_any (bytes_eq x) xs) (bytes_itself x),
  more_among x xs xs (all_among xs),
)

pub context_among : (k : Kept) (context tree value : List ℕ) →
    get k.rows (context, tree) ≡ Some value → list_any (bytes_eq context) (contexts_of k) ≡ true
context_among k = of_contexts (λ c. list_any (bytes_eq c) (contexts_of k) ≡ true) k
    (all_among (contexts_of k))
