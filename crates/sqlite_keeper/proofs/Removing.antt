-- Rows that are taken out by their numbers, and a row that is put in.
use Rattle.std.proofs.Common.{◌≡◌, ◌||◌, not, ℤ, List, [], ◌∷◌, map, filter, Bool, true, false, cond, refl, sym, ap, subst, ◌∙◌, Ordering, Less, Equal, Greater}
use Rattle.std.specs.List.{AllByRecursion, list_any}
use Rattle.std.specs.List.Sorted.{IsPermutation}
use Rattle.std.specs.Ordering.{is_eq, ordering_reverse, match_ordering}
use Rattle.std.specs.Cmp.{tied_itself}
use Rattle.std.proofs.lemmas.Simd.{map-map}
use Rattle.std.proofs.lemmas.List.Sorted.{IsPermutation-map, IsPermutation-refl, IsPermutation-cons, IsPermutation-trans, IsPermutation-middle, list_any-IsPermutation}
use Rattle.sqlite_value.proofs.OrderLemmas.{value_cmp_total}
use Rattle.sqlite.specs.declared.types.Value.TheVariants.{Int}
use Rattle.sqlite.specs.Order.{Row, value_cmp}
use Rattle.sqlite.specs.Tree.{IsTable, rowid, has_rowid, put_row, without_rowid}
use Rattle.sqlite.specs.Edit.{id_in, without_all, is_taken}
use Rattle.sqlite_rules.specs.Calls.{ids_of}

abbrev pub number_of : Row → ℤ
number_of r = id_in (rowid r)

abbrev pub IsNumbered : Row → Type 0
IsNumbered r = rowid r ≡ Int (number_of r)

abbrev any_of : List ℤ → Row → Bool
any_of ids r = list_any (λ id. has_rowid id r) ids

kept : (rows : List Row) → filter (λ r. not (any_of [] r)) rows ≡ rows
kept [] = refl
kept (r ∷ rows) = ap (λ l. r ∷ l) (kept rows)

twice : (id : ℤ) (ids : List ℤ) (rows : List Row) → filter (λ r. not (any_of ids r)) (without_rowid id rows) ≡ filter (λ r. not (any_of (id ∷ ids) r)) rows
twice id ids [] = refl
twice id ids (r ∷ rows) =
    elim (has_rowid id r) as (λ b. filter (λ x. not (any_of ids x)) (cond (not b) (r ∷ without_rowid id rows) (without_rowid id rows))
    ≡ cond (not (b || any_of ids r)) (r ∷ filter (λ x. not (any_of (id ∷ ids) x)) rows) (filter (λ x. not (any_of (id ∷ ids) x)) rows)) [
      | true ↦ twice id ids rows
      | false ↦ ap (λ (l : List Row). cond (not (any_of ids r)) (r ∷ l) l) (twice id ids rows)
    ]

without_is : (ids : List ℤ) (rows : List Row) → without_all rows ids ≡ filter (λ r. not (any_of ids r)) rows
without_is [] rows = sym (kept rows)
without_is (id ∷ ids) rows = without_is ids (without_rowid id rows) ∙ twice id ids rows

-- the order of the numbers does not matter
in_any_order : (ids others : List ℤ) (rows : List Row) → IsPermutation ids others → without_all rows ids ≡ without_all rows others
in_any_order ids others rows p =
    without_is ids rows
    ∙ (λ i. filter (λ r. not (list_any-IsPermutation (λ id. has_rowid id r) ids others p i)) rows)
    ∙ sym (without_is others rows)

own : (r : Row) → IsNumbered r → has_rowid (number_of r) r ≡ true
own r n = ap (λ v. is_eq (value_cmp (rowid r) v)) (sym n) ∙ ap is_eq (tied_itself value_cmp_total (rowid r))

later : (r b : Row) → IsNumbered r → value_cmp (rowid r) (rowid b) ≡ Less → has_rowid (number_of r) b ≡ false
later r b n below = ap (λ v. is_eq (value_cmp (rowid b) v)) (sym n) ∙ ap is_eq (value_cmp_total.antisymm (rowid b) (rowid r) ∙ ap ordering_reverse below)

earlier : (r b : Row) → IsNumbered b → value_cmp (rowid r) (rowid b) ≡ Less → has_rowid (number_of b) r ≡ false
earlier r b n below = ap (λ v. is_eq (value_cmp (rowid r) v)) (sym n) ∙ ap is_eq below

untouched : (r : Row) (rows : List Row) → IsNumbered r → AllByRecursion (λ b. value_cmp (rowid r) (rowid b) ≡ Less) rows → without_rowid (number_of r) rows ≡ rows
untouched r [] n a = refl
untouched r (b ∷ rows) n a =
    ap (λ t. cond (not t) (b ∷ without_rowid (number_of r) rows) (without_rowid (number_of r) rows)) (later r b n a.0) ∙ ap (λ l. b ∷ l) (untouched r rows n a.1)

head_stays : (r : Row) (rows : List Row) (ids : List ℤ) → AllByRecursion (λ id. has_rowid id r ≡ false) ids → without_all (r ∷ rows) ids ≡ r ∷ without_all rows ids
head_stays r rows [] h = refl
head_stays r rows (id ∷ ids) h =
    ap (λ t. without_all (cond (not t) (r ∷ without_rowid id rows) (without_rowid id rows)) ids) h.0 ∙ head_stays r (without_rowid id rows) ids h.1

not_first : (p : Row → Bool) (r : Row) (rows : List Row) → AllByRecursion (λ b. value_cmp (rowid r) (rowid b) ≡ Less) rows → AllByRecursion IsNumbered rows
    → AllByRecursion (λ id. has_rowid id r ≡ false) (map number_of (filter p rows))
not_first p r [] a n = tt
not_first p r (b ∷ rows) a n =
    elim (p b) as (λ t. AllByRecursion (λ id. has_rowid id r ≡ false) (map number_of (cond t (b ∷ filter p rows) (filter p rows)))) [
      | true ↦ (earlier r b n.0 a.0, not_first p r rows a.1 n.1)
      | false ↦ not_first p r rows a.1 n.1
    ]

gone : (p : Row → Bool) (rows : List Row) → AllByRecursion IsNumbered rows → IsTable rows → without_all rows (map number_of (filter p rows)) ≡ filter (λ r. not (p r)) rows
gone p [] n t = refl
gone p (r ∷ rows) n t =
    elim (p r) as (λ b. without_all (r ∷ rows) (map number_of (cond b (r ∷ filter p rows) (filter p rows))) ≡ cond (not b) (r ∷ filter (λ x. not (p x)) rows) (filter (λ x. not (p x)) rows)) [
      | true ↦
          ap (λ l. without_all l (map number_of (filter p rows)))
          (ap (λ b. cond (not b) (r ∷ without_rowid (number_of r) rows) (without_rowid (number_of r) rows)) (own r n.0) ∙ untouched r rows n.0 t.0)
          ∙ gone p rows n.1 t.1
      | false ↦ head_stays r rows (map number_of (filter p rows)) (not_first p r rows t.0 n.1) ∙ ap (λ l. r ∷ l) (gone p rows n.1 t.1)
    ]

-- the rows whose numbers were found are taken out, and no other
pub taken_out : (p : Row → Bool) (shown : Row → Row) → ((r : Row) → number_of (shown r) ≡ number_of r) → (rows found : List Row) → AllByRecursion IsNumbered rows → IsTable rows → IsPermutation (map shown (filter p rows)) found
    → without_all rows (ids_of found) ≡ filter (λ r. not (p r)) rows
taken_out p shown same rows found n t h =
    let numbers : map number_of (map shown (filter p rows)) ≡ map number_of (filter p rows) = map-map number_of shown (filter p rows) ∙ alike (filter p rows) in
    let ids : IsPermutation (map number_of (filter p rows)) (ids_of found) = subst (λ l. IsPermutation l (ids_of found)) numbers (IsPermutation-map number_of _ found h) in
    sym (in_any_order (map number_of (filter p rows)) (ids_of found) rows ids) ∙ gone p rows n t
  where
    alike : (rs : List Row) → map (λ r. number_of (shown r)) rs ≡ map number_of rs
    alike [] = refl
    alike (r ∷ rs) = λ i. same r i ∷ alike rs i

pub all_filter : (P : Row → Type 0) (p : Row → Bool) (rows : List Row) → AllByRecursion P rows → AllByRecursion P (filter p rows)
all_filter P p [] a = tt
all_filter P p (r ∷ rows) a = elim (p r) as (λ b. AllByRecursion P (cond b (r ∷ filter p rows) (filter p rows))) [ true ↦ (a.0, all_filter P p rows a.1) | false ↦ all_filter P p rows a.1 ]

pub ordered_filter : (p : Row → Bool) (rows : List Row) → IsTable rows → IsTable (filter p rows)
ordered_filter p [] t = tt
ordered_filter p (r ∷ rows) t =
    elim (p r) as (λ b. IsTable (cond b (r ∷ filter p rows) (filter p rows))) [
      | true ↦ (all_filter (λ b. value_cmp (rowid r) (rowid b) ≡ Less) p rows t.0, ordered_filter p rows t.1)
      | false ↦ ordered_filter p rows t.1
    ]

pub filter_alike : (P : Row → Type 0) (p q : Row → Bool) → ((r : Row) → P r → p r ≡ q r) → (rows : List Row) → AllByRecursion P rows → filter p rows ≡ filter q rows
filter_alike P p q same [] a = refl
filter_alike P p q same (r ∷ rows) a = λ i. cond (same r a.0 i) (r ∷ filter_alike P p q same rows a.1 i) (filter_alike P p q same rows a.1 i)

-- a row with a number of its own comes to the others
pub put_permutes : (new : Row) (rows : List Row) → is_taken rows new ≡ false → IsPermutation (new ∷ rows) (put_row new rows)
put_permutes new [] h = IsPermutation-refl (new ∷ [])
put_permutes new (r ∷ rows) h =
    (elim (value_cmp (rowid r) (rowid new)) as (λ (o : Ordering). (is_eq o || is_taken rows new) ≡ false → IsPermutation (new ∷ r ∷ rows) (match_ordering o (r ∷ put_row new rows) (new ∷ rows) (new ∷ r ∷ rows))) [
      | Less ↦ λ n. IsPermutation-trans (new ∷ r ∷ rows) (r ∷ new ∷ rows) (r ∷ put_row new rows) (IsPermutation-middle (new ∷ []) r rows) (IsPermutation-cons r (new ∷ rows) (put_row new rows) (put_permutes new rows n))
      | Equal ↦ λ n. absurd (let m : true ≡ false = n in cc)
      | Greater ↦ λ n. IsPermutation-refl (new ∷ r ∷ rows)
    ]) h
