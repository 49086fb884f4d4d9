-- Rows that are read, one after the other.
use Rattle.std.proofs.Common.{◌≡◌, ◌<◌, ◌≤◌, ◌+◌, ℕ, List, [], ◌∷◌, ◌++◌, map, take, length, get_or, slice_get, option_map, Some, sym, ap, subst, ◌∙◌, take_all}
use Rattle.std.specs.List.{AllByRecursion}
use Rattle.std.proofs.lemmas.List.{map_more, take-map}
use Rattle.std.proofs.lemmas.Option.{slice_get-map, slice_get-get_or}
use Rattle.std.proofs.ByRecursion.{All-push}
use Rattle.ordered_lists.proofs.Members.{in_map, member_at}
use Rattle.antipode_laws.proofs.OtherTerms.{member_of}
use Rattle.result_keeper.specs.declared.parts.StoredRow.{StoredRow}
use Rattle.result_keeper.specs.Entries.{pair_of}

abbrev pub Row : Type 0
Row = List ℕ × List ℕ

module _ (P : Row → Type 0) where
  -- one row more
  pub rows_next : (rows : List StoredRow) (i : ℕ) (row : StoredRow) → i < length rows →
      row ≡ get_or rows i row → AllByRecursion P (map pair_of (take i rows)) → P (pair_of row) →
      AllByRecursion P (map pair_of (take (i + 1) rows))
  rows_next rows i row below is before one =
      subst (λ (rs : List Row). AllByRecursion P rs) (sym (map_more pair_of rows i row below ∙ ap (λ (r : StoredRow). map pair_of (take i rows) ++ pair_of r ∷ []) (sym is)))
      (All-push P (map pair_of (take i rows)) (pair_of row) before one)

  pub rows_done : (rows : List StoredRow) (i : ℕ) → length rows ≤ i → AllByRecursion P (map pair_of (take i rows)) → AllByRecursion P (map pair_of rows)
  rows_done rows i end h = subst (λ (rs : List StoredRow). AllByRecursion P (map pair_of rs)) (take_all i rows end) h

  -- the rows before one
  pub rows_before : (rows : List StoredRow) (i : ℕ) → AllByRecursion P (map pair_of (take i rows)) → AllByRecursion P (take i (map pair_of rows))
  rows_before rows i h = subst (λ (rs : List Row). AllByRecursion P rs) (sym (take-map pair_of i rows)) h

pub row_at : (rows : List StoredRow) (i : ℕ) (row : StoredRow) → i < length rows → row ≡ get_or rows i row → slice_get (map pair_of rows) i ≡ Some (pair_of row)
row_at rows i row below is = slice_get-map pair_of rows i ∙ ap (option_map pair_of) (slice_get-get_or rows i row below ∙ ap Some (sym is))

pub one_of_rows : (P : Row → Type 0) (rows : List StoredRow) (i : ℕ) (row : StoredRow) →
    i < length rows → row ≡ get_or rows i row → AllByRecursion P (map pair_of rows) →
    P (pair_of row)
one_of_rows P rows i row below is all = member_of P (map pair_of rows) (pair_of row) all (in_map pair_of row rows (member_at rows i row below is))
