-- Rows in the order of a column.
use Rattle.std.proofs.Common.{◌≡◌, ℕ, ◌+◌, List, [], ◌∷◌, map, get_or, true, false, refl, sym, ap, ◌∙◌, arith, Ordering, Less, Equal, Greater, is_lt, All}
use Rattle.std.specs.Ordering.{ordering_then, ordering_reverse, on, is_eq, eq_by_cmp}
use Rattle.std.specs.List.{AllByRecursion, IsDistinct}
use Rattle.std.specs.List.Sorted.{IsSorted}
use Rattle.std.proofs.lemmas.Cmp.{on_total}
use Rattle.sqlite_value.proofs.OrderLemmas.{value_cmp-Text, value_cmp-Blob, then-Equal}
use Rattle.sqlite.specs.declared.types.Value.TheVariants.{Text, Blob}
use Rattle.sqlite.specs.Order.{column, bytes, value_cmp}
use Rattle.sqlite.specs.Query.{Output}
use Rattle.ordered_lists.proofs.Counts.{sorted-cons, first_is_least}
use Rattle.ordered_lists.proofs.Unique.{sorted-rest}
use Rattle.result_keeper.specs.Kept.{bytes_cmp, row_cmp}
use Rattle.result_keeper.proofs.Orders.{bytes_total, row_total}

-- a list that is sorted by an order is sorted by another that is the same on its members
pub sorted_alike : {X : Type 0} (P Q : X → X → Ordering) (Good : X → Type 0) → ((x y : X) → Good x → Good y → P x y ≡ Q x y) → (xs : List X) → All Good xs → IsSorted P xs → IsSorted Q xs
sorted_alike P Q Good same xs all h = λ k d l m. ap is_lt (sym (same (get_or xs (k + 1) d) (get_or xs k d) (all (k + 1) d (omega arith)) (all k d (omega arith)))) ∙ h k d l m

abbrev pub first_cmp : Output → Output → Ordering
first_cmp x y = ordering_then (value_cmp (column x.0 0) (column y.0 0)) Equal

abbrev pub first_bytes : Output → List ℕ
first_bytes o = bytes (column o.0 0)

abbrev pub IsTextFirst : Output → Type 0
IsTextFirst o = column o.0 0 ≡ Text (first_bytes o)

abbrev pub IsBlobFirst : Output → Type 0
IsBlobFirst o = column o.0 0 ≡ Blob (first_bytes o)

pub text_first : (x y : Output) → IsTextFirst x → IsTextFirst y → first_cmp x y ≡ bytes_cmp (first_bytes x) (first_bytes y)
text_first x y p q = then-Equal (value_cmp (column x.0 0) (column y.0 0)) ∙ (λ i. value_cmp (p i) (q i)) ∙ value_cmp-Text (first_bytes x) (first_bytes y)

pub blob_first : (x y : Output) → IsBlobFirst x → IsBlobFirst y → first_cmp x y ≡ bytes_cmp (first_bytes x) (first_bytes y)
blob_first x y p q = then-Equal (value_cmp (column x.0 0) (column y.0 0)) ∙ (λ i. value_cmp (p i) (q i)) ∙ value_cmp-Blob (first_bytes x) (first_bytes y)

abbrev Pair : Type 0
Pair = List ℕ × List ℕ

after : (a b s : Ordering) → a ≡ ordering_reverse b → is_eq a ≡ false → is_lt b ≡ false → is_lt (ordering_then b s) ≡ false
after a Less s h e l = absurd cc
after a Equal s h e l = absurd (let t : is_eq a ≡ true = ap is_eq h in cc)
after a Greater s h e l = refl

-- pairs in the order of their firsts, of which none comes twice
pub rising : (ps : List Pair) → IsSorted (on (λ p. p.0) bytes_cmp) ps → IsDistinct (eq_by_cmp bytes_cmp) (map (λ p. p.0) ps) → IsSorted row_cmp ps
unfolding IsDistinct
rising [] h d = λ k e l m. absurd (omega arith)
rising (p ∷ ps) h d =
    sorted-cons row_cmp row_total p ps
    (rising ps (sorted-rest (on (λ (q : Pair). q.0) bytes_cmp) (on_total (λ (q : Pair). q.0) bytes_total) p ps h) d.1)
    (all_after ps (first_is_least (on (λ (q : Pair). q.0) bytes_cmp) (on_total (λ (q : Pair). q.0) bytes_total) p ps h) d.0)
  where
    all_after : (qs : List Pair) → AllByRecursion (λ q. is_lt (bytes_cmp q.0 p.0) ≡ false) qs → AllByRecursion (λ y. eq_by_cmp bytes_cmp p.0 y ≡ false) (map (λ q. q.0) qs) → AllByRecursion (λ q. is_lt (row_cmp q p) ≡ false) qs
    all_after [] a b = tt
    all_after (q ∷ qs) a b = (after (bytes_cmp p.0 q.0) (bytes_cmp q.0 p.0) (bytes_cmp q.1 p.1) (bytes_total.antisymm p.0 q.0) b.0 a.0, all_after qs a.1 b.1)
