-- Edge types put into sorted lists of edge types: how often each stands there, and order.
use Rattle.std.proofs.Common.{◌≡◌, ℕ, ◌≤◌, true, false, Bool, List, [], ◌∷◌, refl, ap, ◌∙◌, arith, Ordering, Less, Equal, Greater, nat_cmp, is_lt}
use Rattle.std.specs.Ordering.{ordering_reverse, is_gt}
use Rattle.std.specs.Cmp.{IsTotalOrder}
use Rattle.std.specs.Cmp.Lexicographic.{slice_cmp}
use Rattle.std.specs.FinMap.{IsAntisymmetric}
use Rattle.std.specs.List.{AllByRecursion}
use Rattle.std.specs.List.Sorted.{IsSorted}
use Rattle.std.proofs.lemmas.Cmp.{on_total, then_total, nat_cmp_total, nat_list_cmp_total}
use Rattle.std.proofs.lemmas.Map.Lookups.{exact_unsigned, exact_bytes}
use Rattle.ordered_lists.specs.Subs.{IsSubMultiset, count_of}
use Rattle.ordered_lists.proofs.Above.{asymmetric}
use Rattle.ordered_lists.proofs.Counts.{sorted-cons, first_is_least, sub_sorted, sub_counts, sub_from_counts}
use Rattle.ordered_lists.proofs.Unique.{sorted-rest, less-through, by_counts}
use Rattle.plain_trees.specs.Plain.{Plain, bare, graft}
use Rattle.plain_trees.proofs.OrderLaws.{both_equal}
use Rattle.conforming_trees.specs.Conforming.{EdgeLabel, edge_label_order, put_label, node_type_of}

pub edge_label_total : IsTotalOrder edge_label_order
edge_label_total = then_total (on_total (λ (e : EdgeLabel). e.0) nat_cmp_total) (on_total (λ (e : EdgeLabel). e.1) nat_list_cmp_total)

pub edge_label_exact : IsAntisymmetric edge_label_order
edge_label_exact e f h =
    let both = both_equal (nat_cmp e.0 f.0) (slice_cmp nat_cmp e.1 f.1) h in
    let kind : e.0 ≡ f.0 = exact_unsigned e.0 f.0 both.0 in
    let label : e.1 ≡ f.1 = exact_bytes e.1 f.1 both.1 in
    let whole : (e.0, e.1) ≡ (f.0, f.1) = cc in
    whole

abbrev pub IsInLabelOrder : List EdgeLabel → Type 0
IsInLabelOrder es = IsSorted edge_label_order es

abbrev pub count : EdgeLabel → List EdgeLabel → ℕ
count z es = count_of edge_label_order z es

abbrev gt : EdgeLabel → EdgeLabel → Bool
gt e f = is_gt (edge_label_order e f)

stops : (e f : EdgeLabel) (fs : List EdgeLabel) → gt e f ≡ false → put_label e (f ∷ fs) ≡ e ∷ f ∷ fs
stops e f fs h = rw h refl

passes : (e f : EdgeLabel) (fs : List EdgeLabel) → gt e f ≡ true → put_label e (f ∷ fs) ≡ f ∷ put_label e fs
passes e f fs h = rw h refl

-- how often an edge type stands there
count-put-at : (z e f : EdgeLabel) (fs : List EdgeLabel) (a : Bool) → gt e f ≡ a →
    count z (put_label e fs) ≡ count z (e ∷ fs) →
    count z (put_label e (f ∷ fs)) ≡ count z (e ∷ f ∷ fs)
count-put-at z e f fs true h ih = ap (count z) (passes e f fs h) ∙ (omega (arith, ih))
count-put-at z e f fs false h ih = ap (count z) (stops e f fs h)

pub count-put : (z e : EdgeLabel) (es : List EdgeLabel) → count z (put_label e es) ≡ count z (e ∷ es)
count-put z e [] = refl
count-put z e (f ∷ fs) = count-put-at z e f fs (gt e f) refl (count-put z e fs)

-- order
abbrev IsNotBelow : EdgeLabel → List EdgeLabel → Type 0
IsNotBelow x ys = AllByRecursion (λ y. is_lt (edge_label_order y x) ≡ false) ys

not_less : (e f : EdgeLabel) → gt e f ≡ false → is_lt (edge_label_order f e) ≡ false
not_less e f h = go (edge_label_order e f) (edge_label_order f e) (edge_label_total.antisymm f e) h
  where
    go : (a b : Ordering) → b ≡ ordering_reverse a → is_gt a ≡ false → is_lt b ≡ false
    go Less b k l = rw k refl
    go Equal b k l = rw k refl
    go Greater b k l = absurd cc

-- e is not above f, which is not above any of fs
not_below_through : (e f : EdgeLabel) (fs : List EdgeLabel) → is_lt (edge_label_order f e) ≡ false → IsNotBelow f fs → IsNotBelow e fs
not_below_through e f [] h a = tt
not_below_through e f (y ∷ ys) h a = (at (edge_label_order y e) refl, not_below_through e f ys h a.1)
  where
    at : (r : Ordering) → edge_label_order y e ≡ r → is_lt (edge_label_order y e) ≡ false
    at Less k = let below : edge_label_order y f ≡ Less = less-through edge_label_order edge_label_total y e f (edge_label_order f e) refl h k in absurd cc
    at Equal k = rw k refl
    at Greater k = rw k refl

put-all-at : (P : EdgeLabel → Type 0) (e f : EdgeLabel) (fs : List EdgeLabel) (a : Bool) →
    gt e f ≡ a → P e → P f → AllByRecursion P fs → AllByRecursion P (put_label e fs) →
    AllByRecursion P (put_label e (f ∷ fs))
put-all-at P e f fs true h one first rest ih = rw (passes e f fs h) (first, ih)
put-all-at P e f fs false h one first rest ih = rw (stops e f fs h) (one, (first, rest))

-- what is true of the edge type and of those in the list is true of all
pub put-all : (P : EdgeLabel → Type 0) (e : EdgeLabel) (es : List EdgeLabel) → P e → AllByRecursion P es → AllByRecursion P (put_label e es)
put-all P e [] h a = (h, tt)
put-all P e (f ∷ fs) h a = put-all-at P e f fs (gt e f) refl h a.0 a.1 (put-all P e fs h a.1)

put-sorted-at : (e f : EdgeLabel) (fs : List EdgeLabel) (a : Bool) → gt e f ≡ a →
    IsInLabelOrder (f ∷ fs) → IsInLabelOrder (put_label e fs) →
    IsInLabelOrder (put_label e (f ∷ fs))
put-sorted-at e f fs true h s ih =
    let least = first_is_least edge_label_order edge_label_total f fs s in
    let above = not_less f e (asymmetric edge_label_order edge_label_total e f h) in
    rw (passes e f fs h) (sorted-cons edge_label_order edge_label_total f (put_label e fs) ih (put-all (λ (y : EdgeLabel). is_lt (edge_label_order y f) ≡ false) e fs above least))
put-sorted-at e f fs false h s ih =
    let least = first_is_least edge_label_order edge_label_total f fs s in
    let first = not_less e f h in
    rw (stops e f fs h) (sorted-cons edge_label_order edge_label_total e (f ∷ fs) s (first, not_below_through e f fs first least))

pub put-sorted : (e : EdgeLabel) (es : List EdgeLabel) → IsInLabelOrder es → IsInLabelOrder (put_label e es)
put-sorted e [] h = sorted-cons edge_label_order edge_label_total e [] h tt
put-sorted e (f ∷ fs) h = put-sorted-at e f fs (gt e f) refl h (put-sorted e fs (sorted-rest edge_label_order edge_label_total f fs h))

pub node_type-sorted : (t : Plain) → IsInLabelOrder (node_type_of t)
node_type-sorted (bare n) = λ k d l m. absurd (omega arith)
node_type-sorted (graft k p c t) = put-sorted (k, p) (node_type_of t) (node_type-sorted t)

-- two lists in order in which each edge type stands as often are equal
pub same_labels : (es fs : List EdgeLabel) → IsInLabelOrder es → IsInLabelOrder fs → ((z : EdgeLabel) → count z es ≡ count z fs) → es ≡ fs
same_labels = by_counts edge_label_order edge_label_total edge_label_exact

pub part_of_labels : (es fs : List EdgeLabel) → IsInLabelOrder es → IsInLabelOrder fs → ((z : EdgeLabel) → count z es ≤ count z fs) → IsSubMultiset es fs
part_of_labels = sub_from_counts edge_label_order edge_label_total edge_label_exact

pub put-commute : (e f : EdgeLabel) (es : List EdgeLabel) → IsInLabelOrder es → put_label e (put_label f es) ≡ put_label f (put_label e es)
put-commute e f es h =
    same_labels (put_label e (put_label f es)) (put_label f (put_label e es)) (put-sorted e (put_label f es) (put-sorted f es h)) (put-sorted f (put_label e es) (put-sorted e es h))
    (λ z. omega (arith, count-put z e (put_label f es), count-put z f es, count-put z f (put_label e es), count-put z e es))

-- a part of a list, with one more edge type on both sides or on the greater one
pub put-part : (e : EdgeLabel) (es fs : List EdgeLabel) → IsInLabelOrder es → IsInLabelOrder fs →
    IsSubMultiset es fs → IsSubMultiset (put_label e es) (put_label e fs)
put-part e es fs h k sub =
    part_of_labels (put_label e es) (put_label e fs) (put-sorted e es h) (put-sorted e fs k)
    (λ z. omega (arith, count-put z e es, count-put z e fs, sub_counts edge_label_order es fs sub z))

pub put-skip : (e : EdgeLabel) (es fs : List EdgeLabel) → IsInLabelOrder es → IsInLabelOrder fs → IsSubMultiset es fs → IsSubMultiset es (put_label e fs)
put-skip e es fs h k sub =
    part_of_labels es (put_label e fs) h (put-sorted e fs k) (λ z. omega (arith, count-put z e fs, sub_counts edge_label_order es fs sub z))

pub part-sorted : (es fs : List EdgeLabel) → IsSubMultiset es fs → IsInLabelOrder fs → IsInLabelOrder es
part-sorted = sub_sorted edge_label_order edge_label_total
