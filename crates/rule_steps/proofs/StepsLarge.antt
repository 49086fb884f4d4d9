-- Rows with too many node types of the next stage.
use Rattle.std.proofs.Common.{◌≡◌, ℕ, zero, suc, ◌+◌, ◌<◌, List, [], ◌∷◌, ◌++◌, length, map, refl, sym, ap, ◌∙◌, subst, arith, inl, inr, Ordering, Less, nat_cmp, length-append, take}
use Rattle.std.specs.Cmp.{nat_cmp_is}
use Rattle.std.specs.Cmp.Lexicographic.{slice_cmp}
use Rattle.std.specs.List.{AllByRecursion, flat_map, range_with_len}
use Rattle.std.specs.List.Sorted.{IsStrictlySortedBy}
use Rattle.std.specs.Ordering.{ordering_then}
use Rattle.std.proofs.lemmas.List.{length-map}
use Rattle.equations.specs.declared.equation.Equation.{Equation}
use Rattle.ordered_lists.specs.Members.{IsIn}
use Rattle.ordered_lists.proofs.Members.{from_map, from_flat_map}
use Rattle.normal_rule.specs.declared.rule.NodeType.{NodeType}
use Rattle.normal_rule.specs.declared.rule.Rule.{Rule}
use Rattle.normal_rule.specs.declared.rule.RuleRow.{RuleRow}
use Rattle.normal_rule.specs.Order.{node_order}
use Rattle.normal_rule.specs.Rule.{nodes_in}
use Rattle.conforming_trees.specs.Conforming.{edge_label_order, labels}
use Rattle.rule_stages.specs.Stages.{IsInNext, NodeTypeOf, node_type_of_order, HasTooLargeNext}
use Rattle.rule_steps.specs.Sets.{HasMany}
use Rattle.rule_steps.specs.Steps.{IsNextRow}
use Rattle.rule_steps.proofs.StepsLabels.{named_order}

-- ascending numbers
abbrev pub AreAscending : List ℕ → Type 0
AreAscending [] = Unit {0}
AreAscending (k ∷ ks) = AllByRecursion (λ l. k < l) ks × AreAscending ks

range_from : (a b n : ℕ) → a < b → AllByRecursion (λ l. a < l) (range_with_len b n)
range_from a b zero h = tt
range_from a b (suc n) h = (h, range_from a (b + 1) n (omega (arith, h)))

pub range_ascends : (a n : ℕ) → AreAscending (range_with_len a n)
range_ascends a zero = tt
range_ascends a (suc n) = (range_from a (a + 1) n (omega arith), range_ascends (a + 1) n)

take_all : (P : ℕ → Type 0) (i : ℕ) (ks : List ℕ) → AllByRecursion P ks → AllByRecursion P (take i ks)
take_all P zero ks h = tt
take_all P (suc i) [] h = tt
take_all P (suc i) (k ∷ ks) h = (h.0, take_all P i ks h.1)

pub take_ascends : (i : ℕ) (ks : List ℕ) → AreAscending ks → AreAscending (take i ks)
take_ascends zero ks h = tt
take_ascends (suc i) [] h = tt
take_ascends (suc i) (k ∷ ks) h = (take_all (λ l. k < l) i ks h.0, take_ascends i ks h.1)

-- sorted lists one behind the other
all_of : {X : Type 0} (P : X → Type 0) (xs : List X) → ((x : X) → IsIn x xs → P x) → AllByRecursion P xs
all_of P [] h = tt
all_of P (x ∷ xs) h = (h x (inl refl), all_of P xs (λ y i. h y (inr i)))

all_of_both : {X : Type 0} (P : X → Type 0) (xs ys : List X) → AllByRecursion P xs → AllByRecursion P ys → AllByRecursion P (xs ++ ys)
all_of_both P [] ys h k = k
all_of_both P (x ∷ xs) ys h k = (h.0, all_of_both P xs ys h.1 k)

append_ascends : (c : NodeTypeOf → NodeTypeOf → Ordering) (xs ys : List NodeTypeOf) →
    IsStrictlySortedBy c xs → IsStrictlySortedBy c ys →
    ((x y : NodeTypeOf) → IsIn x xs → IsIn y ys → c x y ≡ Less) → IsStrictlySortedBy c (xs ++ ys)
unfolding IsStrictlySortedBy
append_ascends c [] ys h k less = k
append_ascends c (x ∷ xs) ys h k less =
    (all_of_both (λ (y : NodeTypeOf). c x y ≡ Less) xs ys h.0 (all_of (λ (y : NodeTypeOf). c x y ≡ Less) ys (λ y i. less x y (inl refl) i)), append_ascends c xs ys h.1 k (λ z y i j. less z y (inr i) j))

-- the node types of a row with their kernel
abbrev named : RuleRow → List NodeTypeOf
named row = map (λ n. (row.kernel.0, labels n)) row.nodes

abbrev pub kernel_numbers : List RuleRow → List ℕ
kernel_numbers rows = map (λ (r : RuleRow). r.kernel.0) rows

above_named : (k : ℕ) (n : NodeType) (ns : List NodeType) →
    AllByRecursion (λ m. node_order n m ≡ Less) ns →
    AllByRecursion (λ y. node_type_of_order (k, labels n) y ≡ Less) (map (λ m. (k, labels m)) ns)
above_named k n [] h = tt
above_named k n (m ∷ ns) h = (named_order k n m ∙ h.0, above_named k n ns h.1)

named_ascends : (k : ℕ) (ns : List NodeType) → IsStrictlySortedBy node_order ns → IsStrictlySortedBy node_type_of_order (map (λ n. (k, labels n)) ns)
unfolding IsStrictlySortedBy
named_ascends k [] h = tt
named_ascends k (n ∷ ns) h = (above_named k n ns h.0, named_ascends k ns h.1)

less_kernel : (x y : NodeTypeOf) → x.0 < y.0 → node_type_of_order x y ≡ Less
less_kernel x y h =
    ap (λ (o : Ordering). ordering_then o (ordering_then (nat_cmp (length x.1) (length y.1)) (slice_cmp edge_label_order x.1 y.1))) (sym (nat_cmp_is x.0 y.0 Less h))

from_named : (row : RuleRow) (x : NodeTypeOf) → IsIn x (named row) → (n : NodeType) × IsIn n row.nodes × (x.0 ≡ row.kernel.0) × (x.1 ≡ labels n)
from_named row x h =
    let n = from_map (λ (m : NodeType). (row.kernel.0, labels m)) x row.nodes h in
    (n.0, n.1, ap (λ (y : NodeTypeOf). y.0) (sym n.2), ap (λ (y : NodeTypeOf). y.1) (sym n.2))

greater_kernel : (k : ℕ) (rows : List RuleRow) (row : RuleRow) → AllByRecursion (λ l. k < l) (kernel_numbers rows) → IsIn row rows → k < row.kernel.0
greater_kernel k [] row h i = absurd i
greater_kernel k (r ∷ rows) row h (inl e) = subst (λ (x : RuleRow). k < x.kernel.0) e h.0
greater_kernel k (r ∷ rows) row h (inr i) = greater_kernel k rows row h.1 i

AreSorted : List RuleRow → Type 0
AreSorted rows = (row : RuleRow) → IsIn row rows → IsStrictlySortedBy node_order row.nodes

all_ascend : (rows : List RuleRow) → AreAscending (kernel_numbers rows) → AreSorted rows → IsStrictlySortedBy node_type_of_order (flat_map named rows)
unfolding IsStrictlySortedBy AreSorted
all_ascend [] h sorted = tt
all_ascend (row ∷ rows) h sorted =
    append_ascends node_type_of_order (named row) (flat_map named rows) (named_ascends row.kernel.0 row.nodes (sorted row (inl refl))) (all_ascend rows h.1 (λ r i. sorted r (inr i)))
    (λ x y i j.
    (let one = from_named row x i in
    let later = from_flat_map named y rows j in
    let two = from_named later.0 y later.2 in
    let less = greater_kernel row.kernel.0 rows later.0 h.0 later.1 in
    let first = one.2 in
    let second = two.2 in
    less_kernel x y (omega (arith, less, first, second))))

count_named : (rows : List RuleRow) → length (flat_map named rows) ≡ nodes_in rows
count_named [] = refl
count_named (row ∷ rows) =
    let both = length-append (named row) (flat_map named rows) in
    let name : NodeType → NodeTypeOf = λ n. (row.kernel.0, labels n) in
    let first = length-map row.nodes name in
    let rest = count_named rows in
    omega (arith, both, first, rest)

module _ (eq : Equation) (rule : Rule) where
  too_large : (rows : List RuleRow) → AreAscending (kernel_numbers rows) → AreSorted rows →
      ((row : RuleRow) (n : NodeType) → IsIn row rows → IsIn n row.nodes → IsInNext eq rule row.kernel.0 (labels n)) →
      2000 < nodes_in rows → HasTooLargeNext eq rule
  too_large rows ascending sorted inside many =
      let count = count_named rows in
      record {
        node_types = flat_map named rows;
        ascending = all_ascend rows ascending sorted;
        many = omega (arith, many, count);
        next = λ x h.
            (let row = from_flat_map named x rows h in
            let n = from_named row.0 x row.2 in
            subst (λ (k : ℕ). IsInNext eq rule k x.1) (sym n.2) (subst (IsInNext eq rule row.0.kernel.0) (sym n.3) (inside row.0 n.0 row.1 n.1)));
      }

  pub rows_too_large : (rows : List RuleRow) → AreAscending (kernel_numbers rows) →
      ((row : RuleRow) → IsIn row rows → IsNextRow eq rule row) → 2000 < nodes_in rows →
      HasTooLargeNext eq rule
  unfolding AreSorted
  rows_too_large rows ascending sets many = too_large rows ascending (λ row i. (sets row i).ascending) (λ row n i j. (sets row i).only n j) many

  pub row_too_large : (k : ℕ) → HasMany (IsInNext eq rule k) → HasTooLargeNext eq rule
  unfolding AreSorted
  row_too_large k h =
      let row : RuleRow = record { kernel = record { 0 = k }; nodes = h.nodes } in
      let many = h.many in
      too_large (row ∷ []) (tt, tt) (λ r i. (elim i [ inl e ↦ subst (λ (x : RuleRow). IsStrictlySortedBy node_order x.nodes) e h.ascending | inr none ↦ absurd none ]))
      (λ r n i j. (elim i [ inl e ↦ subst (λ (x : RuleRow). IsIn n x.nodes → IsInNext eq rule x.kernel.0 (labels n)) e (h.only n) j | inr none ↦ absurd none ])) (omega (arith, many))
