-- A stage whose rule has at most 2,000 node types is not too large.
use Rattle.std.proofs.Common.{◌≡◌, ◌+◌, ◌≤◌, List, [], ◌∷◌, ◌++◌, length, map, refl, sym, subst, inl, inr, arith, Ordering, Less, Equal, Greater, nat_cmp, length-append}
use Rattle.std.specs.Ordering.{match_ordering, then_cmp, on}
use Rattle.std.specs.Cmp.{IsTotalOrder}
use Rattle.std.specs.Cmp.Lexicographic.{slice_cmp, lists_total}
use Rattle.std.specs.FinMap.{IsAntisymmetric, slice_cmp-IsAntisymmetric}
use Rattle.std.specs.List.Sorted.{IsStrictlySortedBy}
use Rattle.std.specs.BTreeSet.{insert_key}
use Rattle.std.proofs.lemmas.Cmp.{on_total, then_total, nat_cmp_total}
use Rattle.std.proofs.lemmas.List.{length-map}
use Rattle.std.proofs.lemmas.Map.Lookups.{exact_unsigned}
use Rattle.equations.specs.declared.equation.Equation.{Equation}
use Rattle.ordered_lists.specs.Members.{IsIn, insert_all}
use Rattle.ordered_lists.proofs.Insertion.{insert_all_new, insert_all_sorted}
use Rattle.ordered_lists.proofs.Lengths.{length-within}
use Rattle.ordered_lists.proofs.Members.{in_map, in_append_left, in_append_right}
use Rattle.plain_trees.proofs.OrderLaws.{both_equal}
use Rattle.normal_rule.specs.declared.rule.NodeType.{NodeType}
use Rattle.normal_rule.specs.declared.rule.Rule.{Rule}
use Rattle.normal_rule.specs.declared.rule.RuleRow.{RuleRow}
use Rattle.normal_rule.specs.Rule.{nodes_in, node_count}
use Rattle.conforming_trees.specs.Conforming.{edge_label_order, labels, IsInKernelRow}
use Rattle.conforming_trees.proofs.Labels.{edge_label_total, edge_label_exact}
use Rattle.rule_stages.specs.Stages.{NodeTypeOf, node_type_of_order, IsNextStage, HasTooLargeNext}

length-insert_key-most : {K : Type 0} (c : K → K → Ordering) (ks : List K) (k : K) → length (insert_key c ks k) ≤ 1 + length ks
length-insert_key-most c [] k = omega arith
length-insert_key-most {K} c (x ∷ xs) k =
    elim (c k x) as (λ o. length (match_ordering o (k ∷ x ∷ xs) (x ∷ xs) (x ∷ insert_key c xs k)) ≤ 1 + length (x ∷ xs)) [
      | Less ↦ omega arith
      | Equal ↦ omega arith
      | Greater ↦ omega (arith, length-insert_key-most c xs k)
    ]

length-insert_all-most : {K : Type 0} (c : K → K → Ordering) (ks ns : List K) → length (insert_all c ks ns) ≤ length ks + length ns
length-insert_all-most c ks [] = omega arith
length-insert_all-most c ks (n ∷ ns) = omega (arith, length-insert_key-most c ks n, length-insert_all-most c (insert_key c ks n) ns)

-- a sorted list is no longer than a list, in any order, that has its members
length-among : {K : Type 0} (c : K → K → Ordering) → IsTotalOrder c → IsAntisymmetric c →
    (xs ys : List K) → IsStrictlySortedBy c xs → ((n : K) → IsIn n xs → IsIn n ys) →
    length xs ≤ length ys
unfolding IsStrictlySortedBy
length-among c o exact xs ys s f =
    let few = length-insert_all-most c [] ys in
    let within = length-within c o exact xs (insert_all c [] ys) s (insert_all_sorted c o [] ys tt) (λ n h. insert_all_new c exact [] ys n (f n h)) in
    omega (arith, few, within)

-- the order of node types with their kernels
node_type_of_total : IsTotalOrder node_type_of_order
node_type_of_total =
    then_total (on_total (λ (x : NodeTypeOf). x.0) nat_cmp_total)
    (then_total (on_total (λ (x : NodeTypeOf). length x.1) nat_cmp_total) (on_total (λ (x : NodeTypeOf). x.1) (lists_total edge_label_total)))

node_type_of_exact : IsAntisymmetric node_type_of_order
node_type_of_exact x y h =
    let parts = both_equal (nat_cmp x.0 y.0) (then_cmp (on (λ (z : NodeTypeOf). length z.1) nat_cmp) (on (λ (z : NodeTypeOf). z.1) (slice_cmp edge_label_order)) x y) h in
    let lists = both_equal (nat_cmp (length x.1) (length y.1)) (slice_cmp edge_label_order x.1 y.1) parts.1 in
    let kernel : x.0 ≡ y.0 = exact_unsigned x.0 y.0 parts.0 in
    let edges : x.1 ≡ y.1 = slice_cmp-IsAntisymmetric edge_label_exact x.1 y.1 lists.1 in
    let whole : (x.0, x.1) ≡ (y.0, y.1) = cc in
    whole

-- all node types of a rule with their kernels
abbrev of_row : RuleRow → List NodeTypeOf
of_row row = map (λ n. (row.kernel.0, labels n)) row.nodes

abbrev of_rows : List RuleRow → List NodeTypeOf
of_rows [] = []
of_rows (row ∷ rows) = of_row row ++ of_rows rows

length-of_rows : (rows : List RuleRow) → length (of_rows rows) ≡ nodes_in rows
length-of_rows [] = refl
length-of_rows (row ∷ rows) = omega (arith, length-append (of_row row) (of_rows rows), length-map {B = NodeTypeOf} row.nodes (λ n. (row.kernel.0, labels n)), length-of_rows rows)

in_of_rows : (rows : List RuleRow) (row : RuleRow) (n : NodeType) → IsIn row rows → IsIn n row.nodes → IsIn (row.kernel.0, labels n) (of_rows rows)
in_of_rows [] row n h m = absurd h
in_of_rows (r ∷ rows) row n h m =
    elim h [
      | inl e ↦
          let x : NodeTypeOf = (row.kernel.0, labels n) in
          in_append_left x (of_row r) (of_rows rows) (subst (λ (s : RuleRow). IsIn x (of_row s)) (sym e) (in_map (λ (y : NodeType). (row.kernel.0, labels y)) n row.nodes m))
      | inr later ↦ in_append_right (row.kernel.0, labels n) (of_row r) (of_rows rows) (in_of_rows rows row n later m)
    ]

in_rule : (rule : Rule) (x : NodeTypeOf) → IsInKernelRow rule x.0 x.1 → IsIn x (of_rows rule.rows)
in_rule rule x h =
    let there = in_of_rows rule.rows h.0 h.3.0 h.1 h.3.1 in
    let kernel : h.0.kernel.0 ≡ x.0 = h.2 in
    let edges : labels h.3.0 ≡ x.1 = h.3.2 in
    let same : (h.0.kernel.0, labels h.3.0) ≡ (x.0, x.1) = cc in
    subst (λ (y : NodeTypeOf). IsIn y (of_rows rule.rows)) same there

pub not_too_large : (eq : Equation) (rule next : Rule) → IsNextStage eq rule next → node_count next ≤ 2000 → HasTooLargeNext eq rule → ⊥
not_too_large eq rule next h few large =
    let fit = length-among node_type_of_order node_type_of_total node_type_of_exact large.node_types (of_rows next.rows) large.ascending (λ x i. in_rule next x (h.whole x.0 x.1 (large.next x i))) in
    let count = length-of_rows next.rows in
    let many = large.many in
    absurd (omega (arith, fit, count, many, few))
