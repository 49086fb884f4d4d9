-- Sets of sums of node types.
use Rattle.std.proofs.Common.{◌≡◌, ℕ, zero, suc, ◌+◌, ◌<◌, ◌≤◌, List, [], ◌∷◌, ◌++◌, length, map, take, get_or, refl, sym, ap, ◌∙◌, subst, inl, inr, arith}
use Rattle.std.specs.List.Sorted.{IsStrictlySortedBy}
use Rattle.std.proofs.lemmas.List.{take_more}
use Rattle.ordered_lists.specs.Members.{IsIn, insert_all}
use Rattle.ordered_lists.proofs.Members.{in_append_left, in_append_right, from_append, in_map, from_map}
use Rattle.normal_rule.specs.declared.rule.EdgeType.{EdgeType}
use Rattle.normal_rule.specs.declared.rule.NodeType.{NodeType}
use Rattle.normal_rule.specs.Order.{node_order}
use Rattle.conforming_trees.specs.Conforming.{EdgeLabel, label, labels}
use Rattle.rule_stages.specs.Stages.{join}
use Rattle.rule_steps.specs.Sets.{IsSetOf, HasMany, IsSumOf}
use Rattle.rule_steps.proofs.NodeSets.{AreLabelsIn, set_put, set_none, many_of, many_more, labels_in, in_labels}

-- what is put in for one node type
abbrev pub AreSumsWith : NodeType → List NodeType → List NodeType → Type 0
AreSumsWith x ys ns = map labels ns ≡ map (join (labels x)) (map labels ys)

from_sums_with : (x : NodeType) (ys ns : List NodeType) (es : List EdgeLabel) →
    AreSumsWith x ys ns → AreLabelsIn ns es →
    (y : NodeType) × IsIn y ys × (es ≡ join (labels x) (labels y))
from_sums_with x ys ns es h there =
    let at = from_map (join (labels x)) es (map labels ys) (subst (IsIn es) h (in_labels ns es there)) in
    let y = labels_in ys at.0 at.1 in
    (y.0, y.1, sym at.2 ∙ ap (join (labels x)) (sym y.2))

in_sums_with : (x y : NodeType) (ys ns : List NodeType) (es : List EdgeLabel) →
    AreSumsWith x ys ns → IsIn y ys → es ≡ join (labels x) (labels y) → AreLabelsIn ns es
in_sums_with x y ys ns es h k is =
    let there = in_map (join (labels x)) (labels y) (map labels ys) (in_map labels y ys k) in
    labels_in ns es (subst (IsIn es) (sym h) (subst (λ (l : List EdgeLabel). IsIn l (map (join (labels x)) (map labels ys))) (sym is) there))

sums_more : (xs ys keys ns : List NodeType) (x : NodeType) → AreSumsWith x ys ns →
    IsSetOf (IsSumOf xs ys) keys →
    IsSetOf (IsSumOf (xs ++ x ∷ []) ys) (insert_all node_order keys ns)
sums_more xs ys keys ns x h set =
    set_put (IsSumOf xs ys) (IsSumOf (xs ++ x ∷ []) ys) keys ns set
    (λ es s. (s.0, s.1, in_append_left s.0 xs (x ∷ []) s.2, s.3, s.4))
    (λ es there. let y = from_sums_with x ys ns es h there in (x, y.0, in_append_right x xs (x ∷ []) (inl refl), y.1, y.2))
    (λ es s. elim (from_append s.0 xs (x ∷ []) s.2) [
      | inl before ↦ inl (s.0, s.1, before, s.3, s.4)
      | inr last ↦ inr (in_sums_with x s.1 ys ns es h s.3 (s.4 ∙ ap (λ (z : NodeType). join (labels z) (labels s.1)) (sym (only last))))
    ])
  where
    only : {y : NodeType} → IsIn y (x ∷ []) → x ≡ y
    only k = elim k [ inl e ↦ e | inr none ↦ absurd none ]

pub sums_none : (ys : List NodeType) → IsSetOf (IsSumOf [] ys) []
sums_none ys = set_none (IsSumOf [] ys) (λ es s. absurd s.2)

-- one node type more, from what the loop reads
pub sums_step : (xs ys keys ns next : List NodeType) (i : ℕ) (x : NodeType) → i < length xs →
    x ≡ get_or xs i x → AreSumsWith x ys ns → next ≡ insert_all node_order keys ns →
    IsSetOf (IsSumOf (take i xs) ys) keys → IsSetOf (IsSumOf (take (i + 1) xs) ys) next
sums_step xs ys keys ns next i x lt is h made set =
    let one_more : take (i + 1) xs ≡ take i xs ++ x ∷ [] = take_more xs i x lt ∙ ap (λ (z : NodeType). take i xs ++ z ∷ []) (sym is) in
    rw (one_more, made) (sums_more (take i xs) ys keys ns x h set)

from_take : (xs : List NodeType) (i : ℕ) (x : NodeType) → IsIn x (take i xs) → IsIn x xs
from_take [] zero x h = absurd h
from_take [] (suc i) x h = absurd h
from_take (y ∷ ys) zero x h = absurd h
from_take (y ∷ ys) (suc i) x h = elim h [ inl e ↦ inl e | inr r ↦ inr (from_take ys i x r) ]

-- more than 2,000 sums with the first ones are more than 2,000 of all
pub sums_many : (xs ys keys ns : List NodeType) (i : ℕ) (x : NodeType) → i < length xs →
    x ≡ get_or xs i x → AreSumsWith x ys ns → IsSetOf (IsSumOf (take i xs) ys) keys →
    2000 < length (insert_all node_order keys ns) → HasMany (IsSumOf xs ys)
sums_many xs ys keys ns i x lt is h set more =
    many_more (IsSumOf (take (i + 1) xs) ys) (IsSumOf xs ys) (λ es s. (s.0, s.1, from_take xs (i + 1) s.0 s.2, s.3, s.4))
    (many_of (IsSumOf (take (i + 1) xs) ys) (insert_all node_order keys ns) (sums_step xs ys keys ns (insert_all node_order keys ns) i x lt is h refl set) more)

pub sums_end : (xs ys keys : List NodeType) (i : ℕ) → length xs ≡ i → IsSetOf (IsSumOf (take i xs) ys) keys → IsSetOf (IsSumOf xs ys) keys
sums_end xs ys keys i h set = rw (all_of xs i h) at set
  where
    all_of : (xs : List NodeType) (i : ℕ) → length xs ≡ i → take i xs ≡ xs
    all_of [] zero h = refl
    all_of [] (suc i) h = refl
    all_of (x ∷ xs) zero h = absurd (omega (arith, h))
    all_of (x ∷ xs) (suc i) h = ap (λ (l : List NodeType). x ∷ l) (all_of xs i (omega (arith, h)))

-- with the empty node type alone they are left as they are
no_labels : (es : List EdgeType) → length es ≡ 0 → map label es ≡ []
no_labels [] h = refl
no_labels (e ∷ es) h = absurd (omega (arith, h))

pub sums_empty : (xs ys : List NodeType) (x d : NodeType) → 1 ≤ length xs → length xs < 2 →
    x ≡ get_or xs 0 d → length x.edges ≡ 0 → IsStrictlySortedBy node_order ys →
    IsSetOf (IsSumOf xs ys) ys
sums_empty [] ys x d some one is none ascending = absurd (omega (arith, some))
sums_empty (z ∷ []) ys x d some one is none ascending =
    let empty : labels z ≡ [] = ap labels (sym is) ∙ no_labels x.edges none in
    record {
      ascending = ascending;
      all = λ es s. (s.1, s.3, sym (s.4 ∙ ap (λ (l : List EdgeLabel). join l (labels s.1)) (ap labels (sym (only s.2)) ∙ empty)));
      only = λ n m. (z, n, inl refl, m, ap (λ (l : List EdgeLabel). join l (labels n)) (sym empty));
    }
  where
    only : {y : NodeType} → IsIn y (z ∷ []) → z ≡ y
    only k = elim k [ inl e ↦ e | inr other ↦ absurd other ]
sums_empty (y ∷ z ∷ zs) ys x d some one is none ascending = absurd (omega (arith, one))
