-- Sets of node types in which one edge type is raised by one.
use Rattle.std.proofs.Common.{◌≡◌, ℕ, zero, suc, ◌+◌, ◌≤◌, ◌<◌, List, [], ◌∷◌, ◌⊎◌, ◌++◌, length, map, take, drop, get_or, refl, sym, ap, ◌∙◌, subst, arith, inl, inr}
use Rattle.std.specs.List.{range_with_len}
use Rattle.std.proofs.lemmas.List.{take_more, take-append-drop}
use Rattle.ordered_lists.specs.Members.{IsIn, insert_all}
use Rattle.ordered_lists.proofs.Members.{in_map, from_map, in_append_left, in_append_right, from_append}
use Rattle.normal_rule.specs.declared.rule.NodeType.{NodeType}
use Rattle.normal_rule.specs.Order.{node_order}
use Rattle.conforming_trees.specs.Conforming.{EdgeLabel, labels}
use Rattle.rule_stages.specs.Stages.{join}
use Rattle.rule_steps.specs.Choices.{IsBumpedOf, IsWithBumped}
use Rattle.rule_steps.specs.Sets.{IsSetOf, HasMany, IsBumpedFrom}
use Rattle.rule_steps.specs.Units.{bump_label, IsBumped, bumped_at, all_bumped}
use Rattle.rule_steps.proofs.NodeSets.{AreLabelsIn, set_put, set_none, many_of, many_more, in_labels, labels_in}

-- the list in which the one at a place is raised
is_bumped : (d i : ℕ) (es : List EdgeLabel) → i < length es → IsBumped d es (bumped_at d i es)
is_bumped d i [] h = absurd (omega (arith, h))
is_bumped d zero (e ∷ es) h = inl (refl, refl)
is_bumped d (suc i) (e ∷ es) h = inr (refl, is_bumped d i es (omega (arith, h)))

bumped_place : (d : ℕ) (es rs : List EdgeLabel) → IsBumped d es rs → (i : ℕ) × (i < length es) × (rs ≡ bumped_at d i es)
bumped_place d [] rs h = absurd h
bumped_place d (e ∷ es) [] h = absurd h
bumped_place d (e ∷ es) (r ∷ rs) h =
    elim h [
      | inl here ↦ (0, omega arith, ap (λ (x : EdgeLabel). x ∷ rs) here.0 ∙ ap (λ (l : List EdgeLabel). bump_label d e ∷ l) here.1)
      | inr later ↦
          let rest = bumped_place d es rs later.1 in
          let lt = rest.1 in
          (suc rest.0, omega (arith, lt), ap (λ (x : EdgeLabel). x ∷ rs) later.0 ∙ ap (λ (l : List EdgeLabel). e ∷ l) rest.2)
    ]

from_range : (a n i : ℕ) → IsIn i (range_with_len a n) → (a ≤ i) × (i < a + n)
from_range a zero i h = absurd h
from_range a (suc n) i h =
    elim h [
      | inl e ↦ (omega (arith, e), omega (arith, e))
      | inr later ↦ (let rest = from_range (a + 1) n i later in let one = rest.0 in let two = rest.1 in (omega (arith, one), omega (arith, two)))
    ]

in_range : (a n i k : ℕ) → i ≡ a + k → k < n → IsIn i (range_with_len a n)
in_range a zero i k e h = absurd (omega (arith, h))
in_range a (suc n) i zero e h = inl (omega (arith, e))
in_range a (suc n) i (suc k) e h = inr (in_range (a + 1) n i k (omega (arith, e)) (omega (arith, h)))

from_all_bumped : (d : ℕ) (es fs : List EdgeLabel) → IsIn fs (all_bumped d es) → IsBumpedFrom d es fs
from_all_bumped d es fs h =
    let i = from_map (λ j. join (bumped_at d j es) []) fs (range_with_len 0 (length es)) h in
    let within = from_range 0 (length es) i.0 i.1 in
    let lt = within.1 in
    (bumped_at d i.0 es, is_bumped d i.0 es (omega (arith, lt)), sym i.2)

in_all_bumped : (d : ℕ) (es fs : List EdgeLabel) → IsBumpedFrom d es fs → IsIn fs (all_bumped d es)
in_all_bumped d es fs h =
    let i = bumped_place d es h.0 h.1 in
    let is : join (bumped_at d i.0 es) [] ≡ fs = ap (λ l. join l []) (sym i.2) ∙ sym h.2 in
    subst (λ l. IsIn l (all_bumped d es)) is (in_map (λ j. join (bumped_at d j es) []) i.0 (range_with_len 0 (length es)) (in_range 0 (length es) i.0 i.0 (omega arith) i.1))

-- the node types so far
pub bumped_none : (d : ℕ) → IsSetOf (IsBumpedOf d []) []
bumped_none d = set_none (IsBumpedOf d []) (λ es p. absurd p.1)

module _ (d i : ℕ) (ns : List NodeType) (n : NodeType) (keys bumped : List NodeType) (lt : i < length ns) (at : n ≡ get_or ns i n) (set : IsSetOf (IsBumpedOf d (take i ns)) keys)
    (new : map labels bumped ≡ all_bumped d (labels n)) where
  parts : take (i + 1) ns ≡ take i ns ++ n ∷ []
  parts = take_more ns i n lt ∙ ap (λ m. take i ns ++ m ∷ []) (sym at)

  behind : IsSetOf (IsBumpedOf d (take i ns ++ n ∷ [])) (insert_all node_order keys bumped)
  behind =
      set_put (IsBumpedOf d (take i ns)) (IsBumpedOf d (take i ns ++ n ∷ [])) keys bumped set (λ es p. (p.0, in_append_left p.0 (take i ns) (n ∷ []) p.1, p.2)) added either
    where
      added : (es : List EdgeLabel) → AreLabelsIn bumped es → IsBumpedOf d (take i ns ++ n ∷ []) es
      added es a = (n, in_append_right n (take i ns) (n ∷ []) (inl refl), from_all_bumped d (labels n) es (subst (IsIn es) new (in_labels bumped es a)))

      either : (es : List EdgeLabel) → IsBumpedOf d (take i ns ++ n ∷ []) es → IsBumpedOf d (take i ns) es ⊎ AreLabelsIn bumped es
      either es q =
          elim (from_append q.0 (take i ns) (n ∷ []) q.1) [
            | inl before ↦ inl (q.0, before, q.2)
            | inr last ↦
                elim last [
                  | inl same ↦ inr (labels_in bumped es (subst (IsIn es) (sym new) (in_all_bumped d (labels n) es (subst (λ m. IsBumpedFrom d (labels m) es) (sym same) q.2))))
                  | inr none ↦ absurd none
                ]
          ]

  whole : IsSetOf (IsBumpedOf d (take (i + 1) ns)) (insert_all node_order keys bumped)
  whole = subst (λ l. IsSetOf (IsBumpedOf d l) (insert_all node_order keys bumped)) (sym parts) behind

  pub bumped_more : (next : List NodeType) → next ≡ insert_all node_order keys bumped → IsSetOf (IsBumpedOf d (take (i + 1) ns)) next
  bumped_more next is = subst (IsSetOf (IsBumpedOf d (take (i + 1) ns))) (sym is) whole

  pub bumped_many : 2000 < length (insert_all node_order keys bumped) → HasMany (IsBumpedOf d ns)
  bumped_many many =
      many_more (IsBumpedOf d (take (i + 1) ns)) (IsBumpedOf d ns) (λ es p. (p.0, in_all p.0 p.1, p.2))
      (many_of (IsBumpedOf d (take (i + 1) ns)) (insert_all node_order keys bumped) whole many)
    where
      in_all : (m : NodeType) → IsIn m (take (i + 1) ns) → IsIn m ns
      in_all m h = subst (IsIn m) (take-append-drop (i + 1) ns) (in_append_left m (take (i + 1) ns) (drop (i + 1) ns) h)

-- what is put behind nothing
pub fresh : (old bumped : List NodeType) (all : List (List EdgeLabel)) → old ≡ [] → map labels bumped ≡ map labels old ++ all → map labels bumped ≡ all
fresh old bumped all none h = h ∙ ap (λ l. map labels l ++ all) none

-- with the node types themselves
module _ (d : ℕ) (ns slice : List NodeType) (same : slice ≡ ns) where
  pub with_larger : HasMany (IsBumpedOf d slice) → HasMany (IsWithBumped d ns)
  with_larger h = many_more (IsBumpedOf d slice) (IsWithBumped d ns) (λ es b. inr (subst (λ l. IsBumpedOf d l es) same b)) h

  with_all : (keys : List NodeType) → IsSetOf (IsBumpedOf d slice) keys → IsSetOf (IsWithBumped d ns) (insert_all node_order keys ns)
  with_all keys h =
      set_put (IsBumpedOf d ns) (IsWithBumped d ns) keys ns (subst (λ l. IsSetOf (IsBumpedOf d l) keys) same h) (λ es b. inr b) (λ es a. inl a) (λ es w. elim w [ inl a ↦ inr a | inr b ↦ inl b ])

  pub with_set : (keys next : List NodeType) → IsSetOf (IsBumpedOf d slice) keys → next ≡ insert_all node_order keys ns → IsSetOf (IsWithBumped d ns) next
  with_set keys next h is = subst (IsSetOf (IsWithBumped d ns)) (sym is) (with_all keys h)

  pub with_many : (keys : List NodeType) → IsSetOf (IsBumpedOf d slice) keys → 2000 < length (insert_all node_order keys ns) → HasMany (IsWithBumped d ns)
  with_many keys h many = many_of (IsWithBumped d ns) (insert_all node_order keys ns) (with_all keys h) many

-- a list of node types as a set
module _ (ns keys : List NodeType) (none : keys ≡ []) where
  listed : IsSetOf (λ es. IsIn es (map labels ns)) (insert_all node_order keys ns)
  listed =
      set_put (λ es. ⊥) (λ es. IsIn es (map labels ns)) keys ns (subst (IsSetOf (λ es. ⊥)) (sym none) (set_none (λ es. ⊥) (λ es p. p))) (λ es p. absurd p) (λ es a. in_labels ns es a) (λ es q. inr (labels_in ns es q))

  pub list_set : (next : List NodeType) → next ≡ insert_all node_order keys ns → IsSetOf (λ es. IsIn es (map labels ns)) next
  list_set next is = subst (IsSetOf (λ es. IsIn es (map labels ns))) (sym is) listed

  pub list_many : 2000 < length (insert_all node_order keys ns) → HasMany (λ es. IsIn es (map labels ns))
  list_many many = many_of (λ es. IsIn es (map labels ns)) (insert_all node_order keys ns) listed many
