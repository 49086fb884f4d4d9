-- The next stage of a rule is the least normal rule that holds the rule and all that is made.
use Rattle.std.proofs.Common.{◌≡◌, ℕ, List, [], ◌∷◌, map, refl, ap, sym, ◌∙◌, subst, inl, inr}
use Rattle.equations.specs.declared.equation.Equation.{Equation}
use Rattle.ordered_lists.specs.Subs.{IsSubMultiset}
use Rattle.ordered_lists.proofs.Subs.{sub_skip}
use Rattle.normal_rule.specs.declared.rule.EdgeType.{EdgeType}
use Rattle.normal_rule.specs.declared.rule.NodeType.{NodeType}
use Rattle.normal_rule.specs.declared.rule.Rule.{Rule}
use Rattle.normal_rule.specs.Order.{pair_of}
use Rattle.conforming_trees.specs.Conforming.{EdgeLabel, label, IsInKernelRow, IsRule}
use Rattle.rule_stages.specs.Stages.{IsMade, IsNextStage}

abbrev node : List EdgeType → NodeType
node es = record { edges = es }

-- a sub-multiset of labels is that of edge types
sub_of_labels : (es : List EdgeLabel) (xs : List EdgeType) → IsSubMultiset es (map label xs) →
    (ys : List EdgeType) × (map label ys ≡ es) × IsSubMultiset (map pair_of ys) (map pair_of xs)
sub_of_labels [] xs h = ([], refl, tt)
sub_of_labels (e ∷ es) [] h = absurd h
sub_of_labels (e ∷ es) (x ∷ xs) h =
    elim h [
      | inl taken ↦
          let below = sub_of_labels es xs taken.1 in
          (x ∷ below.0, ap (λ (f : EdgeLabel). f ∷ map label below.0) taken.0 ∙ ap (λ (fs : List EdgeLabel). e ∷ fs) below.1, inl (refl, below.2))
      | inr left ↦
          let below = sub_of_labels (e ∷ es) xs left in
          (below.0, below.1, sub_skip (map pair_of below.0) (map pair_of xs) (pair_of x) below.2)
    ]

-- the row of a kernel holds the sub-multisets of what it holds
pub row_closed : (eq : Equation) (rule : Rule) (k : ℕ) (es rs : List EdgeLabel) → IsRule eq rule →
    IsInKernelRow rule k rs → IsSubMultiset es rs → IsInKernelRow rule k es
row_closed eq rule k es rs h has sub =
    let row = has.0 in
    let n = has.3.0 in
    let part = sub_of_labels es n.edges (subst (λ (l : List EdgeLabel). IsSubMultiset es l) (sym has.3.2) sub) in
    (row, has.1, has.2, (node part.0, (h.normal row has.1).closed n (node part.0) has.3.1 part.2, part.1))

pub next_holds : (eq : Equation) (rule next : Rule) (k : ℕ) (es : List EdgeLabel) → IsNextStage eq rule next → IsInKernelRow rule k es → IsInKernelRow next k es
next_holds eq rule next k es h has = h.whole k es (inl has)

pub next_least : (eq : Equation) (rule next other : Rule) → IsNextStage eq rule next →
    IsRule eq other →
    ((k : ℕ) (es : List EdgeLabel) → IsInKernelRow rule k es → IsInKernelRow other k es) →
    ((k : ℕ) (rs : List EdgeLabel) → IsMade eq rule k rs → IsInKernelRow other k rs) →
    (k : ℕ) (es : List EdgeLabel) → IsInKernelRow next k es → IsInKernelRow other k es
next_least eq rule next other h normal holds made k es has =
    elim (h.sound k es has) [
      | inl old ↦ holds k es old
      | inr new ↦ row_closed eq other k es new.0 normal (made k new.0 new.1) new.2
    ]
