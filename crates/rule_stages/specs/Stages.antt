-- The completion of a rule (after Bruned, Hairer and Zambotti, in our own wording): the stages of a
-- rule, each with the node types that contractions of the listed trees of the one before it make.
--   join es fs == the edge types of es and of fs together, in their order
--   IsRaised n ms rs == rs are the edge types ms, each raised by a multiindex; these multiindices,
--       with a rest, are together n
--   IsAddition ty rule k t rs == at the root of t, which stands above an edge of type k: edge types
--       can be added to those that leave the node so that the rule of k allows them together, and
--       rs are these, raised, by the decoration of the node at most
--   AreAdditionsAbove ty rule t rs == rs are additions at the nodes of t above the root, one at
--       each node, together
--   AreAdditions ty rule k t rs == the same at all nodes of t, the root above an edge of type k
--   IsMade eq rule k rs == a listed tree of the rule has these additions, its root above the kernel
--       k
--   IsInNext eq rule k es == es is in the row of kernel k, or it is a sub-multiset of what is made
--       for k
--   IsNextStage eq rule next == next is the rule of these node types, the least normal rule that
--       holds the rule and all that is made
--   IsStage eq base j rule == the rule is stage j of the completion of base, from 0
--   IsCompletion eq base j rule == it is the first stage that equals its successor
--   NodeTypeOf == a kernel with a node type
--   node_type_of_order x y == by kernel, then by the order of node types
--   HasTooLargeNext eq rule == the next stage has more than 2,000 node types (`MOST_NODE_TYPES`)
use Rattle.std.specs.Prelude.{◌≡◌, ℕ, zero, suc, ◌<◌, List, [], ◌∷◌, ◌⊎◌, length, Some}
use Rattle.std.specs.List.Sorted.{IsStrictlySortedBy}
use Rattle.std.specs.Ordering.{nat_cmp, on, then_cmp}
use Rattle.std.specs.Cmp.Lexicographic.{slice_cmp}
use Rattle.std.specs.declared.cmp.Ordering.{Ordering}
use Rattle.limits.specs.declared.TheConstants.{MOST_NODE_TYPES}
use Rattle.degree_numbers.specs.declared.types.Types.{Types}
use Rattle.degree_numbers.specs.declared.types.Kind.TheVariants.{Kernel}
use Rattle.degree_numbers.specs.Types.{kind_of}
use Rattle.degree_numbers.specs.Multi.{plus_of}
use Rattle.equations.specs.declared.equation.Equation.{Equation}
use Rattle.ordered_lists.specs.Members.{IsIn}
use Rattle.ordered_lists.specs.Subs.{IsSubMultiset}
use Rattle.plain_trees.specs.Plain.{Plain, bare, graft, root_of}
use Rattle.normal_rule.specs.declared.rule.Rule.{Rule}
use Rattle.conforming_trees.specs.Conforming.{EdgeLabel, edge_label_order, put_label, node_type_of, IsInKernelRow, IsInRule, IsRule}
use Rattle.conforming_trees.specs.Listed.{IsListed}

abbrev pub join : List EdgeLabel → List EdgeLabel → List EdgeLabel
join [] fs = fs
join (e ∷ es) fs = put_label e (join es fs)

abbrev pub IsRaised : List ℕ → List EdgeLabel → List EdgeLabel → Type 0
IsRaised n [] [] = Unit {0}
IsRaised n [] (r ∷ rs) = ⊥
IsRaised n (m ∷ ms) [] = ⊥
IsRaised n (m ∷ ms) (r ∷ rs) = (shift rest : List ℕ) × (n ≡ plus_of shift rest) × (r.0 ≡ m.0)
    × (r.1 ≡ plus_of m.1 shift) × IsRaised rest ms rs

abbrev pub IsAddition : Types → Rule → ℕ → Plain → List EdgeLabel → Type 0
IsAddition ty rule k t rs = (ms : List EdgeLabel) × IsInRule ty rule k (join ms (node_type_of t))
    × IsRaised (root_of t) ms rs

abbrev pub AreAdditionsAbove : Types → Rule → Plain → List EdgeLabel → Type 0
AreAdditionsAbove ty rule (bare n) rs = rs ≡ []
AreAdditionsAbove ty rule (graft k p c t) rs =
    (at above others : List EdgeLabel)
    × IsAddition ty rule k c at × AreAdditionsAbove ty rule c above
    × AreAdditionsAbove ty rule t others × (rs ≡ join at (join above others))

abbrev pub AreAdditions : Types → Rule → ℕ → Plain → List EdgeLabel → Type 0
AreAdditions ty rule k t rs = (at above : List EdgeLabel) × IsAddition ty rule k t at
    × AreAdditionsAbove ty rule t above × (rs ≡ join at above)

pub record IsMade (eq : Equation) (rule : Rule) (k : ℕ) (rs : List EdgeLabel) : Type 0 where
  pub tree : Plain
  pub listed : IsListed eq rule tree
  pub kernel : kind_of eq.types k ≡ Some Kernel
  pub additions : AreAdditions eq.types rule k tree rs

abbrev pub IsInNext : Equation → Rule → ℕ → List EdgeLabel → Type 0
IsInNext eq rule k es =
    IsInKernelRow rule k es ⊎ ((rs : List EdgeLabel) × IsMade eq rule k rs × IsSubMultiset es rs)

pub record IsNextStage (eq : Equation) (rule next : Rule) : Type 0 where
  pub is_rule : IsRule eq next
  pub sound : (k : ℕ) (es : List EdgeLabel) → IsInKernelRow next k es → IsInNext eq rule k es
  pub whole : (k : ℕ) (es : List EdgeLabel) → IsInNext eq rule k es → IsInKernelRow next k es

abbrev pub IsStage : Equation → Rule → ℕ → Rule → Type 0
IsStage eq base zero rule = rule ≡ base
IsStage eq base (suc j) rule = (before : Rule) × IsStage eq base j before
    × IsNextStage eq before rule

pub record IsCompletion (eq : Equation) (base : Rule) (j : ℕ) (rule : Rule) : Type 0 where
  pub stage : IsStage eq base j rule
  pub equals_next : IsNextStage eq rule rule
  pub first : (i : ℕ) (earlier : Rule) → i < j → IsStage eq base i earlier →
      IsNextStage eq earlier earlier → ⊥

-- a kernel with a node type
abbrev pub NodeTypeOf : Type 0
NodeTypeOf = ℕ × List EdgeLabel

abbrev pub node_type_of_order : NodeTypeOf → NodeTypeOf → Ordering
node_type_of_order = then_cmp (on (λ x. x.0) nat_cmp) (then_cmp (on (λ x. length x.1) nat_cmp)
    (on (λ x. x.1) (slice_cmp edge_label_order)))

pub record HasTooLargeNext (eq : Equation) (rule : Rule) : Type 0 where
  pub node_types : List NodeTypeOf
  pub ascending : IsStrictlySortedBy node_type_of_order node_types
  pub many : MOST_NODE_TYPES < length node_types
  pub next : (x : NodeTypeOf) → IsIn x node_types → IsInNext eq rule x.0 x.1
