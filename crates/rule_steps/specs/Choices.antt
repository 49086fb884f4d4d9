-- What can be added at a node, as it is found: the choices, then these raised unit by unit.
-- Working notions of the code and of proofs, which no contract of a public call names:
--   after e fs == the list fs behind its first edge type, where that is e
--   IsSmallLabel most e == the derivatives of e have five directions, and no entry greater than
--       most
--   IsChoice es == es are edge types in order, and small
--   AreChoices ns == ns are in their order, each once, and the edge types of each are a choice
--   IsRaisedOf n ns es == es are the edge types of one of ns, raised by at most n together, in
--       order
--   IsBumpedOf d ns es == es are the edge types of one of ns, with one of them raised by one in
--       direction d, in order
--   IsWithBumped d ns es == es are the edge types of one of ns, or so raised
use Rattle.std.specs.Prelude.{◌≡◌, ◌≤◌, ◌^◌, ℕ, List, [], ◌∷◌, ◌⊎◌, length, IsSorted, if◌then◌else◌}
use Rattle.std.specs.List.{AllByRecursion}
use Rattle.std.specs.List.Sorted.{IsStrictlySortedBy}
use Rattle.std.specs.Ordering.{is_eq}
use Rattle.std.specs.declared.option.Option.{Option}
use Rattle.std.specs.declared.option.Option.TheVariants.{Some, None}
use Rattle.ordered_lists.specs.Members.{IsIn}
use Rattle.normal_rule.specs.declared.rule.NodeType.{NodeType}
use Rattle.normal_rule.specs.Order.{node_order}
use Rattle.conforming_trees.specs.Conforming.{EdgeLabel, edge_label_order, labels}
use Rattle.rule_steps.specs.Sets.{IsRaisedFrom, IsBumpedFrom}

abbrev pub after : EdgeLabel → List EdgeLabel → Option (List EdgeLabel)
after e [] = None
after e (f ∷ fs) = if is_eq (edge_label_order e f) then Some fs else None

pub record IsSmallLabel (most : ℕ) (e : EdgeLabel) : Type 0 where
  pub directions : length e.1 ≡ 5
  pub small : AllByRecursion (λ m. m ≤ most) e.1

pub record IsChoice (es : List EdgeLabel) : Type 0 where
  pub in_order : IsSorted edge_label_order es
  pub small : AllByRecursion (IsSmallLabel (2 ^ 30)) es

pub record AreChoices (ns : List NodeType) : Type 0 where
  pub ascending : IsStrictlySortedBy node_order ns
  pub choices : (n : NodeType) → IsIn n ns → IsChoice (labels n)

abbrev pub IsRaisedOf : List ℕ → List NodeType → List EdgeLabel → Type 0
IsRaisedOf n ns es = (m : NodeType) × IsIn m ns × IsRaisedFrom n (labels m) es

abbrev pub IsBumpedOf : ℕ → List NodeType → List EdgeLabel → Type 0
IsBumpedOf d ns es = (m : NodeType) × IsIn m ns × IsBumpedFrom d (labels m) es

abbrev pub IsWithBumped : ℕ → List NodeType → List EdgeLabel → Type 0
IsWithBumped d ns es = ((m : NodeType) × IsIn m ns × (labels m ≡ es)) ⊎ IsBumpedOf d ns es
