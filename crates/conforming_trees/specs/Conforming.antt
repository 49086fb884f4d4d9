-- Trees that conform to a rule (strong conformity of Bruned, Hairer and Zambotti).
--   EdgeLabel == a type number with a derivative decoration, as plain data
--   edge_label_order e f == by type number, then by derivative decoration
--   label e, labels n == the edge type e and the edge types of the node type n as such data
--   put_label e es == the sorted list es with e at its place
--   node_type_of t == the edge types of the edges that leave the root of t, in their order
--   IsInRow row es == the edge types es are a node type of the row
--   IsInKernelRow rule k es == they are one of the row of kernel k
--   IsInRule ty rule k es == they are one in the rule of type k: of a noise, the empty one alone;
--       of a kernel, one of its row
--   Allows row t, IsAllowedAbove ty rule k t == so is the node type at the root of t
--   IsAllowedAtRoot rule t == it is in the rule of some kernel
--   ConformsAbove ty rule t == above each edge of t stands a node type that the rule of its type
--       allows
--   IsConforming ty rule t == so it is, and the node type at the root is in the rule of some
--       kernel: t strongly conforms to the rule
--   HasDirections dims rows, IsRule eq rule == a rule over the types of eq: the notions of
--       normal_rule, for use with it
use Rattle.std.specs.Prelude.{◌≡◌, ℕ, List, [], ◌∷◌, ◌⊎◌, ⊤, map, if◌then◌else◌, Some}
use Rattle.std.specs.Ordering.{nat_cmp, ordering_then, is_gt}
use Rattle.std.specs.Cmp.Lexicographic.{slice_cmp}
use Rattle.std.specs.declared.cmp.Ordering.{Ordering}
use Rattle.degree_numbers.specs.declared.types.Types.{Types}
use Rattle.degree_numbers.specs.declared.types.Kind.TheVariants.{Noise}
use Rattle.degree_numbers.specs.Types.{kind_of}
use Rattle.ordered_lists.specs.Members.{IsIn}
use Rattle.plain_trees.specs.Plain.{Plain, bare, graft}
use Rattle.normal_rule.specs.declared.rule.EdgeType.{EdgeType}
use Rattle.normal_rule.specs.declared.rule.NodeType.{NodeType}
use Rattle.normal_rule.specs.declared.rule.RuleRow.{RuleRow}
use Rattle.normal_rule.specs.declared.rule.Rule.{Rule}
pub use Rattle.normal_rule.specs.OverTypes.{HasDirections, IsRule}

abbrev pub EdgeLabel : Type 0
EdgeLabel = ℕ × List ℕ

abbrev pub edge_label_order : EdgeLabel → EdgeLabel → Ordering
edge_label_order e f = ordering_then (nat_cmp e.0 f.0) (slice_cmp nat_cmp e.1 f.1)

abbrev pub label : EdgeType → EdgeLabel
label e = (e.kind.0, e.p.entries)

abbrev pub labels : NodeType → List EdgeLabel
labels n = map label n.edges

abbrev pub put_label : EdgeLabel → List EdgeLabel → List EdgeLabel
put_label e [] = e ∷ []
put_label e (f ∷ fs) = if is_gt (edge_label_order e f) then f ∷ put_label e fs else e ∷ f ∷ fs

abbrev pub node_type_of : Plain → List EdgeLabel
node_type_of (bare n) = []
node_type_of (graft k p c t) = put_label (k, p) (node_type_of t)

abbrev pub IsInRow : RuleRow → List EdgeLabel → Type 0
IsInRow row es = (n : NodeType) × IsIn n row.nodes × (labels n ≡ es)

abbrev pub IsInKernelRow : Rule → ℕ → List EdgeLabel → Type 0
IsInKernelRow rule k es = (row : RuleRow) × IsIn row rule.rows × (row.kernel.0 ≡ k) × IsInRow row es

abbrev pub IsInRule : Types → Rule → ℕ → List EdgeLabel → Type 0
IsInRule ty rule k es = ((kind_of ty k ≡ Some Noise) × (es ≡ [])) ⊎ IsInKernelRow rule k es

abbrev pub Allows : RuleRow → Plain → Type 0
Allows row t = IsInRow row (node_type_of t)

abbrev pub IsAllowedAbove : Types → Rule → ℕ → Plain → Type 0
IsAllowedAbove ty rule k t = IsInRule ty rule k (node_type_of t)

abbrev pub IsAllowedAtRoot : Rule → Plain → Type 0
IsAllowedAtRoot rule t = (row : RuleRow) × IsIn row rule.rows × Allows row t

abbrev pub ConformsAbove : Types → Rule → Plain → Type 0
ConformsAbove ty rule (bare n) = ⊤
ConformsAbove ty rule (graft k p c t) = IsAllowedAbove ty rule k c × ConformsAbove ty rule c
    × ConformsAbove ty rule t

pub record IsConforming (ty : Types) (rule : Rule) (t : Plain) : Type 0 where
  pub root : IsAllowedAtRoot rule t
  pub above : ConformsAbove ty rule t
