-- The normal rule with which an equation begins.
-- What contracts of public calls say:
--   IsBase eq rule == rule is the normal rule of eq; it has at most 2,000 node types
--       (`MOST_NODE_TYPES`), and the inequality of regularities holds throughout
--   IsNotSubcritical eq rule e == e names the first kernel and node type of the rule where the
--       inequality doesn't hold, with both sides there
--   IsRefusedRule eq e == e is the refusal of the normal rule of eq: it has more than 2,000 node
--       types, or else the inequality doesn't hold
--   IsForBase answers eq r == r is one of the answers for the rule with which eq begins; or the
--       refusal of its normal rule
-- Working notions of the code and of proofs:
--   node_in rows k i == the i-th node type of the row of kernel k, where there is one
--   node_text_in ty rows k i == its text
use Rattle.std.specs.Prelude.{◌≡◌, ◌<◌, ◌≤◌, ◌⊎◌, ◌==◌, ℕ, List, [], unwrap_or, slice_get, slice_index_or, Option, Result, Err}
use Rattle.std.specs.List.{find}
use Rattle.std.specs.Option.{option_map, option_and_then}
use Rattle.degree_numbers.specs.declared.types.Types.{Types}
use Rattle.degree_numbers.specs.Types.{name_of}
use Rattle.equations.specs.declared.equation.Equation.{Equation}
use Rattle.normal_rule.specs.declared.regularity.NotSubcritical.{NotSubcritical as Failure}
use Rattle.normal_rule.specs.declared.rule.NodeType.{NodeType}
use Rattle.normal_rule.specs.declared.rule.Rule.{Rule}
use Rattle.normal_rule.specs.declared.rule.RuleRow.{RuleRow}
use Rattle.normal_rule.specs.Order.{empty_node}
use Rattle.normal_rule.specs.Regularity.{IsSubcritical, IsFirstFailure}
use Rattle.normal_rule.specs.Rule.{IsNormalRule, node_count}
use Rattle.normal_rule.specs.Text.{node_type_text}
use Rattle.workbench_core.specs.declared.refusal.Refusal.{Refusal}
use Rattle.workbench_core.specs.declared.refusal.Refusal.TheVariants.{NotSubcritical, RuleTooLarge}
use Rattle.workbench_core.specs.CheckText.{IsSideText}

abbrev pub node_in : List RuleRow → ℕ → ℕ → Option NodeType
node_in rows k i =
    option_and_then (λ row. slice_get row.nodes i) (find (λ row. row.kernel.0 == k) rows)

abbrev pub node_text_in : Types → List RuleRow → ℕ → ℕ → List ℕ
node_text_in ty rows k i = unwrap_or (option_map (node_type_text ty) (node_in rows k i)) []

pub record IsBase (eq : Equation) (rule : Rule) : Type 0 where
  pub normal : IsNormalRule eq rule
  pub small : node_count rule ≤ 2000
  pub subcritical : IsSubcritical eq rule

pub record IsNotSubcritical (eq : Equation) (rule : Rule) (e : Refusal) : Type 0 where
  pub failure : Failure
  pub first : IsFirstFailure eq rule.rows failure
  pub left : List ℕ
  pub right : List ℕ
  pub left_text : IsSideText eq failure.left.a left
  pub right_text : IsSideText eq failure.right.a right
  pub is : e ≡ NotSubcritical (name_of eq.types failure.kernel.0)
      (node_type_text eq.types (slice_index_or first.row.nodes failure.node empty_node)) left right

abbrev pub IsRefusedRule : Equation → Refusal → Type 0
IsRefusedRule eq e =
    (rule : Rule) × IsNormalRule eq rule × (((2000 < node_count rule) × (e ≡ RuleTooLarge 0))
    ⊎ ((node_count rule ≤ 2000) × IsNotSubcritical eq rule e))

abbrev pub IsForBase : {T : Type 0} → (Rule → Result T Refusal → Type 0) → Equation →
    Result T Refusal → Type 0
IsForBase answers eq r = ((rule : Rule) × IsBase eq rule × answers rule r)
    ⊎ ((e : Refusal) × IsRefusedRule eq e × (r ≡ Err e))
