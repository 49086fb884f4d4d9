-- The step from a rule to its next stage, row by row.
-- Working notions of the code and of proofs, which no contract of a public call names:
--   trees_of == the notion of tree_pool, for use with these
--   IsMadeOf ty rule k t es == es are additions at all nodes of the tree t together, its root above
--       the kernel k
--   IsFound eq rule k ts es == es is in the row of kernel k, or made for k of one of the trees ts
--   IsNextRow eq rule row == the node types of the row are those of its kernel in the next stage,
--       in their order, each once
--   HasNextRows eq rule of rows == the rows are those of the next stage, of the kernels of the rows
--       `of`
use Rattle.std.specs.Prelude.{◌≡◌, ℕ, List, ◌⊎◌, map}
use Rattle.degree_numbers.specs.declared.types.Types.{Types}
use Rattle.equations.specs.declared.equation.Equation.{Equation}
use Rattle.ordered_lists.specs.Members.{IsIn}
use Rattle.plain_trees.specs.Plain.{Plain}
pub use Rattle.tree_pool.specs.Content.{trees_of}
use Rattle.normal_rule.specs.declared.rule.Rule.{Rule}
use Rattle.normal_rule.specs.declared.rule.RuleRow.{RuleRow}
use Rattle.conforming_trees.specs.Conforming.{EdgeLabel, IsInKernelRow}
use Rattle.rule_stages.specs.Stages.{IsInNext}
use Rattle.rule_steps.specs.Sets.{IsSetOf}
use Rattle.rule_steps.specs.Sums.{all_additions}

abbrev pub IsMadeOf : Types → Rule → ℕ → Plain → List EdgeLabel → Type 0
IsMadeOf ty rule k t es = IsIn es (all_additions ty rule k t)

abbrev pub IsFound : Equation → Rule → ℕ → List Plain → List EdgeLabel → Type 0
IsFound eq rule k ts es =
    IsInKernelRow rule k es ⊎ ((t : Plain) × IsIn t ts × IsMadeOf eq.types rule k t es)

abbrev pub IsNextRow : Equation → Rule → RuleRow → Type 0
IsNextRow eq rule row = IsSetOf (IsInNext eq rule row.kernel.0) row.nodes

pub record HasNextRows (eq : Equation) (rule : Rule) (of rows : List RuleRow) : Type 0 where
  pub kernels : map (λ row. row.kernel) rows ≡ map (λ row. row.kernel) of
  pub next : (row : RuleRow) → IsIn row rows → IsNextRow eq rule row
