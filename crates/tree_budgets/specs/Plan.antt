-- The plan of a rule.
--   IsNodePlan eq lows row n p == p has the reserve of the node type n where n is usable, and the
--       extensions of n to usable node types of the row, by ascending places
--   AreNodePlans eq lows row ns ps == so it is with each of the node types ns, in order
--   IsRowPlan eq lows mosts row p == p has the kernel of the row, its most, and what is to be said
--       of each node type
--   AreRowPlans eq lows mosts rows ps == so it is with each of the rows, in order
--   IsPlan eq rule plan == the low degrees and the budgets are such for the rule, and each row has
--       its plan
use Rattle.std.specs.Prelude.{◌≡◌, ⊤, ℕ, List, [], ◌∷◌, map, slice_get, Some}
use Rattle.std.specs.List.Sorted.{IsStrictlySortedBy}
use Rattle.std.specs.Ordering.{nat_cmp}
use Rattle.degree_numbers.specs.declared.Degree.{Degree}
use Rattle.equations.specs.declared.Equation.{Equation}
use Rattle.ordered_lists.specs.Members.{IsIn}
use Rattle.normal_rule.specs.declared.EdgeType.{EdgeType}
use Rattle.normal_rule.specs.declared.NodeType.{NodeType}
use Rattle.normal_rule.specs.declared.RuleRow.{RuleRow}
use Rattle.normal_rule.specs.declared.Rule.{Rule}
use Rattle.conforming_trees.specs.Conforming.{labels}
use Rattle.conforming_trees.specs.Budgets.{IsUsable, AreLow, AreBudgets, IsReserve, most_at}
use Rattle.tree_budgets.specs.Bounds.{IsModest}
use Rattle.tree_budgets.specs.declared.plan.Extension.{Extension}
use Rattle.tree_budgets.specs.declared.plan.PlanNode.{PlanNode}
use Rattle.tree_budgets.specs.declared.plan.RowPlan.{RowPlan}
use Rattle.tree_budgets.specs.declared.plan.RulePlan.{RulePlan}

pub record IsNodePlan (eq : Equation) (lows : List Degree) (row : RuleRow) (n : NodeType)
    (p : PlanNode) : Type 0 where
  pub reserve : IsUsable (labels n) → IsReserve eq lows row (labels n) p.reserve
  pub modest : IsModest p.reserve
  pub ascending : IsStrictlySortedBy nat_cmp (map (λ x. x.node) p.extensions)
  pub extension : (x : Extension) → IsIn x p.extensions →
      (m : NodeType) × (slice_get row.nodes x.node ≡ Some m) × (m.edges ≡ x.edge ∷ n.edges)
      × IsUsable (labels m)
  pub whole : (i : ℕ) (m : NodeType) (e : EdgeType) → slice_get row.nodes i ≡ Some m →
      m.edges ≡ e ∷ n.edges → IsUsable (labels m) → IsIn record { edge = e; node = i } p.extensions

abbrev pub AreNodePlans : Equation → List Degree → RuleRow → List NodeType → List PlanNode → Type 0
AreNodePlans eq lows row [] [] = ⊤
AreNodePlans eq lows row [] (p ∷ ps) = ⊥
AreNodePlans eq lows row (n ∷ ns) [] = ⊥
AreNodePlans eq lows row (n ∷ ns) (p ∷ ps) = IsNodePlan eq lows row n p
    × AreNodePlans eq lows row ns ps

pub record IsRowPlan (eq : Equation) (lows : List Degree) (mosts : List Degree) (row : RuleRow)
    (p : RowPlan) : Type 0 where
  pub kernel : p.kernel ≡ row.kernel
  pub most : p.most ≡ most_at mosts row.kernel.0
  pub modest : IsModest p.most
  pub nodes : AreNodePlans eq lows row row.nodes p.nodes

abbrev pub AreRowPlans : Equation → List Degree → List Degree → List RuleRow → List RowPlan → Type 0
AreRowPlans eq lows mosts [] [] = ⊤
AreRowPlans eq lows mosts [] (p ∷ ps) = ⊥
AreRowPlans eq lows mosts (r ∷ rs) [] = ⊥
AreRowPlans eq lows mosts (r ∷ rs) (p ∷ ps) = IsRowPlan eq lows mosts r p
    × AreRowPlans eq lows mosts rs ps

pub record IsPlan (eq : Equation) (rule : Rule) (plan : RulePlan) : Type 0 where
  pub lows : AreLow eq rule plan.lows
  pub budgets : AreBudgets eq rule plan.lows plan.mosts
  pub rows : AreRowPlans eq plan.lows plan.mosts rule.rows plan.rows
