-- The gap as it is found: the least difference in a list of node types, and in rows.
-- Working notions of the code and of proofs, which no contract of a public call names:
--   greatest == 2^63-1, where a search for the least difference begins
--   least_difference eq t gap n == the lesser of gap and the difference of kernel t and the node
--       type n
--   nodes_gap eq t nodes == the least difference of kernel t and the node types
--   least_gap eq gap row == the lesser of gap and the least difference in the row
--   rows_gap eq rows == the least of these over the rows
use Rattle.std.specs.Prelude.{ℕ, ℤ, pos, List, fold, ◌-◌, ◌^◌}
use Rattle.std.specs.Int.{int_min}
use Rattle.equations.specs.declared.equation.Equation.{Equation}
use Rattle.normal_rule.specs.declared.rule.NodeType.{NodeType}
use Rattle.normal_rule.specs.declared.rule.RuleRow.{RuleRow}
use Rattle.normal_rule.specs.Regularity.{difference}

-- no difference is as great
abbrev pub greatest : ℤ
greatest = pos (2 ^ 63 - 1)

abbrev pub least_difference : Equation → ℕ → ℤ → NodeType → ℤ
least_difference eq t gap n = int_min gap (difference eq t n)

abbrev pub nodes_gap : Equation → ℕ → List NodeType → ℤ
nodes_gap eq t nodes = fold (least_difference eq t) greatest nodes

abbrev pub least_gap : Equation → ℤ → RuleRow → ℤ
least_gap eq gap row = int_min gap (nodes_gap eq row.kernel.0 row.nodes)

abbrev pub rows_gap : Equation → List RuleRow → ℤ
rows_gap eq rows = fold (least_gap eq) greatest rows
