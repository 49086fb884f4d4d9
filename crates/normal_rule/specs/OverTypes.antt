-- Rules over the types of an equation.
--   HasDirections dims rows == the derivatives of the rows are multiindices in these directions
--   IsRule eq rule == a normal rule with one row for each kernel of the equation, over its types
--       and in the directions of its scaling
use Rattle.std.specs.Prelude.{ℕ, List}
use Rattle.std.specs.List.{All}
use Rattle.degree_numbers.specs.Multi.{IsMultiIndex}
use Rattle.equations.specs.declared.equation.Equation.{Equation}
use Rattle.normal_rule.specs.declared.rule.RuleRow.{RuleRow}
use Rattle.normal_rule.specs.declared.rule.Rule.{Rule}
use Rattle.normal_rule.specs.Regularity.{HasRows}
use Rattle.normal_rule.specs.Rule.{IsNormal}
use Rattle.normal_rule.specs.Text.{AreKnown}

abbrev pub HasDirections : ℕ → List RuleRow → Type 0
HasDirections dims rows =
    All (λ row. All (λ n. All (λ e. IsMultiIndex dims e.p.entries) n.edges) row.nodes) rows

pub record IsRule (eq : Equation) (rule : Rule) : Type 0 where
  pub normal : IsNormal rule
  pub rows : HasRows eq rule
  pub known : AreKnown eq.types rule.rows
  pub directions : HasDirections eq.types.dims rule.rows
