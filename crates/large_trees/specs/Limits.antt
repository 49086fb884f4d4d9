-- How great the excesses in cells are, whatever the rule: so that 128 bits hold each sum.
-- Working notions of the code and of proofs, which no contract of a public call names:
--   greatest == no degree has a greater coefficient of k, in the units of the degrees
--   step == nor have all noises of a node together
--   IsLimited base v == the standard part of v is not below 0, and the coefficient of k at most
--       `base` and one step for each unit of it, since each kernel edge adds at least one
--   AreLimited cells == so is each cell, with at most one noise more
--   AreShort rows == node types are lists of fewer than 2^64 edge types
use Rattle.std.specs.Prelude.{◌≡◌, ℕ, ◌+◌, ◌*◌, ◌<◌, pos, ◌≤ℤ◌, List, length}
use Rattle.degree_numbers.specs.Degree.{IsWithin}
use Rattle.ordered_lists.specs.Members.{IsIn}
use Rattle.normal_rule.specs.declared.rule.NodeType.{NodeType}
use Rattle.normal_rule.specs.declared.rule.RuleRow.{RuleRow}
use Rattle.large_trees.specs.declared.excess.Excess.{Excess}
use Rattle.large_trees.specs.declared.line.Line.{Line as Cells}
use Rattle.large_trees.specs.Lines.{HasCell, most_excess}
use Rattle.large_trees.specs.Cells.{line_at}

abbrev pub greatest : ℕ
greatest = 20000000

abbrev pub step : ℕ
step = 20000000 * 18446744073709551616

pub record IsLimited (base : ℕ) (v : Excess) : Type 0 where
  pub size : ℕ
  pub a : v.a ≡ pos size
  pub b : IsWithin v.b (base + step * size)

abbrev pub AreLimited : List Cells → Type 0
AreLimited cells = (k m : ℕ) (v : Excess) → HasCell (line_at cells k) m v →
    IsLimited greatest v × (v.a ≤ℤ pos most_excess)

abbrev pub AreShort : List RuleRow → Type 0
AreShort rows = (row : RuleRow) (n : NodeType) → IsIn row rows → IsIn n row.nodes →
    length n.edges < 18446744073709551616
