-- The check text of an equation: the node types of its normal rule with both sides of the
-- inequality of regularities, and the gap.
--   IsSideText eq z text == text is that of z, in units of one over the common denominator of the
--       degrees
--   sides_text left right == `: LEFT < RIGHT`
--   line_text name left right == two spaces, a node type's text, and both sides
--   heading_text name count == `rule U N`
--   IsLine eq t n text == the line of the node type n of kernel t, with both sides of its
--       inequality
--   AreLines eq t ns text == the lines of node types, one after the other
--   IsRowText eq row text == the heading of a kernel, with its name and the number of its node
--       types, and their lines
--   AreRowTexts eq rows text == the same for several rows, one after the other
--   IsCheckText eq rule gap text == `accepted`, the rows of the rule, and `gap G`
use Rattle.std.specs.Prelude.{◌≡◌, ℕ, ℤ, pos, unsigned_abs, List, [], ◌∷◌, ◌++◌, length, codes, decimal}
use Rattle.degree_numbers.specs.Printing.{IsDegreeText}
use Rattle.degree_numbers.specs.Types.{name_of}
use Rattle.equations.specs.declared.equation.Equation.{Equation}
use Rattle.normal_rule.specs.declared.rule.NodeType.{NodeType}
use Rattle.normal_rule.specs.declared.rule.Rule.{Rule}
use Rattle.normal_rule.specs.declared.rule.RuleRow.{RuleRow}
use Rattle.normal_rule.specs.Regularity.{left_side, right_side}
use Rattle.normal_rule.specs.Text.{node_type_text}

abbrev pub IsSideText : Equation → ℤ → List ℕ → Type 0
IsSideText eq z text =
    IsDegreeText (record { a = z; b = pos 0 }) (unsigned_abs eq.types.units.den) text

abbrev pub sides_text : List ℕ → List ℕ → List ℕ
sides_text left right = codes ": " ++ left ++ codes " < " ++ right ++ codes "\n"

abbrev pub line_text : List ℕ → List ℕ → List ℕ → List ℕ
line_text name left right = codes "  " ++ name ++ sides_text left right

abbrev pub heading_text : List ℕ → ℕ → List ℕ
heading_text name count = codes "rule " ++ name ++ codes " " ++ decimal count ++ codes "\n"

pub record IsLine (eq : Equation) (t : ℕ) (n : NodeType) (text : List ℕ) : Type 0 where
  pub left : List ℕ
  pub right : List ℕ
  pub left_text : IsSideText eq (left_side eq t) left
  pub right_text : IsSideText eq (right_side eq t n) right
  pub is : text ≡ line_text (node_type_text eq.types n) left right

abbrev pub AreLines : Equation → ℕ → List NodeType → List ℕ → Type 0
AreLines eq t [] text = text ≡ []
AreLines eq t (n ∷ ns) text = (line : List ℕ) × (rest : List ℕ) × IsLine eq t n line
    × AreLines eq t ns rest × (text ≡ line ++ rest)

pub record IsRowText (eq : Equation) (row : RuleRow) (text : List ℕ) : Type 0 where
  pub lines : List ℕ
  pub are_lines : AreLines eq row.kernel.0 row.nodes lines
  pub is : text ≡ heading_text (name_of eq.types row.kernel.0) (length row.nodes) ++ lines

abbrev pub AreRowTexts : Equation → List RuleRow → List ℕ → Type 0
AreRowTexts eq [] text = text ≡ []
AreRowTexts eq (row ∷ rows) text = (first : List ℕ) × (rest : List ℕ) × IsRowText eq row first
    × AreRowTexts eq rows rest × (text ≡ first ++ rest)

pub record IsCheckText (eq : Equation) (rule : Rule) (gap : ℤ) (text : List ℕ) : Type 0 where
  pub rows : List ℕ
  pub last : List ℕ
  pub are_rows : AreRowTexts eq rule.rows rows
  pub gap_text : IsSideText eq gap last
  pub is : text ≡ codes "accepted\n" ++ rows ++ codes "gap " ++ last ++ codes "\n"
