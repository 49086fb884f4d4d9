-- How the lines of a round come from those of the round before.
-- Working notions of the code and of proofs, which no contract of a public call names:
--   IsShifted most class x ys m v == m is the class of a cell of ys and class together, and v the
--       sum of x and that cell
--   IsSum most weight xs ys m v == so with a cell of xs, and with the weight of an edge
--   IsPartial q cells es m v == v is a sum of one cell for each of the edge types es, and m the
--       class of these cells and edges together
--   gap_of eq k n == by how much |k| + reg(n) lies above reg(k), and the coefficient of k in |k|
--   HasNode eq q cells k n m v == v is such a sum for the node type n, above the gap
--   HasRow eq q cells k row m v == the row is that of k, and so it is with one of its node types
--   HasNoise eq k m v == k is a noise, m is 0 and v its coefficient of k, with nothing above its
--       regularity
--   HasExcess eq rule q cells k m v == so it is with k as a noise, or with one of the rows
--   IsRound eq rule q cells next == the lines of next have the least of these
use Rattle.std.specs.Prelude.{◌≡◌, ℕ, ◌+◌, ◌<◌, pos, min, List, [], ◌∷◌, ◌⊎◌, length}
use Rattle.std.specs.declared.option.Option.TheVariants.{Some}
use Rattle.degree_numbers.specs.declared.types.Kind.TheVariants.{Noise}
use Rattle.degree_numbers.specs.Types.{kind_of, type_degree}
use Rattle.equations.specs.declared.equation.Equation.{Equation}
use Rattle.ordered_lists.specs.Members.{IsIn}
use Rattle.normal_rule.specs.declared.rule.NodeType.{NodeType}
use Rattle.normal_rule.specs.declared.rule.RuleRow.{RuleRow}
use Rattle.normal_rule.specs.declared.rule.Rule.{Rule}
use Rattle.normal_rule.specs.Regularity.{difference}
use Rattle.conforming_trees.specs.Conforming.{EdgeLabel, labels}
use Rattle.large_trees.specs.declared.count.Count.{Count}
use Rattle.large_trees.specs.declared.excess.Excess.{Excess}
use Rattle.large_trees.specs.declared.line.Line.{Line as Cells}
use Rattle.large_trees.specs.Classes.{most_of, weight_at}
use Rattle.large_trees.specs.Lines.{Line, HasCell, IsLeast, excess_plus, no_excess}
use Rattle.large_trees.specs.Cells.{line_at}

abbrev pub IsShifted : ℕ → ℕ → Excess → Line → ℕ → Excess → Type 0
IsShifted most class x ys m v = (j : ℕ) × (y : Excess) × HasCell ys j y × (m ≡ min most (class + j))
    × (v ≡ excess_plus x y)

abbrev pub IsSum : ℕ → ℕ → Line → Line → ℕ → Excess → Type 0
IsSum most weight xs ys m v = (i : ℕ) × (x : Excess) × HasCell xs i x
    × IsShifted most (weight + i) x ys m v

abbrev pub IsPartial : Count → List Cells → List EdgeLabel → ℕ → Excess → Type 0
IsPartial q cells [] m v = (m ≡ 0) × (v ≡ no_excess)
IsPartial q cells (e ∷ es) m v =
    (i : ℕ) × (x : Excess) × IsPartial q cells es i x
    × IsShifted (most_of q) (weight_at q e.1 + i) x (line_at cells e.0) m v

abbrev pub gap_of : Equation → ℕ → NodeType → Excess
gap_of eq k n = record { a = difference eq k n; b = (type_degree eq.types k).b }

abbrev pub HasNode : Equation → Count → List Cells → ℕ → NodeType → ℕ → Excess → Type 0
HasNode eq q cells k n m v = (w : Excess) × IsPartial q cells (labels n) m w
    × (v ≡ excess_plus (gap_of eq k n) w)

abbrev pub HasRow : Equation → Count → List Cells → ℕ → RuleRow → ℕ → Excess → Type 0
HasRow eq q cells k row m v =
    (row.kernel.0 ≡ k) × ((n : NodeType) × IsIn n row.nodes × HasNode eq q cells k n m v)

abbrev pub HasNoise : Equation → ℕ → ℕ → Excess → Type 0
HasNoise eq k m v = (kind_of eq.types k ≡ Some Noise) × (m ≡ 0)
    × (v ≡ record { a = pos 0; b = (type_degree eq.types k).b })

abbrev pub HasExcess : Equation → Rule → Count → List Cells → ℕ → ℕ → Excess → Type 0
HasExcess eq rule q cells k m v =
    HasNoise eq k m v ⊎ ((row : RuleRow) × IsIn row rule.rows × HasRow eq q cells k row m v)

abbrev pub IsRound : Equation → Rule → Count → List Cells → List Cells → Type 0
IsRound eq rule q cells next = (k : ℕ) → k < length eq.types.list →
    IsLeast (HasExcess eq rule q cells k) (line_at next k)
