-- When a node type at the root has a too large tree of a degree of at most 0.
-- Working notions of the code and of proofs, which no contract of a public call names:
--   IsLargeFor q t == t has more than 24 edges (`MOST_EDGES`), or a decoration sum of more than 64
--       (`MOST_LISTED_DECORATIONS`)
--   Lacks q m l == a tree of class m lacks l entries of a decoration to be too large: of edges none
--       in the class "more", and in no other class any number helps
--   planted_lack ty es == 1 where es is a single edge type of a kernel, so that the tree is planted
--       unless its root is decorated, else 0
--   IsLeastEntry scaling dims s == s is the least of the first dims entries of the scaling
--   IsUnit ty unit == the least degree of one entry of a decoration: the least entry of the
--       scaling, in the units of the degrees
--   degree_at_root regularity unit v l == the degree of a tree of the excess v, of the regularity
--       of its node type, and with l entries of the cheapest direction at its root
--   IsLargeAt q regularity unit planted m v == with as many entries as it lacks this is at most 0
--   IsLargeCell eq q unit n m v == so it is with the node type n
--   HasLargeNode, HasLargeRow, HasLarge == there is such a sum of cells for the node type, for one
--       of the row, of the rule
--   HasNoLarge eq rule q == no candidate of a degree of at most 0 is too large for this count
use Rattle.std.specs.Prelude.{◌≢◌, ℤ, ◌≡◌, ℕ, ◌+◌, ◌*◌, ◌<◌, ◌≤◌, max, pos, ◌+ℤ◌, unsigned_abs, List, [], ◌∷◌, slice_index, if◌then◌else◌}
use Rattle.std.specs.declared.cmp.Ordering.TheVariants.{Greater}
use Rattle.degree_numbers.specs.Degree.{degree_order, degree_zero}
use Rattle.degree_numbers.specs.declared.types.Types.{Types}
use Rattle.equations.specs.declared.equation.Equation.{Equation}
use Rattle.ordered_lists.specs.Members.{IsIn}
use Rattle.plain_trees.specs.Plain.{Plain, edge_count_of, decoration_sum_of}
use Rattle.plain_trees.specs.Degree.{is_kernel, degree_of}
use Rattle.normal_rule.specs.declared.rule.NodeType.{NodeType}
use Rattle.normal_rule.specs.declared.rule.RuleRow.{RuleRow}
use Rattle.normal_rule.specs.declared.rule.Rule.{Rule}
use Rattle.normal_rule.specs.Regularity.{node_regularity}
use Rattle.conforming_trees.specs.Conforming.{EdgeLabel, labels}
use Rattle.conforming_trees.specs.Listed.{IsCandidate}
use Rattle.large_trees.specs.declared.count.Count.{Count}
use Rattle.large_trees.specs.declared.count.Count.TheVariants.{Edges, Decorations}
use Rattle.large_trees.specs.declared.excess.Excess.{Excess}
use Rattle.large_trees.specs.declared.line.Line.{Line as Cells}
use Rattle.large_trees.specs.Lines.{IsAtMost, no_excess}
use Rattle.large_trees.specs.Sums.{IsPartial}

abbrev pub IsLargeFor : Count → Plain → Type 0
IsLargeFor Edges t = 24 < edge_count_of t
IsLargeFor Decorations t = 64 < decoration_sum_of t

abbrev pub Lacks : Count → ℕ → ℕ → Type 0
Lacks Edges m l = (m ≡ 25) × (l ≡ 0)
Lacks Decorations m l = m + l ≡ 65

abbrev pub planted_lack : Types → List EdgeLabel → ℕ
planted_lack ty [] = 0
planted_lack ty (e ∷ []) = if is_kernel ty e.0 then 1 else 0
planted_lack ty (e ∷ f ∷ es) = 0

pub record IsLeastEntry (scaling : List ℕ) (dims : ℕ) (s : ℕ) : Type 0 where
  pub direction : ℕ
  pub within : direction < dims
  pub is : s ≡ slice_index scaling direction
  pub least : (i : ℕ) → i < dims → s ≤ slice_index scaling i

pub record IsUnit (ty : Types) (unit : ℕ) : Type 0 where
  pub direction : ℕ
  pub within : direction < ty.dims
  pub is : unit ≡ unsigned_abs ty.units.den * slice_index ty.scaling direction
  pub least : (i : ℕ) → i < ty.dims → unit ≤ unsigned_abs ty.units.den * slice_index ty.scaling i

abbrev pub degree_at_root : ℤ → ℕ → Excess → ℕ → Excess
degree_at_root regularity unit v l = record { a = (v.a +ℤ regularity) +ℤ pos (unit * l); b = v.b }

abbrev pub IsLargeAt : Count → ℤ → ℕ → ℕ → ℕ → Excess → Type 0
IsLargeAt q regularity unit planted m v = (l : ℕ) × Lacks q m l
    × IsAtMost (degree_at_root regularity unit v (max l planted)) no_excess

abbrev pub IsLargeCell : Equation → Count → ℕ → NodeType → ℕ → Excess → Type 0
IsLargeCell eq q unit n m v =
    IsLargeAt q (node_regularity eq n) unit (planted_lack eq.types (labels n)) m v

abbrev pub HasLargeNode : Equation → Count → List Cells → ℕ → NodeType → Type 0
HasLargeNode eq q cells unit n = (m : ℕ) × (v : Excess) × IsPartial q cells (labels n) m v
    × IsLargeCell eq q unit n m v

abbrev pub HasLargeRow : Equation → Count → List Cells → ℕ → RuleRow → Type 0
HasLargeRow eq q cells unit row = (n : NodeType) × IsIn n row.nodes × HasLargeNode eq q cells unit n

abbrev pub HasLarge : Equation → Rule → Count → List Cells → ℕ → Type 0
HasLarge eq rule q cells unit = (row : RuleRow) × IsIn row rule.rows
    × HasLargeRow eq q cells unit row

abbrev pub HasNoLarge : Equation → Rule → Count → Type 0
HasNoLarge eq rule q = (t : Plain) → IsCandidate eq rule t →
    degree_order (degree_of eq.types t) degree_zero ≢ Greater → IsLargeFor q t → ⊥
