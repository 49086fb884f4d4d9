-- The cells of a table: for each type, and each class of what is counted, the least excess of the
-- trees that may stand above an edge of this type.
-- Working notions of the code and of proofs, which no contract of a public call names:
--   root_labels t == the edge types of the root's edges, as they are drawn
--   IsDrawn eq rule t == t is over the types of eq and conforms above each edge, its nodes are
--       undecorated, and the edges of each node are drawn in the order of its node type
--   label_regularity eq e, labels_regularity eq es == the regularity reg(type) - |p|_s of an edge
--       type, and the sum over es
--   planted_excess eq k c == by how much |k| + deg(c) lies above reg(k)
--   IsAbove eq rule k c == such a tree may stand above an edge of type k
--   HasPlanted eq rule q k m v == such a tree above k has the class m and the planted excess v
--   line_at cells k == the line of type k
--   AreExact eq rule q cells == for each type and each class the cell has the least excess of such
--       trees, if there are any of an excess of at most most_excess
use Rattle.std.specs.Prelude.{◌≡◌, ℕ, ◌<◌, ℤ, pos, neg_ℤ, ◌+ℤ◌, ◌-ℤ◌, List, [], ◌∷◌, length, slice_index_or}
use Rattle.std.specs.declared.option.Option.TheVariants.{Some}
use Rattle.degree_numbers.specs.declared.types.Kind.TheVariants.{Noise}
use Rattle.degree_numbers.specs.Types.{kind_of, type_degree, size_in_units}
use Rattle.equations.specs.declared.equation.Equation.{Equation}
use Rattle.plain_trees.specs.Plain.{Plain, bare, graft}
use Rattle.plain_trees.specs.Building.{zeros}
use Rattle.plain_trees.specs.Degree.{IsEdge, degree_of, empty_tree}
use Rattle.normal_rule.specs.declared.rule.Rule.{Rule}
use Rattle.normal_rule.specs.Regularity.{regularity_of}
use Rattle.conforming_trees.specs.Conforming.{EdgeLabel, IsInRule}
use Rattle.large_trees.specs.declared.count.Count.{Count}
use Rattle.large_trees.specs.declared.excess.Excess.{Excess}
use Rattle.large_trees.specs.declared.line.Line.{Line as Cells}
use Rattle.large_trees.specs.Classes.{class_of}
use Rattle.large_trees.specs.Lines.{Line, IsLeast}

abbrev pub root_labels : Plain → List EdgeLabel
root_labels (bare n) = []
root_labels (graft k p c t) = (k, p) ∷ root_labels t

abbrev pub IsDrawn : Equation → Rule → Plain → Type 0
IsDrawn eq rule (bare n) = n ≡ zeros
IsDrawn eq rule (graft k p c t) = IsEdge eq.types k p c × IsInRule eq.types rule k (root_labels c)
    × IsDrawn eq rule c × IsDrawn eq rule t

abbrev pub label_regularity : Equation → EdgeLabel → ℤ
label_regularity eq e = regularity_of eq e.0 +ℤ neg_ℤ (pos (size_in_units eq.types e.1))

abbrev pub labels_regularity : Equation → List EdgeLabel → ℤ
labels_regularity eq [] = pos 0
labels_regularity eq (e ∷ es) = label_regularity eq e +ℤ labels_regularity eq es

abbrev pub planted_excess : Equation → ℕ → Plain → Excess
planted_excess eq k c = record {
  a = ((type_degree eq.types k).a +ℤ (degree_of eq.types c).a) -ℤ regularity_of eq k;
  b = (type_degree eq.types k).b +ℤ (degree_of eq.types c).b;
}

pub record IsAbove (eq : Equation) (rule : Rule) (k : ℕ) (c : Plain) : Type 0 where
  pub drawn : IsDrawn eq rule c
  pub allowed : IsInRule eq.types rule k (root_labels c)
  pub noise : kind_of eq.types k ≡ Some Noise → c ≡ empty_tree

pub record HasPlanted (eq : Equation) (rule : Rule) (q : Count) (k : ℕ) (m : ℕ)
    (v : Excess) : Type 0 where
  pub child : Plain
  pub above : IsAbove eq rule k child
  pub class : class_of q child ≡ m
  pub value : planted_excess eq k child ≡ v

abbrev pub line_at : List Cells → ℕ → Line
line_at cells k = (slice_index_or cells k record { cells = [] }).cells

abbrev pub AreExact : Equation → Rule → Count → List Cells → Type 0
AreExact eq rule q cells = (k : ℕ) → k < length eq.types.list →
    IsLeast (HasPlanted eq rule q k) (line_at cells k)
