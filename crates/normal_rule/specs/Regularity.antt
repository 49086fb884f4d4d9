-- The inequality of regularities (after Bruned, Hairer and Zambotti, section 5), in standard parts
-- and in the units of the degrees.
--   kernel_regularity us k == the regularity of the first of the unknowns us that has the kernel k
--   regularity_by kind degree regularity == the degree for a noise, the regularity for a kernel
--   regularity_at e regularity == the same by the kind and the degree of the type e; the regularity
--       where there is no such type
--   regularity_of eq k == reg of type k: the degree of a noise, and of a kernel the regularity that
--       the file gives
--   edge_regularity eq e == reg of the edge type e: that of its type, without the scaled size of
--       its derivative
--   node_regularity eq n == reg of the node type n: the sum over its edge types
--   left_side eq t == reg(t)
--   right_side eq t n == |t| + reg(n)
--   holds eq t n == the left side is smaller than the right side
--   HoldAll eq rows == it holds for the kernel and each node type of each of the rows
--   IsSubcritical eq rule == it holds for each kernel and each node type of its row
--   IsGap eq rule g == g is the least difference of the two sides
--   IsFirstFailure eq rows f == f names the first kernel and its first node type where it doesn't
--       hold, and both sides there
--   HasRows eq rule == one row for each kernel, in the order of the kernels, and in each the empty
--       node type
--   IsMeasuredNode n == the node type n has at most 24 edges (`MOST_EDGES`), and each entry of
--       their multiindices is at most 4,096 (`MOST_DECORATIONS`)
--   AreMeasured rows == so is each node type of the rows
use Rattle.std.specs.Prelude.{◌≡◌, ◌≤◌, ◌<◌, ◌≤ℤ◌, ℕ, ℤ, pos, ◌+ℤ◌, ◌-ℤ◌, neg_ℤ, int_lt, ◌==◌, Bool, true, if◌then◌else◌, List, [], ◌∷◌, ◌++◌, length, map, fold, slice_get, slice_index_or, Option, Some, None}
use Rattle.std.specs.List.{All, prefix_len}
use Rattle.limits.specs.declared.TheConstants.{MOST_EDGES, MOST_DECORATIONS}
use Rattle.degree_numbers.specs.declared.degree.Degree.{Degree}
use Rattle.degree_numbers.specs.declared.types.Kind.{Kind}
use Rattle.degree_numbers.specs.declared.types.Kind.TheVariants.{Noise, Kernel}
use Rattle.degree_numbers.specs.declared.types.TypeEntry.{TypeEntry}
use Rattle.degree_numbers.specs.Types.{type_degree, size_in_units}
use Rattle.equations.specs.declared.equation.Equation.{Equation}
use Rattle.equations.specs.declared.equation.Unknown.{Unknown}
use Rattle.ordered_lists.specs.Members.{IsIn}
use Rattle.normal_rule.specs.declared.rule.EdgeType.{EdgeType}
use Rattle.normal_rule.specs.declared.rule.NodeType.{NodeType}
use Rattle.normal_rule.specs.declared.rule.RuleRow.{RuleRow}
use Rattle.normal_rule.specs.declared.rule.Rule.{Rule}
use Rattle.normal_rule.specs.declared.regularity.NotSubcritical.{NotSubcritical}
use Rattle.normal_rule.specs.Order.{empty_node}

-- the regularity of the unknown of kernel k
abbrev pub kernel_regularity : List Unknown → ℕ → ℤ
kernel_regularity [] k = pos 0
kernel_regularity (u ∷ us) k = if u.kernel.0 == k then u.regularity.a else kernel_regularity us k

abbrev pub regularity_by : Kind → ℤ → ℤ → ℤ
regularity_by Noise degree regularity = degree
regularity_by Kernel degree regularity = regularity

abbrev pub regularity_at : Option TypeEntry → ℤ → ℤ
regularity_at None regularity = regularity
regularity_at (Some e) regularity = regularity_by e.kind e.degree.a regularity

abbrev pub regularity_of : Equation → ℕ → ℤ
regularity_of eq k = regularity_at (slice_get eq.types.list k) (kernel_regularity eq.unknowns k)

abbrev pub edge_regularity : Equation → EdgeType → ℤ
edge_regularity eq e = regularity_of eq e.kind.0 +ℤ neg_ℤ (pos (size_in_units eq.types e.p.entries))

abbrev pub node_regularity : Equation → NodeType → ℤ
node_regularity eq n = fold (λ sum e. sum +ℤ edge_regularity eq e) (pos 0) n.edges

abbrev pub left_side : Equation → ℕ → ℤ
left_side eq t = regularity_of eq t

abbrev pub right_side : Equation → ℕ → NodeType → ℤ
right_side eq t n = (type_degree eq.types t).a +ℤ node_regularity eq n

abbrev pub holds : Equation → ℕ → NodeType → Bool
holds eq t n = int_lt (left_side eq t) (right_side eq t n)

abbrev pub HoldAll : Equation → List RuleRow → Type 0
HoldAll eq rows = (row : RuleRow) (n : NodeType) → IsIn row rows → IsIn n row.nodes →
    holds eq row.kernel.0 n ≡ true

abbrev pub IsSubcritical : Equation → Rule → Type 0
IsSubcritical eq rule = HoldAll eq rule.rows

abbrev pub difference : Equation → ℕ → NodeType → ℤ
difference eq t n = right_side eq t n -ℤ left_side eq t

pub record IsGap (eq : Equation) (rule : Rule) (gap : ℤ) : Type 0 where
  pub row : RuleRow
  pub node : NodeType
  pub row_of_rule : IsIn row rule.rows
  pub node_of_row : IsIn node row.nodes
  pub is : gap ≡ difference eq row.kernel.0 node
  pub least : (r : RuleRow) (n : NodeType) → IsIn r rule.rows → IsIn n r.nodes →
      gap ≤ℤ difference eq r.kernel.0 n

abbrev pub standard : ℤ → Degree
standard z = record { a = z; b = pos 0 }

pub record IsFirstFailure (eq : Equation) (all : List RuleRow) (f : NotSubcritical) : Type 0 where
  pub before : List RuleRow
  pub row : RuleRow
  pub after : List RuleRow
  pub rows : all ≡ before ++ row ∷ after
  pub hold : HoldAll eq before
  pub kernel : f.kernel ≡ row.kernel
  pub node : f.node ≡ prefix_len (holds eq row.kernel.0) row.nodes
  pub inside : f.node < length row.nodes
  pub left : f.left ≡ standard (left_side eq row.kernel.0)
  pub right : f.right
      ≡ standard (right_side eq row.kernel.0 (slice_index_or row.nodes f.node empty_node))

pub record HasRows (eq : Equation) (rule : Rule) : Type 0 where
  pub kernels : map (λ row. row.kernel) rule.rows ≡ map (λ u. u.kernel) eq.unknowns
  pub empty : (row : RuleRow) → IsIn row rule.rows → IsIn empty_node row.nodes

abbrev pub IsMeasuredNode : NodeType → Type 0
IsMeasuredNode n = (length n.edges ≤ MOST_EDGES)
    × All (λ e. All (λ m. m ≤ MOST_DECORATIONS) e.p.entries) n.edges

abbrev pub AreMeasured : List RuleRow → Type 0
AreMeasured rows = All (λ row. All IsMeasuredNode row.nodes) rows
