-- Bounds of degrees by which the trees of a degree of at most 0 are found: what stands above an
-- edge has at least a low degree, so it leaves at most a rest.
-- What contracts of public calls say:
--   IsNotAbove d e == the degree d is at most e
--   derivative_sum es == the sum of all entries of the derivative decorations of es
--   IsUsable es == at most 24 edge types, whose derivative decorations have a sum of entries of at
--       most 64 (`MOST_LISTED_DECORATIONS`): no other can leave a node of a tree that is not too
--       large
--   lows : a degree for each type k, to be at most |k| plus the degree of each tree that may stand
--       above an edge of type k
--   low_at lows k == that of type k
--   edge_low ty lows e == that of the type of the edge type e, less the scaled size of its
--       derivative
--   lows_of ty lows es == the sum of these over es
--   AreLow eq rule lows == the degree of each noise; and of a kernel k at most |k| plus the sum
--       over each usable node type of its row
--   mosts : a degree for each kernel, to be at least that of each tree that stands above an edge of
--       it, or at a root, in a tree of a degree of at most 0
--   most_at mosts k == that of type k
--   AreBudgets eq rule lows mosts == each is at least 0; and what a node type leaves for one of its
--       kernel edges, where the others have their low degrees, is at most that of this kernel
--   IsReserve eq lows row es r == r is the least sum of low degrees that edges in front of es can
--       bring, so that together they are a usable node type of the row
-- Working notions of the code and of proofs:
--   with_root n t == the tree t with the decoration n at its root
--   IsShaped eq rule row t == t is canonical, over the types of eq, not too large, conforms above
--       each edge, and its root's node type is one of the row
--   IsStem eq rule lows mosts row t == such a tree with the root decoration 0, to which edges in
--       front may bring it down to the most of the row's kernel
--   IsWhole eq rule mosts row t == such a tree of a degree of at most the most of the row's kernel
use Rattle.std.specs.Prelude.{◌≡◌, ◌≢◌, ◌≤◌, ℕ, ◌+◌, List, [], ◌∷◌, ◌++◌, length, sum, slice_index_or}
use Rattle.std.specs.declared.cmp.Ordering.TheVariants.{Greater}
use Rattle.std.specs.declared.option.Option.TheVariants.{Some}
use Rattle.limits.specs.declared.TheConstants.{MOST_EDGES, MOST_LISTED_DECORATIONS}
use Rattle.degree_numbers.specs.declared.degree.Degree.{Degree}
use Rattle.degree_numbers.specs.declared.types.Types.{Types}
use Rattle.degree_numbers.specs.declared.types.Kind.TheVariants.{Noise, Kernel}
use Rattle.degree_numbers.specs.Degree.{degree_order, degree_plus, degree_zero}
use Rattle.degree_numbers.specs.Types.{type_degree, kind_of}
use Rattle.equations.specs.declared.equation.Equation.{Equation}
use Rattle.ordered_lists.specs.Members.{IsIn}
use Rattle.plain_trees.specs.Plain.{Plain, bare, graft, edge_count_of, decoration_sum_of, root_of}
use Rattle.plain_trees.specs.Building.{zeros}
use Rattle.plain_trees.specs.Canon.{IsCanonical}
use Rattle.plain_trees.specs.Degree.{HasTypes, degree_of, derivative_degree_of, edge_degree_of}
use Rattle.normal_rule.specs.declared.rule.NodeType.{NodeType}
use Rattle.normal_rule.specs.declared.rule.RuleRow.{RuleRow}
use Rattle.normal_rule.specs.declared.rule.Rule.{Rule}
use Rattle.conforming_trees.specs.Conforming.{EdgeLabel, labels, node_type_of, Allows, ConformsAbove}

abbrev pub IsNotAbove : Degree → Degree → Type 0
IsNotAbove d e = degree_order d e ≢ Greater

abbrev pub derivative_sum : List EdgeLabel → ℕ
derivative_sum [] = 0
derivative_sum (e ∷ es) = sum e.1 + derivative_sum es

pub record IsUsable (es : List EdgeLabel) : Type 0 where
  pub edges : length es ≤ MOST_EDGES
  pub derivatives : derivative_sum es ≤ MOST_LISTED_DECORATIONS

abbrev pub low_at : List Degree → ℕ → Degree
low_at lows k = slice_index_or lows k degree_zero

abbrev pub edge_low : Types → List Degree → EdgeLabel → Degree
edge_low ty lows e = degree_plus (low_at lows e.0) (derivative_degree_of ty e.1)

abbrev pub lows_of : Types → List Degree → List EdgeLabel → Degree
lows_of ty lows [] = degree_zero
lows_of ty lows (e ∷ es) = degree_plus (edge_low ty lows e) (lows_of ty lows es)

pub record AreLow (eq : Equation) (rule : Rule) (lows : List Degree) : Type 0 where
  pub noises : (k : ℕ) → kind_of eq.types k ≡ Some Noise → low_at lows k ≡ type_degree eq.types k
  pub kernels :
      (row : RuleRow) (n : NodeType) →
      IsIn row rule.rows →
      IsIn n row.nodes →
      IsUsable (labels n) →
      IsNotAbove (low_at lows row.kernel.0) (degree_plus (type_degree eq.types row.kernel.0)
      (lows_of eq.types lows (labels n)))

abbrev pub most_at : List Degree → ℕ → Degree
most_at mosts k = slice_index_or mosts k degree_zero

pub record AreBudgets (eq : Equation) (rule : Rule) (lows : List Degree)
    (mosts : List Degree) : Type 0 where
  pub roots : (row : RuleRow) → IsIn row rule.rows →
      IsNotAbove degree_zero (most_at mosts row.kernel.0)
  pub children :
      (row : RuleRow) (n : NodeType) (front : List EdgeLabel) (e : EdgeLabel)
      (back : List EdgeLabel) →
      IsIn row rule.rows →
      IsIn n row.nodes →
      IsUsable (labels n) →
      labels n ≡ front ++ e ∷ back →
      kind_of eq.types e.0 ≡ Some Kernel →
      IsNotAbove (most_at mosts row.kernel.0)
      (degree_plus (degree_plus (edge_degree_of eq.types e.0 e.1) (most_at mosts e.0))
      (lows_of eq.types lows (front ++ back)))

pub record IsReserve (eq : Equation) (lows : List Degree) (row : RuleRow) (es : List EdgeLabel)
    (r : Degree) : Type 0 where
  pub node : NodeType
  pub front : List EdgeLabel
  pub node_of_row : IsIn node row.nodes
  pub usable : IsUsable (labels node)
  pub ends : labels node ≡ front ++ es
  pub is : r ≡ lows_of eq.types lows front
  pub least : (n : NodeType) (f : List EdgeLabel) → IsIn n row.nodes → IsUsable (labels n) →
      labels n ≡ f ++ es → IsNotAbove r (lows_of eq.types lows f)

abbrev pub with_root : List ℕ → Plain → Plain
with_root n (bare m) = bare n
with_root n (graft k p c t) = graft k p c (with_root n t)

pub record IsShaped (eq : Equation) (rule : Rule) (row : RuleRow) (t : Plain) : Type 0 where
  pub canonical : IsCanonical t
  pub types : HasTypes eq.types t
  pub root : Allows row t
  pub above : ConformsAbove eq.types rule t
  pub edges : edge_count_of t ≤ MOST_EDGES
  pub decorations : decoration_sum_of t ≤ MOST_LISTED_DECORATIONS

pub record IsStem (eq : Equation) (rule : Rule) (lows : List Degree) (mosts : List Degree)
    (row : RuleRow) (t : Plain) : Type 0 where
  pub shaped : IsShaped eq rule row t
  pub undecorated : root_of t ≡ zeros
  pub node : NodeType
  pub front : List EdgeLabel
  pub node_of_row : IsIn node row.nodes
  pub usable : IsUsable (labels node)
  pub ends : labels node ≡ front ++ node_type_of t
  pub room : IsNotAbove (degree_plus (degree_of eq.types t) (lows_of eq.types lows front))
      (most_at mosts row.kernel.0)

pub record IsWhole (eq : Equation) (rule : Rule) (mosts : List Degree) (row : RuleRow)
    (t : Plain) : Type 0 where
  pub shaped : IsShaped eq rule row t
  pub room : IsNotAbove (degree_of eq.types t) (most_at mosts row.kernel.0)
