-- How the low degrees and the budgets of a rule are tested, and those that the regularities give.
-- What contracts of public calls say:
--   IsModest d == both parts of d are at most 10^15 in size
-- Working notions of the code and of proofs:
--   IsBounded d == both parts of d are at most 10^9 in size
--   AreBounded ds == so it is with the degree at each number
--   IsTypeTable ty ds == there is one for each type, and they are bounded
--   AreTypeBounds ty ds == there is one for each type, they are bounded, and those of the noises
--       are their degrees
--   IsLowAt ty lows k n == the low degree of kernel k is at most what the usable node type n brings
--       above an edge of it
--   IsLowRow ty lows row == so it is with the kernel of the row and each of its node types
--   IsEnough ty lows mosts k es e == what edges of the edge types es, at a node in a tree of at
--       most the most of kernel k, leave for a kernel edge e of them is at most its most
--   AreEnough ty lows mosts k n == so it is with each edge type of a usable node type n
--   IsEnoughRow ty lows mosts row == so it is with the kernel of the row, whose most is at least 0,
--       and each of its node types
--   HasBounds eq rule lows mosts == they are low degrees and budgets of the rule, and bounded
--   regular_low eq k == the regularity of type k, with the k part of its degree
--   degree_minus d e == the difference, part by part
--   slack eq k == by how much the degree of type k is above its regularity
--   IsSlackMost eq n d == d is at least the slack of each of the first n types, and small
--   regular_most eq d k == what is left of d by the slack of type k
use Rattle.std.specs.Prelude.{◌≡◌, ℕ, ◌-ℤ◌, ◌<◌, List, map, length}
use Rattle.std.specs.List.{All}
use Rattle.std.specs.declared.option.Option.TheVariants.{Some}
use Rattle.degree_numbers.specs.declared.Degree.{Degree}
use Rattle.degree_numbers.specs.declared.Types.{Types}
use Rattle.degree_numbers.specs.declared.Kind.TheVariants.{Noise, Kernel}
use Rattle.degree_numbers.specs.Degree.{IsWithin, degree_plus, degree_zero}
use Rattle.degree_numbers.specs.Types.{type_degree, kind_of}
use Rattle.equations.specs.declared.Equation.{Equation}
use Rattle.normal_rule.specs.declared.EdgeType.{EdgeType}
use Rattle.normal_rule.specs.declared.NodeType.{NodeType}
use Rattle.normal_rule.specs.declared.RuleRow.{RuleRow}
use Rattle.normal_rule.specs.declared.Rule.{Rule}
use Rattle.normal_rule.specs.Regularity.{regularity_of}
use Rattle.conforming_trees.specs.Conforming.{label, labels}
use Rattle.conforming_trees.specs.Budgets.{IsNotAbove, IsUsable, low_at, lows_of, most_at, AreLow, AreBudgets}

pub record IsModest (d : Degree) : Type 0 where
  pub a : IsWithin d.a 1000000000000000
  pub b : IsWithin d.b 1000000000000000

pub record IsBounded (d : Degree) : Type 0 where
  pub a : IsWithin d.a 1000000000
  pub b : IsWithin d.b 1000000000

abbrev pub AreBounded : List Degree → Type 0
AreBounded ds = (k : ℕ) → IsBounded (low_at ds k)

pub record IsTypeTable (ty : Types) (ds : List Degree) : Type 0 where
  pub each : length ds ≡ length ty.list
  pub bounded : AreBounded ds

pub record AreTypeBounds (ty : Types) (ds : List Degree) : Type 0 where
  pub each : length ds ≡ length ty.list
  pub bounded : AreBounded ds
  pub noises : (k : ℕ) → kind_of ty k ≡ Some Noise → low_at ds k ≡ type_degree ty k

pub record IsLowAt (ty : Types) (lows : List Degree) (k : ℕ) (n : NodeType) : Type 0 where
  pub low : IsUsable (labels n) →
      IsNotAbove (low_at lows k) (degree_plus (type_degree ty k) (lows_of ty lows (labels n)))

pub record IsLowRow (ty : Types) (lows : List Degree) (row : RuleRow) : Type 0 where
  pub each : All (IsLowAt ty lows row.kernel.0) row.nodes

pub record IsEnough (ty : Types) (lows : List Degree) (mosts : List Degree) (k : ℕ)
    (es : List EdgeType) (e : EdgeType) : Type 0 where
  pub enough : kind_of ty e.kind.0 ≡ Some Kernel →
      IsNotAbove (degree_plus (most_at mosts k) (low_at lows e.kind.0))
      (degree_plus (degree_plus (most_at mosts e.kind.0) (type_degree ty e.kind.0))
      (lows_of ty lows (map label es)))

pub record AreEnough (ty : Types) (lows : List Degree) (mosts : List Degree) (k : ℕ)
    (n : NodeType) : Type 0 where
  pub each : IsUsable (labels n) → All (IsEnough ty lows mosts k n.edges) n.edges

pub record IsEnoughRow (ty : Types) (lows : List Degree) (mosts : List Degree)
    (row : RuleRow) : Type 0 where
  pub root : IsNotAbove degree_zero (most_at mosts row.kernel.0)
  pub each : All (AreEnough ty lows mosts row.kernel.0) row.nodes

abbrev pub regular_low : Equation → ℕ → Degree
regular_low eq k = record { a = regularity_of eq k; b = (type_degree eq.types k).b }

abbrev pub degree_minus : Degree → Degree → Degree
degree_minus d e = record { a = d.a -ℤ e.a; b = d.b -ℤ e.b }

abbrev pub slack : Equation → ℕ → Degree
slack eq k = degree_minus (type_degree eq.types k) (regular_low eq k)

pub record IsSlackMost (eq : Equation) (n : ℕ) (d : Degree) : Type 0 where
  pub each : (k : ℕ) → k < n → IsNotAbove (slack eq k) d
  pub a : IsWithin d.a 40000000
  pub b : IsWithin d.b 40000000

abbrev pub regular_most : Equation → Degree → ℕ → Degree
regular_most eq d k = degree_minus d (slack eq k)

pub record HasBounds (eq : Equation) (rule : Rule) (lows : List Degree)
    (mosts : List Degree) : Type 0 where
  pub low : AreLow eq rule lows
  pub budgets : AreBudgets eq rule lows mosts
  pub lows_bounded : AreBounded lows
  pub mosts_bounded : AreBounded mosts
