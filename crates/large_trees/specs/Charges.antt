-- Lower bounds of degrees, where what is counted is charged. A rule for which they are great enough
-- has no tree that is too large.
-- Working notions of the code and of proofs, which no contract of a public call names:
--   fine z == z units in thousandths, in which charges and bounds are
--   bound_at bounds k == the bound of type k
--   charged_edge ty c bounds e == what is left of the bound of the type of e by its derivative and
--       by the charge on what is counted of it
--   charged_sum ty c bounds es == the sum over es
--   AreLow es == the entries of each derivative in es are at most 1,000 together
--   AreShort es == so it is, and es are at most 1,000
--   IsModest z == z is at most 10^13 in size
--   AreBounds ty bounds == the bounds are modest, and that of each type at most its degree
--   IsLower bounds k z == there is a bound of k, and z is at most that, and modest
--   IsBound ty c bounds k es == the bound of k is at most the degree of k with what edges of the
--       types es leave, and at a root these leave more than what the least too large tree is
--       charged
--   IsNodeBound ty c bounds k n, IsRowBound ty c bounds row == so it is with a node type, and with
--       each of a row and the kernel of the row
use Rattle.std.specs.Prelude.{ℕ, ◌+◌, ◌*◌, ◌<◌, ◌≤◌, ℤ, pos, ◌+ℤ◌, ◌-ℤ◌, ◌*ℤ◌, ◌≤ℤ◌, List, [], ◌∷◌, length, sum, slice_index_or}
use Rattle.std.specs.List.{All, AllByRecursion}
use Rattle.degree_numbers.specs.Degree.{IsWithin}
use Rattle.degree_numbers.specs.declared.types.Types.{Types}
use Rattle.degree_numbers.specs.Types.{type_degree, size_in_units}
use Rattle.normal_rule.specs.declared.rule.NodeType.{NodeType}
use Rattle.normal_rule.specs.declared.rule.RuleRow.{RuleRow}
use Rattle.conforming_trees.specs.Conforming.{EdgeLabel, labels}
use Rattle.large_trees.specs.declared.charges.Charge.{Charge}
use Rattle.large_trees.specs.Classes.{most_of, weight_at}

abbrev pub fine : ℤ → ℤ
fine z = pos 1000 *ℤ z

abbrev pub bound_at : List ℤ → ℕ → ℤ
bound_at bounds k = slice_index_or bounds k (pos 0)

abbrev pub charged_edge : Types → Charge → List ℤ → EdgeLabel → ℤ
charged_edge ty c bounds e =
    bound_at bounds e.0 -ℤ pos (1000 * size_in_units ty e.1 + c.each * weight_at c.count e.1)

abbrev pub charged_sum : Types → Charge → List ℤ → List EdgeLabel → ℤ
charged_sum ty c bounds [] = pos 0
charged_sum ty c bounds (e ∷ es) = charged_edge ty c bounds e +ℤ charged_sum ty c bounds es

abbrev pub AreLow : List EdgeLabel → Type 0
AreLow es = AllByRecursion (λ e. sum e.1 ≤ 1000) es

pub record AreShort (es : List EdgeLabel) : Type 0 where
  pub edges : length es ≤ 1000
  pub derivatives : AreLow es

abbrev pub IsModest : ℤ → Type 0
IsModest z = IsWithin z 10000000000000

pub record AreBounds (ty : Types) (bounds : List ℤ) : Type 0 where
  pub modest : (k : ℕ) → IsModest (bound_at bounds k)
  pub below : (k : ℕ) → bound_at bounds k ≤ℤ fine (type_degree ty k).a

pub record IsLower (bounds : List ℤ) (k : ℕ) (z : ℤ) : Type 0 where
  pub within : k < length bounds
  pub lower : z ≤ℤ bound_at bounds k
  pub modest : IsModest z

pub record IsBound (ty : Types) (c : Charge) (bounds : List ℤ) (k : ℕ)
    (es : List EdgeLabel) : Type 0 where
  pub above : bound_at bounds k ≤ℤ (fine (type_degree ty k).a +ℤ charged_sum ty c bounds es)
  pub root : pos 1 ≤ℤ (charged_sum ty c bounds es +ℤ pos (c.each * most_of c.count))

abbrev pub IsNodeBound : Types → Charge → List ℤ → ℕ → NodeType → Type 0
IsNodeBound ty c bounds k n = IsBound ty c bounds k (labels n)

pub record IsRowBound (ty : Types) (c : Charge) (bounds : List ℤ) (row : RuleRow) : Type 0 where
  pub each : All (IsNodeBound ty c bounds row.kernel.0) row.nodes
