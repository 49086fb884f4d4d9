-- Which trees are wholes, and where the rows begin.
use Rattle.std.proofs.Common.{◌≡◌, ◌<◌, ◌≤◌, false, List, [], ◌∷◌, length, sym, ap, ◌∙◌, inl, inr, arith, Some, Less, Greater, Ordering}
use Rattle.std.specs.Prelude.{slice_get}
use Rattle.degree_numbers.specs.declared.degree.Degree.{Degree}
use Rattle.degree_numbers.specs.Degree.{degree_zero}
use Rattle.equations.specs.declared.equation.Equation.{Equation}
use Rattle.ordered_lists.specs.Members.{IsIn}
use Rattle.plain_trees.specs.Plain.{Plain, edge_count_of, decoration_sum_of}
use Rattle.plain_trees.specs.Degree.{degree_of, planted}
use Rattle.normal_rule.specs.declared.rule.NodeType.{NodeType}
use Rattle.normal_rule.specs.declared.rule.RuleRow.{RuleRow}
use Rattle.normal_rule.specs.declared.rule.Rule.{Rule}
use Rattle.normal_rule.specs.Order.{empty_node, edge_order, node_order}
use Rattle.normal_rule.specs.declared.rule.EdgeType.{EdgeType}
use Rattle.ordered_lists.proofs.Insertion.{all_at_member}
use Rattle.std.specs.List.Sorted.{IsStrictlySortedBy}
use Rattle.std.specs.Cmp.{nat_cmp_is}
use Rattle.std.specs.Cmp.Lexicographic.{slice_cmp}
use Rattle.std.specs.Ordering.{nat_cmp, ordering_then}
use Rattle.conforming_trees.specs.Conforming.{IsRule}
use Rattle.conforming_trees.specs.Listed.{IsCandidate}
use Rattle.conforming_trees.specs.Budgets.{IsNotAbove, AreBudgets, most_at, IsWhole}
use Rattle.conforming_trees.proofs.Degrees.{not_above_trans}

module _ (eq : Equation) (rule : Rule) where
  pub candidate_is_whole : (lows mosts : List Degree) (t : Plain) → AreBudgets eq rule lows mosts →
      IsCandidate eq rule t → IsNotAbove (degree_of eq.types t) degree_zero → edge_count_of t ≤ 24 →
      decoration_sum_of t ≤ 64 →
      (row : RuleRow) × IsIn row rule.rows × IsWhole eq rule mosts row t
  candidate_is_whole lows mosts t b c h e d =
      let row = c.conforming.root.0 in
      let i = c.conforming.root.1 in (
        row,
        i,
        record {
          shaped = record { canonical = c.canonical; types = c.types; root = c.conforming.root.2; above = c.conforming.above; edges = e; decorations = d };
          room = not_above_trans (degree_of eq.types t) degree_zero (most_at mosts row.kernel.0) h (b.roots row i);
        },
      )

  pub whole_is_candidate : (mosts : List Degree) (row : RuleRow) (t : Plain) → IsIn row rule.rows →
      IsWhole eq rule mosts row t → planted eq.types t ≡ false → 0 < edge_count_of t →
      IsCandidate eq rule t
  whole_is_candidate mosts row t i h unplanted edge = record {
    canonical = h.shaped.canonical;
    types = h.shaped.types;
    conforming = record { root = (row, i, h.shaped.root); above = h.shaped.above };
    unplanted = unplanted;
    edge = edge;
  }

-- the empty node type is less than the others
empty_least : (es : List EdgeType) → node_order record { edges = es } empty_node ≡ Less → ⊥
empty_least [] h = absurd cc
empty_least (e ∷ es) h =
    let more : Greater ≡ nat_cmp (length (e ∷ es)) 0 = nat_cmp_is (length (e ∷ es)) 0 Greater (omega arith) in
    let first : ordering_then (nat_cmp (length (e ∷ es)) 0) (slice_cmp edge_order (e ∷ es) []) ≡ Greater = ap (λ (o : Ordering). ordering_then o (slice_cmp edge_order (e ∷ es) [])) (sym more) in
    let differ : Less ≡ Greater = sym h ∙ first in
    absurd cc

first_of_row : (ns : List NodeType) → IsStrictlySortedBy node_order ns → IsIn empty_node ns → slice_get ns 0 ≡ Some empty_node
unfolding IsStrictlySortedBy
first_of_row [] s h = absurd h
first_of_row (n ∷ ns) s (inl e) = ap Some e
first_of_row (n ∷ ns) s (inr h) = absurd (empty_least n.edges (all_at_member (λ m. node_order n m ≡ Less) ns empty_node s.0 h))

pub empty_first : (eq : Equation) (rule : Rule) (row : RuleRow) → IsRule eq rule → IsIn row rule.rows → slice_get row.nodes 0 ≡ Some empty_node
empty_first eq rule row r i = first_of_row row.nodes (r.normal row i).ascending (r.normal row i).empty
