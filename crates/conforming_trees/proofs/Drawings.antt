-- Node types and conformity are those of the tree, not of its drawing.
use Rattle.std.proofs.Common.{◌≡◌, List, ap, ◌∙◌, subst, refl}
use Rattle.degree_numbers.specs.declared.types.Types.{Types}
use Rattle.plain_trees.specs.Plain.{Plain}
use Rattle.plain_trees.specs.Canon.{IsSame, exchanged, on_both, unchanged, chained, canon}
use Rattle.plain_trees.proofs.CanonLaws.{canon_same}
use Rattle.normal_rule.specs.declared.rule.Rule.{Rule}
use Rattle.normal_rule.specs.declared.rule.RuleRow.{RuleRow}
use Rattle.ordered_lists.specs.Members.{IsIn}
use Rattle.conforming_trees.specs.Conforming.{EdgeLabel, put_label, node_type_of, IsInRow, IsInRule, ConformsAbove, IsConforming}
use Rattle.conforming_trees.proofs.Labels.{put-commute, node_type-sorted}

same_node_type : {s t : Plain} → IsSame s t → node_type_of s ≡ node_type_of t
same_node_type (exchanged k p c l q d t) = put-commute (k, p) (l, q) (node_type_of t) (node_type-sorted t)
same_node_type (on_both k p h j) = ap (put_label (k, p)) (same_node_type j)
same_node_type (unchanged t) = refl
same_node_type (chained h j) = same_node_type h ∙ same_node_type j

same_above : (ty : Types) (rule : Rule) {s t : Plain} → IsSame s t → ConformsAbove ty rule s → ConformsAbove ty rule t
same_above ty rule (exchanged k p c l q d t) a = (a.2.0, a.2.1, (a.0, a.1, a.2.2))
same_above ty rule (on_both k p h j) a = (subst (IsInRule ty rule k) (same_node_type h) a.0, same_above ty rule h a.1, same_above ty rule j a.2)
same_above ty rule (unchanged t) a = a
same_above ty rule (chained h j) a = same_above ty rule j (same_above ty rule h a)

pub same_conforms : (ty : Types) (rule : Rule) (s t : Plain) → IsSame s t → IsConforming ty rule s → IsConforming ty rule t
same_conforms ty rule s t same a = record {
  root = subst (λ (es : List EdgeLabel). (row : RuleRow) × IsIn row rule.rows × IsInRow row es) (same_node_type same) a.root;
  above = same_above ty rule same a.above;
}

pub canon_conforms : (ty : Types) (rule : Rule) (t : Plain) → IsConforming ty rule t → IsConforming ty rule (canon t)
canon_conforms ty rule t a = same_conforms ty rule t (canon t) (canon_same t) a
