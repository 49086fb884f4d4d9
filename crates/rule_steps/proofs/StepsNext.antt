-- Rows with all that is in the next stage are the next stage.
use Rattle.std.proofs.Common.{◌≡◌, ℕ, List, [], ◌∷◌, map, refl, sym, ap, ◌∙◌, subst, inl, inr, Some}
use Rattle.std.specs.List.{All}
use Rattle.std.proofs.lemmas.List.Elements.{All-nil, All-cons}
use Rattle.degree_numbers.specs.declared.types.TypeId.{TypeId}
use Rattle.degree_numbers.specs.declared.types.Kind.TheVariants.{Noise, Kernel}
use Rattle.equations.specs.declared.equation.Equation.{Equation}
use Rattle.equations.specs.Accepted.{IsEquation}
use Rattle.ordered_lists.specs.Members.{IsIn}
use Rattle.ordered_lists.proofs.Members.{in_map, from_map}
use Rattle.plain_trees.specs.Degree.{IsMultiIndex}
use Rattle.normal_rule.specs.declared.rule.NodeType.{NodeType}
use Rattle.normal_rule.specs.declared.rule.Rule.{Rule}
use Rattle.normal_rule.specs.declared.rule.RuleRow.{RuleRow}
use Rattle.normal_rule.specs.Order.{empty_node}
use Rattle.normal_rule.specs.Rule.{IsNormalRow}
use Rattle.normal_rule.specs.Text.{IsKnownNode}
use Rattle.conforming_trees.specs.Conforming.{EdgeLabel, labels, IsInKernelRow, IsRule}
use Rattle.rule_stages.specs.Stages.{IsInNext, IsNextStage}
use Rattle.rule_steps.specs.Steps.{IsNextRow}
use Rattle.rule_steps.proofs.StepsKnown.{edges_known, edges_directed, next_known, next_in_order, next_part}
use Rattle.rule_steps.proofs.NodeSets.{same_node}
use Rattle.rule_steps.proofs.StepsLabels.{pairs_sorted, labels_part}

all_of_members : {X : Type 0} (P : X → Type 0) (xs : List X) → ((x : X) → IsIn x xs → P x) → All P xs
all_of_members P [] h = All-nil P
all_of_members P (x ∷ xs) h = All-cons P x xs (h x (inl refl)) (all_of_members P xs (λ y i. h y (inr i)))

all_nodes : (P : NodeType → Type 0) (rows : List RuleRow) →
    ((row : RuleRow) (n : NodeType) → IsIn row rows → IsIn n row.nodes → P n) →
    All (λ row. All P row.nodes) rows
all_nodes P rows h = all_of_members (λ (row : RuleRow). All P row.nodes) rows (λ row i. all_of_members P row.nodes (λ n j. h row n i j))

abbrev kernel_at : RuleRow → TypeId
kernel_at row = row.kernel

-- rows of the same kernels
same_kernel : (rows others : List RuleRow) (row : RuleRow) →
    map (λ (r : RuleRow). r.kernel) rows ≡ map (λ (r : RuleRow). r.kernel) others → IsIn row rows →
    (r : RuleRow) × IsIn r others × (r.kernel ≡ row.kernel)
same_kernel rows others row same i = from_map kernel_at row.kernel others (subst (IsIn row.kernel) same (in_map kernel_at row rows i))

module _ (eq : Equation) (rule : Rule) (equation : IsEquation eq) (is_rule : IsRule eq rule) where
  -- a kernel with node types in the next stage has a row
  kernel_row : (k : ℕ) (es : List EdgeLabel) → IsInNext eq rule k es → (r : RuleRow) × IsIn r rule.rows × (r.kernel.0 ≡ k)
  kernel_row k es h =
      elim h [
        | inl old ↦ (old.0, old.1, old.2)
        | inr new ↦
            elim (new.1.additions.2.1) [
              | inl noise ↦ absurd (let one = new.1.kernel in let other = noise.0 in let clash : Some Kernel ≡ Some Noise = sym one ∙ other in cc)
              | inr kernel ↦ (kernel.0, kernel.1, kernel.2)
            ]
      ]

  module _ (next : Rule) (kernels : map (λ (r : RuleRow). r.kernel) next.rows ≡ map (λ (r : RuleRow). r.kernel) rule.rows) (rows : (row : RuleRow) → IsIn row next.rows → IsNextRow eq rule row) where
    empty_in : (row : RuleRow) → IsIn row next.rows → IsIn empty_node row.nodes
    empty_in row i =
        let r = same_kernel next.rows rule.rows row kernels i in
        let old : IsInKernelRow rule row.kernel.0 [] = (r.0, r.1, ap (λ (k : TypeId). k.0) r.2, (empty_node, (is_rule.normal r.0 r.1).empty, refl)) in
        let n = (rows row i).all [] (inl old) in
        subst (λ (m : NodeType). IsIn m row.nodes) (same_node n.0 empty_node n.2) n.1

    normal_row : (row : RuleRow) → IsIn row next.rows → IsNormalRow row
    normal_row row i =
        let k = row.kernel.0 in
        let set = rows row i in
        record {
          ascending = set.ascending;
          in_order = λ n j. pairs_sorted n.edges (next_in_order eq rule equation is_rule k (labels n) (set.only n j));
          empty = empty_in row i;
          closed = λ n m j sub.
              (let part = next_part eq rule equation is_rule k (labels m) (labels n) (set.only n j) (labels_part m.edges n.edges sub) in
              let x = set.all (labels m) part in
              subst (λ (y : NodeType). IsIn y row.nodes) (same_node x.0 m x.2) x.1);
        }

    pub next_is : IsNextStage eq rule next
    next_is = record {
      is_rule = record {
        normal = normal_row;
        rows = record { kernels = kernels ∙ is_rule.rows.kernels; empty = empty_in };
        known = all_nodes (IsKnownNode eq.types) next.rows (λ row n i j. edges_known eq.types n.edges (next_known eq rule equation is_rule row.kernel.0 (labels n) ((rows row i).only n j)));
        directions = all_nodes (λ (n : NodeType). All (λ e. IsMultiIndex eq.types.dims e.p.entries) n.edges) next.rows
            (λ row n i j. edges_directed eq.types n.edges (next_known eq rule equation is_rule row.kernel.0 (labels n) ((rows row i).only n j)));
      };
      sound = λ k es h. subst (λ (l : ℕ). IsInNext eq rule l es) h.2 (subst (IsInNext eq rule h.0.kernel.0) h.3.2 ((rows h.0 h.1).only h.3.0 h.3.1));
      whole = λ k es h.
          (let r = kernel_row k es h in
          let row = same_kernel rule.rows next.rows r.0 (sym kernels) r.1 in
          let same : row.0.kernel.0 ≡ k = ap (λ (x : TypeId). x.0) row.2 ∙ r.2 in
          (row.0, row.1, same, (rows row.0 row.1).all es (subst (λ (l : ℕ). IsInNext eq rule l es) (sym same) h)));
    }
