-- What the plan and the levels give to the making of stems.
use Rattle.std.proofs.Common.{◌≡◌, ℕ, ◌<◌, ◌≤◌, List, ◌∷◌, map, length, get_or, Some, sym, ap, ◌∙◌, subst, arith, All}
use Rattle.std.specs.Prelude.{slice_get}
use Rattle.std.proofs.lemmas.Option.{slice_get-get_or}
use Rattle.equations.specs.declared.equation.Equation.{Equation}
use Rattle.normal_rule.specs.declared.rule.RuleRow.{RuleRow}
use Rattle.normal_rule.specs.declared.rule.Rule.{Rule}
use Rattle.tree_budgets.specs.declared.plan.RowPlan.{RowPlan}
use Rattle.tree_budgets.specs.declared.plan.RulePlan.{RulePlan}
use Rattle.tree_budgets.specs.Plan.{IsRowPlan}
use Rattle.tree_budgets.proofs.Plans.{row_of_plan}
use Rattle.tree_pool.specs.Content.{Content}
use Rattle.tree_pool.specs.declared.node.TreeId.{TreeId}
use Rattle.tree_listing.specs.declared.level.Level.{Level}
use Rattle.tree_listing.specs.declared.level.Stem.{Stem}
use Rattle.tree_listing.specs.declared.level.Growth.{Growth}
use Rattle.tree_listing.specs.Levels.{sprout_of_growth, IsGrowthIn, IsSprout, AreSprouts, AreLevels, IsSetting}
use Rattle.tree_listing.specs.Made.{growths, no_row, IsExtension, IsInRange, IsStemIn, IsLevelIn, IsRowOf}
use Rattle.degree_numbers.specs.declared.types.Types.{Types}
use Rattle.degree_numbers.specs.Degree.{IsWithin}
use Rattle.ordered_lists.specs.Members.{IsIn}
use Rattle.ordered_lists.proofs.Members.{in_map, all_at}
use Rattle.normal_rule.specs.declared.rule.NodeType.{NodeType}
use Rattle.conforming_trees.specs.Conforming.{label, labels, IsRule}
use Rattle.conforming_trees.specs.Budgets.{derivative_sum}
use Rattle.conforming_trees.proofs.Kernels.{edge_known}
use Rattle.tree_budgets.specs.declared.plan.Extension.{Extension}
use Rattle.tree_budgets.specs.declared.plan.PlanNode.{PlanNode}
use Rattle.tree_budgets.specs.Plan.{IsNodePlan}
use Rattle.tree_budgets.proofs.Plans.{node_plan_at, node_of_plan}
use Rattle.tree_listing.specs.Levels.{sprout_of, IsLevel}
use Rattle.tree_listing.proofs.Members.{place_of, member_of, some_of, below_of}
use Rattle.ordered_lists.proofs.Members.{from_map}
use Rattle.tree_listing.proofs.Takes.{growths_made}
use Rattle.tree_listing.proofs.Gives.{stem_given}
use Rattle.tree_listing.proofs.RootLaws.{all_of_members}

pub row_item : (xs ys : List RowPlan) (i : ℕ) (p : RowPlan) → xs ≡ ys → p ≡ get_or xs i p → p ≡ get_or ys i p
row_item xs ys i p e h = h ∙ ap (λ (zs : List RowPlan). get_or zs i p) e

module _ (eq : Equation) (rule : Rule) (plan : RulePlan) (c : Content) (empty : TreeId) where
  -- the row of a plan at a place
  pub row_planned : (p : RowPlan) (r : ℕ) → IsSetting eq rule plan c empty → r < length plan.rows →
      p ≡ get_or plan.rows r p →
      (row : RuleRow) × (slice_get rule.rows r ≡ Some row) × IsRowPlan eq plan.lows plan.mosts row p
  row_planned p r set h at = row_of_plan eq plan.lows plan.mosts rule.rows plan.rows r p set.planned.rows (slice_get-get_or plan.rows r p h ∙ ap Some (sym at))

  pub row_planned_at : (p : RowPlan) (r : ℕ) (row : RuleRow) → IsSetting eq rule plan c empty →
      r < length plan.rows → p ≡ get_or plan.rows r p → slice_get rule.rows r ≡ Some row →
      IsRowPlan eq plan.lows plan.mosts row p
  row_planned_at p r row set h at is =
      let given = row_planned p r set h at in
      subst (λ (z : RuleRow). IsRowPlan eq plan.lows plan.mosts z p) (same_row given.0 row (sym given.1 ∙ is)) given.2
    where
      same_row : (x y : RuleRow) → Some x ≡ Some y → x ≡ y
      same_row x y h = cc

  pub growths_in : (p : RowPlan) (r : ℕ) (levels : List Level) (gs : List Growth) →
      IsSetting eq rule plan c empty → AreLevels eq rule plan c levels → r < length plan.rows →
      p ≡ get_or plan.rows r p → length levels ≤ 24 → gs ≡ growths c empty p levels r →
      All (IsGrowthIn c) gs
  growths_in p r levels gs set all h at most is =
      let row = row_planned p r set h at in
      rw is (all_of_members (IsGrowthIn c) (growths c empty p levels r) (λ g m. (growths_made eq rule plan c empty p levels r row.0 (length levels) g set all row.1 row.2 most (omega arith) m).growth))

  pub growths_are : (p : RowPlan) (r : ℕ) (levels : List Level) (row : RuleRow) →
      IsSetting eq rule plan c empty → AreLevels eq rule plan c levels → r < length plan.rows →
      p ≡ get_or plan.rows r p → length levels ≤ 24 → 0 < length levels →
      slice_get rule.rows r ≡ Some row →
      AreSprouts eq rule plan row (length levels) (map (sprout_of_growth c) (growths c empty p levels r))
  growths_are p r levels row set all h at most some is =
      let planned = row_planned p r set h at in
      let same : planned.0 ≡ row = some_same planned.0 row (sym planned.1 ∙ is) in
      let row_plan = subst (λ (z : RuleRow). IsRowPlan eq plan.lows plan.mosts z p) same planned.2 in record {
        each = λ s m. let g = from_map (sprout_of_growth c) s (growths c empty p levels r) m in subst (λ z. IsSprout eq rule plan row (length levels) z) g.2 (growths_made eq rule plan c empty p levels r row (length levels) g.0 set all is row_plan most (omega arith) g.1).sprout;
        whole = λ t stem count. stem_given eq rule plan c empty p levels r row t set all is row_plan some stem count;
      }
    where
      some_same : (x y : RuleRow) → Some x ≡ Some y → x ≡ y
      some_same x y h = cc

  planned_below : (p : RowPlan) (row : RuleRow) (i : ℕ) (n : NodeType) →
      IsRowPlan eq plan.lows plan.mosts row p → slice_get row.nodes i ≡ Some n → i < length p.nodes
  planned_below p row i n h at = let q = node_plan_at eq plan.lows row row.nodes p.nodes i n h.nodes at in below_of p.nodes i q.0 q.1

  extension_in : (p : RowPlan) (row : RuleRow) (n : NodeType) (q : PlanNode) (x : Extension) →
      IsRule eq rule → IsIn row rule.rows → IsRowPlan eq plan.lows plan.mosts row p →
      IsNodePlan eq plan.lows row n q → IsIn x q.extensions → IsExtension eq.types p x
  extension_in p row n q x r i h k m =
      let ext = k.extension x m in
      let same : labels ext.0 ≡ (x.edge.kind.0, x.edge.p.entries) ∷ labels n = ap (map label) ext.2 in
      let sum = ext.3.derivatives in
      let all : derivative_sum (labels ext.0) ≡ derivative_sum ((x.edge.kind.0, x.edge.p.entries) ∷ labels n) = ap derivative_sum same in record {
        node = planned_below p row x.node ext.0 h ext.1;
        kind = edge_known eq rule row ext.0 x.edge.kind.0 x.edge.p.entries (labels n) r i (member_of row.nodes x.node ext.0 ext.1) same;
        derivative = omega (arith, sum, all);
      }

  node_of : (p : RowPlan) (row : RuleRow) (q : PlanNode) → IsRowPlan eq plan.lows plan.mosts row p →
      IsIn q p.nodes → (n : NodeType) × IsNodePlan eq plan.lows row n q
  node_of p row q h m = let place = place_of q p.nodes m in let n = node_of_plan eq plan.lows row row.nodes p.nodes place.0 q h.nodes place.1 in (n.0, n.2)

  pub plan_in_range : (p : RowPlan) (r : ℕ) → IsSetting eq rule plan c empty → r < length plan.rows → p ≡ get_or plan.rows r p → IsInRange c.types p
  plan_in_range p r set h at =
      let row = row_planned p r set h at in
      let member = member_of rule.rows r row.0 row.1 in
      subst (λ (ty : Types). IsInRange ty p) (sym set.types) record {
        reserves_a = all_of_members (λ (q : PlanNode). IsWithin q.reserve.a 1000000000000000) p.nodes (λ q m. (node_of p row.0 q row.2 m).1.modest.a);
        reserves_b = all_of_members (λ (q : PlanNode). IsWithin q.reserve.b 1000000000000000) p.nodes (λ q m. (node_of p row.0 q row.2 m).1.modest.b);
        extensions = all_of_members (λ (q : PlanNode). All (IsExtension eq.types p) q.extensions) p.nodes
            (λ q m. let n = node_of p row.0 q row.2 m in all_of_members (IsExtension eq.types p) q.extensions (λ x k. extension_in p row.0 n.0 q x set.normal member row.2 n.1 k));
      }

  level_in : (p : RowPlan) (r : ℕ) (row : RuleRow) (levels : List Level) (e : ℕ) (level : Level) →
      IsRowPlan eq plan.lows plan.mosts row p → slice_get rule.rows r ≡ Some row →
      IsLevel eq rule plan c e level → IsLevelIn c p r level
  level_in p r row levels e level planned at h =
      let count = h.count in
      let lt : r < length level.rows = omega (arith, count, below_of rule.rows r row at) in
      let own = h.rows r row (get_or level.rows r no_row) at (slice_get-get_or level.rows r no_row lt) in record {
        rows = all_of_members (IsRowOf c) level.rows (λ y m. let place = place_of y level.rows m in let other = some_of rule.rows place.0 (omega (arith, count, below_of level.rows place.0 y place.1)) in (h.rows place.0 other.0 y other.1 place.1).known);
        row = lt;
        stems = all_of_members (IsStemIn c p) (get_or level.rows r no_row).stems (λ s m.
            let sprout = own.stems.each (sprout_of c s) (in_map (sprout_of c) s (get_or level.rows r no_row).stems m) in
            record { id = all_at (λ (z : Stem). z.id.0 < length c.trees) (get_or level.rows r no_row).stems s own.known.stems m; node = planned_below p row s.node sprout.node planned sprout.place });
      }

  pub levels_in : (p : RowPlan) (r : ℕ) (levels : List Level) → IsSetting eq rule plan c empty →
      AreLevels eq rule plan c levels → r < length plan.rows → p ≡ get_or plan.rows r p →
      All (IsLevelIn c p r) levels
  levels_in p r levels set all h at =
      let row = row_planned p r set h at in
      all_of_members (IsLevelIn c p r) levels (λ level m. let place = place_of level levels m in level_in p r row.0 levels place.0 level row.2 row.1 (all place.0 level place.1))
