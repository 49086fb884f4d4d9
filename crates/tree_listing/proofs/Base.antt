-- The stem without an edge.
use Rattle.std.proofs.Common.{◌≡◌, ℕ, ◌<◌, List, [], length, get_or, Some, refl, sym, ap, ◌∙◌, subst, arith, All}
use Rattle.std.specs.Prelude.{slice_get}
use Rattle.degree_numbers.specs.declared.degree.Degree.{Degree}
use Rattle.degree_numbers.specs.Degree.{degree_plus}
use Rattle.equations.specs.declared.equation.Equation.{Equation}
use Rattle.ordered_lists.specs.Members.{IsIn}
use Rattle.ordered_lists.proofs.Members.{in_map, from_map}
use Rattle.plain_trees.specs.Plain.{Plain, bare, graft, edge_count_of, root_of}
use Rattle.plain_trees.specs.Building.{zeros}
use Rattle.plain_trees.specs.Degree.{empty_tree, degree_of}
use Rattle.normal_rule.specs.declared.rule.RuleRow.{RuleRow}
use Rattle.normal_rule.specs.declared.rule.Rule.{Rule}
use Rattle.normal_rule.specs.Order.{empty_node}
use Rattle.conforming_trees.specs.Budgets.{IsNotAbove, IsUsable, IsReserve, IsShaped, IsStem, most_at}
use Rattle.conforming_trees.proofs.Roots.{zeros_multi, zeros_degree}
use Rattle.conforming_trees.proofs.Degrees.{zero_plus}
use Rattle.conforming_trees.proofs.Stems.{reserve_room, stem_by_reserve}
use Rattle.conforming_trees.proofs.Wholes.{empty_first}
use Rattle.tree_budgets.specs.declared.plan.PlanNode.{PlanNode}
use Rattle.tree_budgets.specs.declared.plan.RowPlan.{RowPlan}
use Rattle.tree_budgets.specs.declared.plan.RulePlan.{RulePlan}
use Rattle.tree_budgets.specs.Plan.{IsNodePlan, IsRowPlan}
use Rattle.tree_budgets.proofs.Plans.{node_plan_at}
use Rattle.tree_pool.specs.Content.{Content, tree_at}
use Rattle.tree_pool.specs.declared.node.TreeId.{TreeId}
use Rattle.tree_pool.proofs.Walks.{get_or-slice_get, at_holds}
use Rattle.tree_listing.specs.declared.level.Stem.{Stem}
use Rattle.tree_listing.specs.Levels.{sprout_of, sprouts, IsSprout, AreSprouts, IsSetting}
use Rattle.tree_listing.specs.Made.{one_if, is_not_above, node_at, no_node}
use Rattle.tree_listing.proofs.Growing.{holds_below}
use Rattle.tree_listing.proofs.Members.{member_of, below_of}
use Rattle.tree_listing.proofs.RootLaws.{from_one_if, in_one_if, from_not_above, not_above_test, all_of_members}
use Rattle.tree_listing.proofs.Settings.{row_planned}

abbrev base_stem : TreeId → Stem
base_stem i = record { id = i; node = 0 }

abbrev base_of : RowPlan → TreeId → List Stem
base_of p empty = one_if (is_not_above (node_at p 0).reserve p.most) (base_stem empty)

module _ (eq : Equation) (rule : Rule) (plan : RulePlan) (c : Content) (empty : TreeId) where
  -- what the plan says of the empty node type
  first_node : (p : RowPlan) (row : RuleRow) → IsSetting eq rule plan c empty → IsIn row rule.rows →
      IsRowPlan eq plan.lows plan.mosts row p →
      (q : PlanNode) × (slice_get p.nodes 0 ≡ Some q) × IsNodePlan eq plan.lows row empty_node q
  first_node p row set m planned = node_plan_at eq plan.lows row row.nodes p.nodes 0 empty_node planned.nodes (empty_first eq rule row set.normal m)

  pub base_some : (p : RowPlan) (r : ℕ) → IsSetting eq rule plan c empty → r < length plan.rows → p ≡ get_or plan.rows r p → 0 < length p.nodes
  base_some p r set h at =
      let row = row_planned eq rule plan c empty p r set h at in
      let q = first_node p row.0 set (member_of rule.rows r row.0 row.1) row.2 in
      below_of p.nodes 0 q.0 q.1

  pub base_known : (p : RowPlan) (stems : List Stem) → IsSetting eq rule plan c empty → stems ≡ base_of p empty → All (λ s. s.id.0 < length c.trees) stems
  base_known p stems set is =
      rw is (all_of_members (λ (s : Stem). s.id.0 < length c.trees) (base_of p empty) (λ s m.
      let one = from_one_if (is_not_above (node_at p 0).reserve p.most) (base_stem empty) s m in subst (λ (z : Stem). z.id.0 < length c.trees) one.1 (holds_below c empty.0 empty_tree set.empty_tree)))

  empty_shaped : (row : RuleRow) → IsSetting eq rule plan c empty → IsIn row rule.rows → IsShaped eq rule row empty_tree
  empty_shaped row set m = record {
    canonical = tt;
    types = zeros_multi eq.types.dims;
    root = (empty_node, member_of row.nodes 0 empty_node (empty_first eq rule row set.normal m), refl);
    above = tt;
    edges = omega arith;
    decorations = omega arith;
  }

  empty_usable : IsUsable []
  empty_usable = record { edges = omega arith; derivatives = omega arith }

  empty_degree : (r : Degree) → degree_plus (degree_of eq.types empty_tree) r ≡ r
  empty_degree r = ap (λ (d : Degree). degree_plus d r) (zeros_degree eq.types) ∙ zero_plus r

  pub base_are : (p : RowPlan) (r : ℕ) (row : RuleRow) (stems : List Stem) →
      IsSetting eq rule plan c empty → r < length plan.rows → p ≡ get_or plan.rows r p →
      slice_get rule.rows r ≡ Some row → stems ≡ base_of p empty →
      AreSprouts eq rule plan row 0 (sprouts c stems)
  base_are p r row stems set h at is made =
      let given = row_planned eq rule plan c empty p r set h at in
      let same : given.0 ≡ row = some_same given.0 row (sym given.1 ∙ is) in
      let planned = subst (λ (z : RuleRow). IsRowPlan eq plan.lows plan.mosts z p) same given.2 in
      let m = member_of rule.rows r row is in
      let q = first_node p row set m planned in
      let here : node_at p 0 ≡ q.0 = get_or-slice_get p.nodes 0 no_node q.0 q.1 in
      let reserve : IsReserve eq plan.lows row [] (node_at p 0).reserve = subst (λ (z : PlanNode). IsReserve eq plan.lows row [] z.reserve) (sym here) (q.2.reserve empty_usable) in
      let tree : tree_at c empty.0 ≡ empty_tree = at_holds c empty.0 empty_tree set.empty_tree in
      rw made record {
        each = λ s k.
            let z = from_map (sprout_of c) s (base_of p empty) k in
            let one = from_one_if (is_not_above (node_at p 0).reserve p.most) (base_stem empty) z.0 z.1 in
            let s_is : (empty_tree, 0) ≡ s = sym (ap (λ (t : Plain). (t, 0)) tree) ∙ ap (sprout_of c) one.1 ∙ z.2 in
            let room = subst (IsNotAbove (node_at p 0).reserve) planned.most (from_not_above (node_at p 0).reserve p.most one.0) in
            let room2 = subst (λ (d : Degree). IsNotAbove d (most_at plan.mosts row.kernel.0)) (sym (empty_degree (node_at p 0).reserve)) room in
            subst (IsSprout eq rule plan row 0) s_is record {
              stem = stem_by_reserve eq rule plan.lows plan.mosts row empty_tree (node_at p 0).reserve (empty_shaped row set m) refl reserve room2;
              edges = refl;
              node = empty_node;
              place = empty_first eq rule row set.normal m;
              type = refl;
            };
        whole = λ t stem count.
            let is_empty : t ≡ empty_tree = no_edges t count stem.undecorated in
            let stem2 = subst (IsStem eq rule plan.lows plan.mosts row) is_empty stem in
            let room = reserve_room eq rule plan.lows plan.mosts row empty_tree (node_at p 0).reserve reserve stem2 in
            let room2 = subst (λ (d : Degree). IsNotAbove d (most_at plan.mosts row.kernel.0)) (empty_degree (node_at p 0).reserve) room in
            let test = not_above_test (node_at p 0).reserve p.most (subst (IsNotAbove (node_at p 0).reserve) (sym planned.most) room2) in
            let there = in_map (sprout_of c) (base_stem empty) (base_of p empty) (in_one_if (is_not_above (node_at p 0).reserve p.most) (base_stem empty) test) in
            (0, subst (λ (u : Plain). IsIn (u, 0) (sprouts c (base_of p empty))) (tree ∙ sym is_empty) there);
      }
    where
      some_same : (x y : RuleRow) → Some x ≡ Some y → x ≡ y
      some_same x y h = cc

      no_edges : (t : Plain) → edge_count_of t ≡ 0 → root_of t ≡ zeros → t ≡ empty_tree
      no_edges (bare n) h z = ap bare z
      no_edges (graft k p u t) h z = absurd (omega (arith, h))
