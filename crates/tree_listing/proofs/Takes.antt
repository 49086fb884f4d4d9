-- The stems that are to be made are stems.
use Rattle.std.proofs.Common.{◌≡◌, ℕ, zero, suc, ◌+◌, ◌-◌, ◌<◌, ◌≤◌, ◌==◌, ◌&&◌, true, false, nat_le, if◌then◌else◌, List, [], ◌∷◌, map, length, Some, sym, ap, ◌∙◌, subst, arith, inl, inr}
use Rattle.std.specs.Prelude.{slice_get}
use Rattle.std.proofs.lemmas.Option.{slice_get-get_or}
use Rattle.degree_numbers.specs.declared.degree.Degree.{Degree}
use Rattle.degree_numbers.specs.declared.types.Types.{Types}
use Rattle.degree_numbers.specs.declared.types.Kind.TheVariants.{Noise}
use Rattle.degree_numbers.specs.Degree.{degree_plus}
use Rattle.degree_numbers.specs.Types.{kind_of}
use Rattle.equations.specs.declared.equation.Equation.{Equation}
use Rattle.ordered_lists.specs.Members.{IsIn}
use Rattle.ordered_lists.proofs.Members.{in_map, from_append, from_flat_map}
use Rattle.plain_trees.specs.Plain.{graft, edge_count_of, decoration_sum_of}
use Rattle.plain_trees.specs.Degree.{degree_of, is_kernel, empty_tree, HasTypes}
use Rattle.normal_rule.specs.declared.rule.NodeType.{NodeType}
use Rattle.normal_rule.specs.declared.rule.RuleRow.{RuleRow}
use Rattle.normal_rule.specs.declared.rule.Rule.{Rule}
use Rattle.conforming_trees.specs.Conforming.{EdgeLabel, label, labels, node_type_of}
use Rattle.conforming_trees.specs.Budgets.{IsNotAbove}
use Rattle.conforming_trees.proofs.Canonical.{node_type-first}
use Rattle.conforming_trees.proofs.Stems.{IsChild, stem_grown}
use Rattle.conforming_trees.proofs.Kernels.{edge_known}
use Rattle.tree_budgets.specs.declared.plan.Extension.{Extension}
use Rattle.tree_budgets.specs.declared.plan.PlanNode.{PlanNode}
use Rattle.tree_budgets.specs.declared.plan.RowPlan.{RowPlan}
use Rattle.tree_budgets.specs.declared.plan.RulePlan.{RulePlan}
use Rattle.tree_budgets.specs.Plan.{IsRowPlan}
use Rattle.tree_budgets.proofs.Plans.{node_plan_at}
use Rattle.tree_pool.specs.Content.{Content, tree_at}
use Rattle.tree_pool.specs.declared.node.TreeId.{TreeId}
use Rattle.tree_pool.proofs.Walks.{get_or-slice_get, at_holds}
use Rattle.tree_listing.specs.declared.level.Stem.{Stem}
use Rattle.tree_listing.specs.declared.level.RowLevel.{RowLevel}
use Rattle.tree_listing.specs.declared.level.Level.{Level}
use Rattle.tree_listing.specs.declared.level.Site.{Site}
use Rattle.tree_listing.specs.declared.level.Growth.{Growth}
use Rattle.tree_listing.specs.Levels.{sprout_of, tree_of_growth, sprout_of_growth, IsGrowthIn, IsSprout, IsRowLevel, IsLevel, AreLevels, IsSetting}
use Rattle.tree_listing.specs.Made.{is_not_above, is_at_most_first, passes, growth_of, by_child, by_children, by_row, by_rows, by_edge, no_node, no_row, no_level, node_at, level_at, row_at, site_of, by_extension, by_stem, by_level, growths_below}
use Rattle.ordered_lists.proofs.Members.{all_at}
use Rattle.degree_numbers.specs.declared.TypeId.{TypeId}
use Rattle.tree_listing.proofs.Members.{kernel_or_noise, place_of, member_of, some_of, below_of, from_if, same_number, at_most_test, first_from_test}
use Rattle.tree_listing.proofs.RootLaws.{from_one_if, from_both, from_not_above}

-- what a new edge carries, where it comes from
pub record IsTaken (eq : Equation) (rule : Rule) (plan : RulePlan) (c : Content) (above : ℕ) (s : Site) (i : TreeId) : Type 0 where
  pub child : IsChild eq rule plan.mosts s.edge.kind.0 (tree_at c i.0)
  pub edges : edge_count_of (tree_at c i.0) ≡ above
  pub known : i.0 < length c.trees
  pub passed : passes c s i ≡ true

module _ (eq : Equation) (rule : Rule) (plan : RulePlan) (c : Content) (empty : TreeId) where
  pub level_is : (levels : List Level) (e : ℕ) → AreLevels eq rule plan c levels → e < length levels → IsLevel eq rule plan c e (level_at levels e)
  level_is levels e all h = all e (level_at levels e) (slice_get-get_or levels e no_level h)

  pub row_is : (levels : List Level) (e r : ℕ) (row : RuleRow) → AreLevels eq rule plan c levels →
      e < length levels → slice_get rule.rows r ≡ Some row →
      IsRowLevel eq rule plan c row e (row_at levels e r)
  row_is levels e r row all h at =
      let level = level_is levels e all h in
      let count = level.count in
      level.rows r row (row_at levels e r) at (slice_get-get_or (level_at levels e).rows r no_row (omega (arith, count, below_of rule.rows r row at)))

  -- a child from the wholes of a row
  taken_whole : (above : ℕ) (level : Level) (s : Site) (y : RowLevel) (i : TreeId) →
      IsLevel eq rule plan c above level → IsIn y level.rows → y.kernel.0 ≡ s.edge.kind.0 →
      IsIn i y.wholes → passes c s i ≡ true → IsTaken eq rule plan c above s i
  taken_whole above level s y i h m k w p =
      let place = place_of y level.rows m in
      let count = h.count in
      let row = some_of rule.rows place.0 (omega (arith, count, below_of level.rows place.0 y place.1)) in
      let known = h.rows place.0 row.0 y row.1 place.1 in
      let whole = known.wholes.each (tree_at c i.0) (in_map (λ (j : TreeId). tree_at c j.0) i y.wholes w) in
      let kernel : row.0.kernel.0 ≡ s.edge.kind.0 = sym (ap (λ (x : TypeId). x.0) known.kernel) ∙ k in record {
        child = inr (row.0, member_of rule.rows place.0 row.0 row.1, kernel, whole.0);
        edges = whole.1;
        known = all_at (λ (j : TreeId). j.0 < length c.trees) y.wholes i known.known.wholes w;
        passed = p;
      }

  taken_rows : (above : ℕ) (level : Level) (s : Site) (g : Growth) →
      IsLevel eq rule plan c above level → IsIn g (by_rows c s level.rows) →
      (i : TreeId) × IsTaken eq rule plan c above s i × (growth_of s i ≡ g)
  taken_rows above level s g h m =
      let y = from_flat_map (by_row c s) g level.rows m in
      elim (from_if (y.0.kernel.0 == s.edge.kind.0) g (by_children c s y.0.wholes) [] y.2) [
        | inl t ↦
            let i = from_flat_map (by_child c s) g y.0.wholes t.1 in
            let one = from_one_if (passes c s i.0) (growth_of s i.0) g i.2 in
            (i.0, taken_whole above level s y.0 i.0 h y.1 (same_number y.0.kernel.0 s.edge.kind.0 t.0) i.1 one.0, one.1)
        | inr f ↦ absurd f.1
      ]

  taken_edge : (above : ℕ) (level : Level) (s : Site) (g : Growth) →
      IsSetting eq rule plan c empty → s.edge.kind.0 < length c.types.list →
      IsLevel eq rule plan c above level → IsIn g (by_edge c empty above level.rows s) →
      (i : TreeId) × IsTaken eq rule plan c above s i × (growth_of s i ≡ g)
  taken_edge above level s g set known h m =
      elim (from_if (is_kernel c.types s.edge.kind.0) g (by_rows c s level.rows) (if above == 0 then by_children c s (empty ∷ []) else []) m) [
        | inl t ↦ taken_rows above level s g h t.1
        | inr f ↦
            elim (from_if (above == 0) g (by_children c s (empty ∷ [])) [] f.1) [
              | inl z ↦
                  let i = from_flat_map (by_child c s) g (empty ∷ []) z.1 in
                  let same : empty ≡ i.0 = only empty i.0 i.1 in
                  let one = from_one_if (passes c s i.0) (growth_of s i.0) g i.2 in
                  let tree : tree_at c i.0.0 ≡ empty_tree = ap (λ (j : TreeId). tree_at c j.0) (sym same) ∙ at_holds c empty.0 empty_tree set.empty_tree in (
                    i.0,
                    record {
                      child = inl (noise_of c.types s.edge.kind.0 set.types known f.0, tree);
                      edges = ap edge_count_of tree ∙ sym (same_number above 0 z.0);
                      known = subst (λ (j : TreeId). j.0 < length c.trees) same (below_of c.trees empty.0 empty_tree set.empty_tree);
                      passed = one.0;
                    },
                    one.1,
                  )
              | inr n ↦ absurd n.1
            ]
      ]
    where
      only : (x y : TreeId) → IsIn y (x ∷ []) → x ≡ y
      only x y (inl e) = e
      only x y (inr none) = absurd none

      noise_of : (ty : Types) (k : ℕ) → ty ≡ eq.types → k < length ty.list → is_kernel ty k ≡ false → kind_of eq.types k ≡ Some Noise
      noise_of ty k e l f = rw (sym e) (kernel_or_noise ty k l f)

  -- what arises at a stem is a stem
  sprout_taken : (p : RowPlan) (row : RuleRow) (e above n : ℕ) (s : Stem) (x : Extension) (i : TreeId) →
      IsSetting eq rule plan c empty → IsIn row rule.rows →
      IsRowPlan eq plan.lows plan.mosts row p →
      IsSprout eq rule plan row e (sprout_of c s) → IsIn x (node_at p s.node).extensions → IsTaken eq rule plan c above (site_of p s x) i → 1 + above + e ≡ n → n ≤ 24 → IsSprout eq rule plan row n (sprout_of_growth c (growth_of (site_of p s x) i))
  sprout_taken p row e above n s x i set member planned sprout m taken count most =
      let k = x.edge.kind.0 in
      let d = x.edge.p.entries in
      let t = tree_at c s.id.0 in
      let u = tree_at c i.0 in
      let q = node_plan_at eq plan.lows row row.nodes p.nodes s.node sprout.node planned.nodes sprout.place in
      let here : node_at p s.node ≡ q.0 = get_or-slice_get p.nodes s.node no_node q.0 q.1 in
      let ext = q.2.extension x (subst (λ (z : PlanNode). IsIn x z.extensions) here m) in
      let r = node_plan_at eq plan.lows row row.nodes p.nodes x.node ext.0 planned.nodes ext.1 in
      let there : node_at p x.node ≡ r.0 = get_or-slice_get p.nodes x.node no_node r.0 r.1 in
      let type : labels ext.0 ≡ (k, d) ∷ node_type_of t = ap (map label) ext.2 ∙ ap (λ (es : List EdgeLabel). (k, d) ∷ es) sprout.type in
      let tests = from_both (is_at_most_first k d u t && nat_le (decoration_sum_of (graft k d u t)) 64) (is_not_above (degree_plus (degree_of c.types (graft k d u t)) (node_at p x.node).reserve) p.most) taken.passed in
      let first = from_both (is_at_most_first k d u t) (nat_le (decoration_sum_of (graft k d u t)) 64) tests.0 in
      let room1 = from_not_above (degree_plus (degree_of c.types (graft k d u t)) (node_at p x.node).reserve) p.most tests.1 in
      let room2 = subst (λ (ty : Types). IsNotAbove (degree_plus (degree_of ty (graft k d u t)) (node_at p x.node).reserve) p.most) set.types room1 in
      let room3 = subst (λ (z : PlanNode). IsNotAbove (degree_plus (degree_of eq.types (graft k d u t)) z.reserve) p.most) there room2 in
      let room4 = subst (λ (z : Degree). IsNotAbove (degree_plus (degree_of eq.types (graft k d u t)) r.0.reserve) z) planned.most room3 in
      let edges : edge_count_of (graft k d u t) ≡ n = ap (λ a. 1 + a + edge_count_of t) taken.edges ∙ ap (λ a. 1 + above + a) sprout.edges ∙ count in
      let stem = stem_grown eq rule plan.lows plan.mosts row ext.0 k d u t r.0.reserve set.equation set.normal member sprout.stem (member_of row.nodes x.node ext.0 ext.1) type taken.child
      (first_from_test k d u t first.0) (omega (arith, edges, most)) (at_most_test (decoration_sum_of (graft k d u t)) 64 first.1) (r.2.reserve ext.3) room4 in record {
        stem = stem;
        edges = edges;
        node = ext.0;
        place = ext.1;
        type = type ∙ sym (node_type-first k d u t stem.shaped.canonical);
      }

  growth_in : (row : RuleRow) (n : ℕ) (g : Growth) → IsSetting eq rule plan c empty →
      IsSprout eq rule plan row n (sprout_of_growth c g) → g.edge.child.0 < length c.trees →
      g.rest.0 < length c.trees → IsGrowthIn c g
  growth_in row n g set sprout child rest =
      let s = sprout.stem.shaped in
      let e = s.edges in
      let d = s.decorations in record {
        child = child;
        rest = rest;
        kept = record {
          canonical = s.canonical;
          small = record { edges = e; decorations = omega (arith, d) };
          known = subst (λ (ty : Types). HasTypes ty (tree_of_growth c g)) (sym set.types) s.types;
        };
      }

  pub record IsMade (row : RuleRow) (n : ℕ) (g : Growth) : Type 0 where
    pub sprout : IsSprout eq rule plan row n (sprout_of_growth c g)
    pub growth : IsGrowthIn c g

  level_taken : (p : RowPlan) (levels : List Level) (r : ℕ) (row : RuleRow) (e : ℕ) (g : Growth) →
      IsSetting eq rule plan c empty → AreLevels eq rule plan c levels →
      slice_get rule.rows r ≡ Some row → IsRowPlan eq plan.lows plan.mosts row p →
      length levels ≤ 24 → e < length levels → IsIn g (by_level c empty p levels (length levels) r e) → IsMade row (length levels) g
  level_taken p levels r row e g set all at planned most lt m =
      let n = length levels in
      let above = n - 1 - e in
      let lower = row_is levels e r row all lt at in
      let upper = level_is levels above all (omega (arith, lt)) in
      let s = from_flat_map (by_stem c empty above (level_at levels above).rows p) g (row_at levels e r).stems m in
      let sprout = lower.stems.each (sprout_of c s.0) (in_map (sprout_of c) s.0 (row_at levels e r).stems s.1) in
      let x = from_flat_map (by_extension c empty above (level_at levels above).rows p s.0) g (node_at p s.0.node).extensions s.2 in
      let known = extension_known p row s.0.node sprout.node x.0 set (member_of rule.rows r row at) planned sprout.place x.1 in
      let i = taken_edge above (level_at levels above) (site_of p s.0 x.0) g set known upper x.2 in
      let made = sprout_taken p row e above n s.0 x.0 i.0 set (member_of rule.rows r row at) planned sprout x.1 i.1 (omega (arith, lt)) most in
      let rest = all_at (λ (z : Stem). z.id.0 < length c.trees) (row_at levels e r).stems s.0 lower.known.stems s.1 in
      subst (IsMade row n) i.2 record { sprout = made; growth = growth_in row n (growth_of (site_of p s.0 x.0) i.0) set made i.1.known rest }
    where
      extension_known : (p : RowPlan) (row : RuleRow) (j : ℕ) (m : NodeType) (x : Extension) → IsSetting eq rule plan c empty → IsIn row rule.rows → IsRowPlan eq plan.lows plan.mosts row p → slice_get row.nodes j ≡ Some m → IsIn x (node_at p j).extensions → x.edge.kind.0 < length c.types.list
      extension_known p row j m x set i planned at h =
          let q = node_plan_at eq plan.lows row row.nodes p.nodes j m planned.nodes at in
          let here : node_at p j ≡ q.0 = get_or-slice_get p.nodes j no_node q.0 q.1 in
          let ext = q.2.extension x (subst (λ (z : PlanNode). IsIn x z.extensions) here h) in
          subst (λ (ty : Types). x.edge.kind.0 < length ty.list) (sym set.types)
          (edge_known eq rule row ext.0 x.edge.kind.0 x.edge.p.entries (labels m) set.normal i (member_of row.nodes x.node ext.0 ext.1) (ap (map label) ext.2))

  pub growths_made : (p : RowPlan) (levels : List Level) (r : ℕ) (row : RuleRow) (k : ℕ) (g : Growth) →
      IsSetting eq rule plan c empty → AreLevels eq rule plan c levels →
      slice_get rule.rows r ≡ Some row → IsRowPlan eq plan.lows plan.mosts row p →
      length levels ≤ 24 → k ≤ length levels → IsIn g (growths_below c empty p levels (length levels) r k) → IsMade row (length levels) g
  growths_made p levels r row zero g set all at planned most le m = absurd m
  growths_made p levels r row (suc k) g set all at planned most le m =
      elim (from_append g (growths_below c empty p levels (length levels) r k) (by_level c empty p levels (length levels) r k) m) [
        | inl old ↦ growths_made p levels r row k g set all at planned most (omega (arith, le)) old
        | inr new ↦ level_taken p levels r row k g set all at planned most (omega (arith, le)) new
      ]
