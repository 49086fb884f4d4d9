-- Each stem is among those that are to be made.
use Rattle.std.proofs.Common.{◌≡◌, ℕ, zero, suc, ◌-◌, ◌<◌, ◌==◌, ◌⊎◌, ◌&&◌, true, false, nat_le, if◌then◌else◌, List, [], ◌∷◌, map, length, Some, refl, sym, ap, ◌∙◌, subst, arith, inl, inr, Option, None}
use Rattle.std.specs.Prelude.{slice_get}
use Rattle.degree_numbers.specs.declared.degree.Degree.{Degree}
use Rattle.degree_numbers.specs.declared.types.Types.{Types}
use Rattle.degree_numbers.specs.declared.types.Kind.{Kind}
use Rattle.degree_numbers.specs.declared.types.Kind.TheVariants.{Noise, Kernel}
use Rattle.degree_numbers.specs.declared.TypeId.{TypeId}
use Rattle.degree_numbers.specs.Degree.{degree_plus}
use Rattle.degree_numbers.specs.Types.{kind_of}
use Rattle.equations.specs.declared.equation.Equation.{Equation}
use Rattle.ordered_lists.specs.Members.{IsIn}
use Rattle.ordered_lists.proofs.Members.{in_map, from_map, in_append_left, in_append_right, in_flat_map}
use Rattle.plain_trees.specs.Plain.{Plain, bare, graft, edge_count_of, decoration_sum_of}
use Rattle.plain_trees.specs.Degree.{degree_of, is_kernel, is_kernel_kind, empty_tree}
use Rattle.normal_rule.specs.declared.rule.EdgeType.{EdgeType}
use Rattle.normal_rule.specs.declared.rule.RuleRow.{RuleRow}
use Rattle.normal_rule.specs.declared.rule.Rule.{Rule}
use Rattle.conforming_trees.specs.Conforming.{EdgeLabel, label, labels, node_type_of}
use Rattle.conforming_trees.specs.Budgets.{IsStem, IsReserve, most_at}
use Rattle.conforming_trees.proofs.Canonical.{node_type-first}
use Rattle.conforming_trees.proofs.Stems.{rest_is_stem, child_is_whole, extension_is_allowed, reserve_room}
use Rattle.tree_budgets.specs.declared.plan.Extension.{Extension}
use Rattle.tree_budgets.specs.declared.plan.PlanNode.{PlanNode}
use Rattle.tree_budgets.specs.declared.plan.RowPlan.{RowPlan}
use Rattle.tree_budgets.specs.declared.plan.RulePlan.{RulePlan}
use Rattle.tree_budgets.specs.Plan.{IsRowPlan}
use Rattle.tree_budgets.proofs.Plans.{node_plan_at}
use Rattle.tree_pool.specs.Content.{Content, tree_at}
use Rattle.tree_pool.specs.declared.node.TreeId.{TreeId}
use Rattle.tree_pool.proofs.Walks.{get_or-slice_get, at_holds}
use Rattle.tree_listing.specs.declared.level.Stem.{Stem}
use Rattle.tree_listing.specs.declared.level.RowLevel.{RowLevel}
use Rattle.tree_listing.specs.declared.level.Level.{Level}
use Rattle.tree_listing.specs.declared.level.Site.{Site}
use Rattle.tree_listing.specs.declared.level.Growth.{Growth}
use Rattle.tree_listing.specs.Levels.{Sprout, sprout_of, sprout_of_growth, AreLevels, IsSetting}
use Rattle.tree_listing.specs.Made.{is_not_above, is_at_most_first, passes, growth_of, by_child, by_children, by_row, by_rows, by_edge, no_node, node_at, level_at, row_at, site_of, by_extension, by_stem, by_level, growths_below, growths}
use Rattle.tree_listing.proofs.Members.{kernel_or_noise, place_of, member_of, some_of, below_of, in_then, in_else, number_same, test_at_most, first_test, labels-injective}
use Rattle.tree_listing.proofs.RootLaws.{in_one_if, both, not_above_test}
use Rattle.tree_listing.proofs.Takes.{level_is, row_is}

kernel_of : (o : Option Kind) → is_kernel_kind o ≡ true → o ≡ Some Kernel
kernel_of None h = absurd cc
kernel_of (Some Noise) h = absurd cc
kernel_of (Some Kernel) h = refl

-- an edge type whose label and rest are given
split_labels : (es : List EdgeType) (l : EdgeLabel) (ns : List EdgeType) → map label es ≡ l ∷ map label ns → (e : EdgeType) × (es ≡ e ∷ ns) × (label e ≡ l)
split_labels [] l ns h = absurd cc
split_labels (e ∷ es) l ns h =
    let first : label e ≡ l = cc in
    let rest : map label es ≡ map label ns = cc in
    (e, ap (λ (xs : List EdgeType). e ∷ xs) (labels-injective es ns rest), first)

module _ (eq : Equation) (rule : Rule) (plan : RulePlan) (c : Content) (empty : TreeId) where
  -- the number of what stands above the new edge
  pub record IsAbove (level : Level) (above : ℕ) (k : ℕ) (u : Plain) (i : TreeId) : Type 0 where
    pub tree : tree_at c i.0 ≡ u
    pub place : ((is_kernel c.types k ≡ true) × (y : RowLevel) × IsIn y level.rows × (y.kernel.0 ≡ k) × IsIn i y.wholes) ⊎ ((is_kernel c.types k ≡ false) × (above ≡ 0) × (i ≡ empty))

  given_edge : (level : Level) (above : ℕ) (s : Site) (u : Plain) (i : TreeId) →
      IsAbove level above s.edge.kind.0 u i → passes c s i ≡ true →
      IsIn (growth_of s i) (by_edge c empty above level.rows s)
  given_edge level above s u i h p =
      let g = growth_of s i in
      let one = in_one_if (passes c s i) g p in
      elim h.place [
        | inl kernel ↦
            let y = kernel.1 in
            in_then (is_kernel c.types s.edge.kind.0) g (by_rows c s level.rows) (if above == 0 then by_children c s (empty ∷ []) else []) kernel.0
            (in_flat_map (by_row c s) g y level.rows kernel.2
            (in_then (y.kernel.0 == s.edge.kind.0) g (by_children c s y.wholes) [] (number_same y.kernel.0 s.edge.kind.0 kernel.3)
            (in_flat_map (by_child c s) g i y.wholes kernel.4 one)))
        | inr noise ↦
            in_else (is_kernel c.types s.edge.kind.0) g (by_rows c s level.rows) (if above == 0 then by_children c s (empty ∷ []) else []) noise.0
            (in_then (above == 0) g (by_children c s (empty ∷ [])) [] (number_same above 0 noise.1)
            (in_flat_map (by_child c s) g i (empty ∷ []) (inl (sym noise.2)) one))
      ]

  above_kernel : (row : RuleRow) (k : ℕ) (d : List ℕ) (u t : Plain) (levels : List Level) →
      IsSetting eq rule plan c empty → AreLevels eq rule plan c levels → IsIn row rule.rows →
      IsStem eq rule plan.lows plan.mosts row (graft k d u t) →
      edge_count_of u < length levels → is_kernel c.types k ≡ true → (i : TreeId) × IsAbove (level_at levels (edge_count_of u)) (edge_count_of u) k u i
  above_kernel row k d u t levels set all m stem lt is =
      let kernel : kind_of eq.types k ≡ Some Kernel = subst (λ (ty : Types). kind_of ty k ≡ Some Kernel) set.types (kernel_of (kind_of c.types k) is) in
      let whole = child_is_whole eq rule plan.lows plan.mosts row k d u t set.planned.lows set.planned.budgets m stem kernel in
      let place = place_of whole.0 rule.rows whole.1 in
      let level = level_is eq rule plan c empty levels (edge_count_of u) all lt in
      let count = level.count in
      let y = some_of (level_at levels (edge_count_of u)).rows place.0 (omega (arith, count, below_of rule.rows place.0 whole.0 place.1)) in
      let known = level.rows place.0 whole.0 y.0 place.1 y.1 in
      let found = from_map (λ (j : TreeId). tree_at c j.0) u y.0.wholes (known.wholes.whole u whole.3 refl) in
      let same : y.0.kernel.0 ≡ k = ap (λ (x : TypeId). x.0) known.kernel ∙ whole.2 in
      (found.0, record { tree = found.2; place = inl (is, y.0, member_of (level_at levels (edge_count_of u)).rows place.0 y.0 y.1, same, found.1) })

  above_noise : (row : RuleRow) (k : ℕ) (d : List ℕ) (u t : Plain) (levels : List Level) →
      IsSetting eq rule plan c empty → IsStem eq rule plan.lows plan.mosts row (graft k d u t) →
      is_kernel c.types k ≡ false →
      (i : TreeId) × IsAbove (level_at levels (edge_count_of u)) (edge_count_of u) k u i
  above_noise row k d u t levels set stem is =
      let edge = stem.shaped.types.0 in
      let noise : kind_of eq.types k ≡ Some Noise = kernel_or_noise eq.types k edge.known (subst (λ (ty : Types). is_kernel ty k ≡ false) set.types is) in
      let none : u ≡ empty_tree = edge.noise noise in
      (empty, record { tree = at_holds c empty.0 empty_tree set.empty_tree ∙ sym none; place = inr (is, ap edge_count_of none, refl) })

  given_above : (row : RuleRow) (k : ℕ) (d : List ℕ) (u t : Plain) (levels : List Level) →
      IsSetting eq rule plan c empty → AreLevels eq rule plan c levels → IsIn row rule.rows →
      IsStem eq rule plan.lows plan.mosts row (graft k d u t) →
      edge_count_of u < length levels → (i : TreeId) × IsAbove (level_at levels (edge_count_of u)) (edge_count_of u) k u i
  given_above row k d u t levels set all m stem lt =
      (elim (is_kernel c.types k) as (λ b. is_kernel c.types k ≡ b → (i : TreeId) × IsAbove (level_at levels (edge_count_of u)) (edge_count_of u) k u i) [
        | true ↦ λ e. above_kernel row k d u t levels set all m stem lt e
        | false ↦ λ e. above_noise row k d u t levels set stem e
      ]) refl

  -- the tests hold of a stem
  abbrev Tests : Types → ℕ → List ℕ → Plain → Plain → Degree → Degree → Type 0
  Tests ty k d u t r m = ((is_at_most_first k d u t && nat_le (decoration_sum_of (graft k d u t)) 64) && is_not_above (degree_plus (degree_of ty (graft k d u t)) r) m) ≡ true

  given_passes : (p : RowPlan) (row : RuleRow) (s : Stem) (x : Extension) (i : TreeId) (u t : Plain) (q : PlanNode) →
      IsSetting eq rule plan c empty → tree_at c i.0 ≡ u → tree_at c s.id.0 ≡ t →
      IsStem eq rule plan.lows plan.mosts row (graft x.edge.kind.0 x.edge.p.entries u t) →
      node_at p x.node ≡ q → p.most ≡ most_at plan.mosts row.kernel.0 → IsReserve eq plan.lows row (node_type_of (graft x.edge.kind.0 x.edge.p.entries u t)) q.reserve → passes c (site_of p s x) i ≡ true
  given_passes p row s x i u t q set eu et stem there most reserve =
      let k = x.edge.kind.0 in
      let d = x.edge.p.entries in
      let h = stem.shaped in
      let room = reserve_room eq rule plan.lows plan.mosts row (graft k d u t) q.reserve reserve stem in
      let test = not_above_test (degree_plus (degree_of eq.types (graft k d u t)) q.reserve) (most_at plan.mosts row.kernel.0) room in
      let base =
      both (is_at_most_first k d u t && nat_le (decoration_sum_of (graft k d u t)) 64) (is_not_above (degree_plus (degree_of eq.types (graft k d u t)) q.reserve) (most_at plan.mosts row.kernel.0))
      (both (is_at_most_first k d u t) (nat_le (decoration_sum_of (graft k d u t)) 64) (first_test k d u t h.canonical.2) (test_at_most (decoration_sum_of (graft k d u t)) 64 h.decorations)) test in
      let s1 = subst (λ (m : Degree). Tests eq.types k d u t q.reserve m) (sym most) base in
      let s2 = subst (λ (z : PlanNode). Tests eq.types k d u t z.reserve p.most) (sym there) s1 in
      let s3 = subst (λ (ty : Types). Tests ty k d u t (node_at p x.node).reserve p.most) (sym set.types) s2 in
      let s4 = subst (λ (z : Plain). Tests c.types k d z t (node_at p x.node).reserve p.most) (sym eu) s3 in
      subst (λ (z : Plain). Tests c.types k d (tree_at c i.0) z (node_at p x.node).reserve p.most) (sym et) s4

  below_later : (p : RowPlan) (levels : List Level) (r n e k : ℕ) (g : Growth) → e < k →
      IsIn g (by_level c empty p levels n r e) → IsIn g (growths_below c empty p levels n r k)
  below_later p levels r n e zero g lt m = absurd (omega (arith, lt))
  below_later p levels r n e (suc k) g lt m =
      elim (last e k lt) [
        | inl less ↦ in_append_left g (growths_below c empty p levels n r k) (by_level c empty p levels n r k) (below_later p levels r n e k g less m)
        | inr same ↦ in_append_right g (growths_below c empty p levels n r k) (by_level c empty p levels n r k) (subst (λ (j : ℕ). IsIn g (by_level c empty p levels n r j)) same m)
      ]
    where
      last : (a b : ℕ) → a < suc b → (a < b) ⊎ (a ≡ b)
      last zero zero h = inr refl
      last zero (suc b) h = inl (omega arith)
      last (suc a) zero h = absurd (omega (arith, h))
      last (suc a) (suc b) h = elim (last a b (omega (arith, h))) [ inl l ↦ inl (omega (arith, l)) | inr e ↦ inr (ap suc e) ]

  pub stem_given : (p : RowPlan) (levels : List Level) (r : ℕ) (row : RuleRow) (t : Plain) →
      IsSetting eq rule plan c empty → AreLevels eq rule plan c levels →
      slice_get rule.rows r ≡ Some row → IsRowPlan eq plan.lows plan.mosts row p →
      0 < length levels → IsStem eq rule plan.lows plan.mosts row t → edge_count_of t ≡ length levels → (j : ℕ) × IsIn (t, j) (map (sprout_of_growth c) (growths c empty p levels r))
  stem_given p levels r row (bare n) set all at planned some stem count = absurd (omega (arith, some, count))
  stem_given p levels r row (graft k d u t) set all at planned some stem count =
      let m = member_of rule.rows r row at in
      let n = length levels in
      let e = edge_count_of t in
      let lt : e < n = omega (arith, count) in
      let above : n - 1 - e ≡ edge_count_of u = omega (arith, count) in
      let rest = rest_is_stem eq rule plan.lows plan.mosts row k d u t set.normal set.planned.lows m stem in
      let lower = row_is eq rule plan c empty levels e r row all lt at in
      let sprout = lower.stems.whole t rest refl in
      let found = from_map (sprout_of c) (t, sprout.0) (row_at levels e r).stems sprout.1 in
      let s = found.0 in
      let tree : tree_at c s.id.0 ≡ t = ap (λ (z : Sprout). z.0) found.2 in
      let shape = lower.stems.each (t, sprout.0) sprout.1 in
      let place : slice_get row.nodes s.node ≡ Some shape.node = ap (λ (z : Sprout). slice_get row.nodes z.1) found.2 ∙ shape.place in
      let allowed = extension_is_allowed eq rule plan.lows plan.mosts row k d u t stem in
      let split = split_labels allowed.0.edges (k, d) shape.node.edges (allowed.2 ∙ ap (λ (es : List EdgeLabel). (k, d) ∷ es) (sym shape.type)) in
      let i2 = place_of allowed.0 row.nodes allowed.1 in
      let q = node_plan_at eq plan.lows row row.nodes p.nodes s.node shape.node planned.nodes place in
      let here : node_at p s.node ≡ q.0 = get_or-slice_get p.nodes s.node no_node q.0 q.1 in
      let w = node_plan_at eq plan.lows row row.nodes p.nodes i2.0 allowed.0 planned.nodes i2.1 in
      let there : node_at p i2.0 ≡ w.0 = get_or-slice_get p.nodes i2.0 no_node w.0 w.1 in
      let x = extension_made split.0 i2.0 in
      let kind : split.0.kind.0 ≡ k = ap (λ (l : EdgeLabel). l.0) split.2 in
      let deco : split.0.p.entries ≡ d = ap (λ (l : EdgeLabel). l.1) split.2 in
      let member : IsIn x (node_at p s.node).extensions = subst (λ (z : PlanNode). IsIn x z.extensions) (sym here) (q.2.whole i2.0 allowed.0 split.0 i2.1 split.1 allowed.3) in
      let child = given_above row k d u t levels set all m stem (omega (arith, count)) in
      let i = child.0 in
      let tree2 : graft split.0.kind.0 split.0.p.entries u t ≡ graft k d u t = rw (kind, deco) refl in
      let type : labels allowed.0 ≡ node_type_of (graft k d u t) = allowed.2 ∙ sym (node_type-first k d u t stem.shaped.canonical) in
      let reserve : IsReserve eq plan.lows row (node_type_of (graft k d u t)) w.0.reserve = subst (λ (es : List EdgeLabel). IsReserve eq plan.lows row es w.0.reserve) type (w.2.reserve allowed.3) in
      let passed = given_passes p row s x i u t w.0 set child.1.tree tree (subst (IsStem eq rule plan.lows plan.mosts row) (sym tree2) stem) there planned.most (subst (λ (z : Plain). IsReserve eq plan.lows row (node_type_of z) w.0.reserve) (sym tree2) reserve) in
      let edge = given_edge (level_at levels (edge_count_of u)) (edge_count_of u) (site_of p s x) u i (subst (λ (z : ℕ). IsAbove (level_at levels (edge_count_of u)) (edge_count_of u) z u i) (sym kind) child.1) passed in
      let g = growth_of (site_of p s x) i in
      let edge2 : IsIn g (by_edge c empty (n - 1 - e) (level_at levels (n - 1 - e)).rows (site_of p s x)) = subst (λ (a : ℕ). IsIn g (by_edge c empty a (level_at levels a).rows (site_of p s x))) (sym above) edge in
      let stem2 : IsIn g (by_stem c empty (n - 1 - e) (level_at levels (n - 1 - e)).rows p s) = in_flat_map (by_extension c empty (n - 1 - e) (level_at levels (n - 1 - e)).rows p s) g x (node_at p s.node).extensions member edge2 in
      let level2 : IsIn g (by_level c empty p levels n r e) = in_flat_map (by_stem c empty (n - 1 - e) (level_at levels (n - 1 - e)).rows p) g s (row_at levels e r).stems found.1 stem2 in
      let same : sprout_of_growth c g ≡ (graft k d u t, i2.0) = rw (kind, deco, child.1.tree, tree) refl in
      (i2.0, subst (λ (z : Sprout). IsIn z (map (sprout_of_growth c) (growths c empty p levels r))) same (in_map (sprout_of_growth c) g (growths c empty p levels r) (below_later p levels r n e n g lt level2)))
    where
      extension_made : EdgeType → ℕ → Extension
      extension_made e j = record { edge = e; node = j }
