-- The wholes of a row are its stems with each decoration that fits.
use Rattle.std.proofs.Common.{◌≡◌, ℕ, ◌+◌, ◌-◌, ◌<◌, ◌≤◌, true, nat_le, List, length, sym, ap, ◌∙◌, subst, arith, All, sum}
use Rattle.std.proofs.lemmas.Bool.Decides.{nat_tests}
use Rattle.degree_numbers.specs.declared.degree.Degree.{Degree}
use Rattle.degree_numbers.specs.declared.multi.Multi.{Multi}
use Rattle.degree_numbers.specs.declared.types.Types.{Types}
use Rattle.degree_numbers.specs.Degree.{degree_plus}
use Rattle.equations.specs.declared.equation.Equation.{Equation}
use Rattle.ordered_lists.specs.Members.{IsIn}
use Rattle.ordered_lists.proofs.Members.{all_at, in_map, from_map, in_flat_map, from_flat_map}
use Rattle.plain_trees.specs.Plain.{Plain, bare, graft, edge_count_of, decoration_sum_of, root_of}
use Rattle.plain_trees.specs.Building.{zeros}
use Rattle.plain_trees.specs.Degree.{HasTypes, IsMultiIndex, degree_of, node_degree_of}
use Rattle.normal_rule.specs.declared.rule.RuleRow.{RuleRow}
use Rattle.normal_rule.specs.declared.rule.Rule.{Rule}
use Rattle.conforming_trees.specs.Budgets.{IsNotAbove, with_root, IsStem, IsWhole, most_at}
use Rattle.conforming_trees.proofs.Roots.{with_own_root, with_root_twice, edge_count-with_root, degree_by_root, decoration_sum_by_root, zeros_multi}
use Rattle.conforming_trees.proofs.Stems.{whole_is_stem_with_root, stem_with_root_is_whole}
use Rattle.tree_budgets.specs.declared.plan.RulePlan.{RulePlan}
use Rattle.tree_pool.specs.Content.{Content, tree_at}
use Rattle.tree_listing.specs.declared.level.Stem.{Stem}
use Rattle.tree_listing.specs.Levels.{Sprout, stem_tree, stem_trees, sprout_of, sprouts, AreSprouts, AreWholes}
use Rattle.tree_listing.specs.Made.{is_not_above}
use Rattle.tree_listing.specs.Roots.{roots_to}
use Rattle.tree_listing.specs.Gathered.{room_of, with_root_of, decorated, decorated_all, IsDecorable}
use Rattle.tree_listing.proofs.RootLaws.{from_both, both, from_not_above, not_above_test, all_of_members}
use Rattle.tree_listing.proofs.RootMembers.{roots_fit, roots_multi, in_roots}

left_room : (a b : ℕ) → nat_le a (64 - b) ≡ true → b ≤ 64 → a + b ≤ 64
left_room a b h k = grind (arith, nat_tests)

room_left : (a b : ℕ) → a + b ≤ 64 → nat_le a (64 - b) ≡ true
room_left a b h = grind (arith, nat_tests)

root_multi : (ty : Types) (t : Plain) → HasTypes ty t → IsMultiIndex ty.dims (root_of t)
root_multi ty (bare n) h = h
root_multi ty (graft k p c t) h = root_multi ty t h.2

module _ (eq : Equation) (rule : Rule) (plan : RulePlan) where
  own : (t : Plain) → root_of t ≡ zeros → with_root zeros t ≡ t
  own t h = ap (λ (n : List ℕ). with_root n t) (sym h) ∙ with_own_root t

  root_degree : (n : List ℕ) (t : Plain) → root_of t ≡ zeros →
      degree_of eq.types (with_root n t) ≡ degree_plus (node_degree_of eq.types n) (degree_of eq.types t)
  root_degree n t h = degree_by_root eq.types n t ∙ ap (λ (s : Plain). degree_plus (node_degree_of eq.types n) (degree_of eq.types s)) (own t h)

  root_sum : (n : List ℕ) (t : Plain) → root_of t ≡ zeros → decoration_sum_of (with_root n t) ≡ sum n + decoration_sum_of t
  root_sum n t h = decoration_sum_by_root n t ∙ ap (λ (s : Plain). sum n + decoration_sum_of s) (own t h)

  pub decorated_whole : (row : RuleRow) (most : Degree) (t : Plain) (n : Multi) →
      eq.types.dims ≤ 5 → most ≡ most_at plan.mosts row.kernel.0 →
      IsStem eq rule plan.lows plan.mosts row t →
      IsIn n (roots_to eq.types (room_of eq.types most t) eq.types.dims) →
      IsWhole eq rule plan.mosts row (with_root n.entries t)
  decorated_whole row most t n five same stem m =
      let multi = roots_multi eq.types (room_of eq.types most t) eq.types.dims n five (zeros_multi 5) m in
      let parts = from_both (nat_le (sum n.entries) (64 - decoration_sum_of t)) (is_not_above (degree_plus (node_degree_of eq.types n.entries) (degree_of eq.types t)) most) (roots_fit eq.types (room_of eq.types most t) eq.types.dims n m) in
      let within = left_room (sum n.entries) (decoration_sum_of t) parts.0 stem.shaped.decorations in
      let room = from_not_above (degree_plus (node_degree_of eq.types n.entries) (degree_of eq.types t)) most parts.1 in
      let room2 = subst (λ (d : Degree). IsNotAbove d most) (sym (root_degree n.entries t stem.undecorated)) room in
      stem_with_root_is_whole eq rule plan.lows plan.mosts row n.entries t stem multi (omega (arith, root_sum n.entries t stem.undecorated, within)) (subst (IsNotAbove (degree_of eq.types (with_root n.entries t))) same room2)

  -- with the number of edges
  pub decorated_edges : (n : List ℕ) (t : Plain) (e : ℕ) → edge_count_of t ≡ e → edge_count_of (with_root n t) ≡ e
  decorated_edges n t e h = edge_count-with_root n t ∙ h

  abbrev multi_made : List ℕ → Multi
  multi_made es = record { entries = es }

  pub whole_decorated : (row : RuleRow) (most : Degree) (t : Plain) → eq.types.dims ≤ 5 →
      most ≡ most_at plan.mosts row.kernel.0 → IsWhole eq rule plan.mosts row t →
      IsIn t (decorated eq.types most (with_root zeros t))
  whole_decorated row most t five same whole =
      let s = with_root zeros t in
      let n = multi_made (root_of t) in
      let stem = whole_is_stem_with_root eq rule plan.lows plan.mosts row t whole in
      let back : with_root (root_of t) s ≡ t = with_root_twice (root_of t) zeros t ∙ with_own_root t in
      let total : decoration_sum_of t ≡ sum (root_of t) + decoration_sum_of s = sym (ap decoration_sum_of back) ∙ root_sum (root_of t) s stem.undecorated in
      let degree : degree_of eq.types t ≡ degree_plus (node_degree_of eq.types (root_of t)) (degree_of eq.types s) = sym (ap (degree_of eq.types) back) ∙ root_degree (root_of t) s stem.undecorated in
      let within = whole.shaped.decorations in
      let room = subst (λ (d : Degree). IsNotAbove d most) degree (subst (IsNotAbove (degree_of eq.types t)) (sym same) whole.room) in
      let fit = both (nat_le (sum (root_of t)) (64 - decoration_sum_of s)) (is_not_above (degree_plus (node_degree_of eq.types (root_of t)) (degree_of eq.types s)) most)
      (room_left (sum (root_of t)) (decoration_sum_of s) (omega (arith, total, within))) (not_above_test (degree_plus (node_degree_of eq.types (root_of t)) (degree_of eq.types s)) most room) in
      let member = in_roots eq.types (room_of eq.types most s) eq.types.dims n five (root_multi eq.types t whole.shaped.types) fit in
      subst (λ (u : Plain). IsIn u (decorated eq.types most s)) back (in_map (with_root_of s) n (roots_to eq.types (room_of eq.types most s) eq.types.dims) member)

  pub row_wholes_are : (c : Content) (row : RuleRow) (most : Degree) (e : ℕ) (ss : List Stem) →
      eq.types.dims ≤ 5 → most ≡ most_at plan.mosts row.kernel.0 →
      AreSprouts eq rule plan row e (sprouts c ss) →
      AreWholes eq rule plan row e (decorated_all eq.types most (stem_trees c ss))
  row_wholes_are c row most e ss five same h = record {
    each = λ t m.
        let s = from_flat_map (decorated eq.types most) t (stem_trees c ss) m in
        let z = from_map (stem_tree c) s.0 ss s.1 in
        let sprout = h.each (sprout_of c z.0) (in_map (sprout_of c) z.0 ss z.1) in
        let stem = subst (IsStem eq rule plan.lows plan.mosts row) z.2 sprout.stem in
        let edges : edge_count_of s.0 ≡ e = ap edge_count_of (sym z.2) ∙ sprout.edges in
        let n = from_map (with_root_of s.0) t (roots_to eq.types (room_of eq.types most s.0) eq.types.dims) s.2 in
        (subst (IsWhole eq rule plan.mosts row) n.2 (decorated_whole row most s.0 n.0 five same stem n.1), ap edge_count_of (sym n.2) ∙ decorated_edges n.0.entries s.0 e edges);
    whole = λ t whole count.
        let s = with_root zeros t in
        let stem = whole_is_stem_with_root eq rule plan.lows plan.mosts row t whole in
        let there = h.whole s stem (edge_count-with_root zeros t ∙ count) in
        let z = from_map (sprout_of c) (s, there.0) ss there.1 in
        let tree : stem_tree c z.0 ≡ s = ap (λ (x : Sprout). x.0) z.2 in
        in_flat_map (decorated eq.types most) t s (stem_trees c ss) (subst (λ (u : Plain). IsIn u (stem_trees c ss)) tree (in_map (stem_tree c) z.0 ss z.1)) (whole_decorated row most t five same whole);
  }

  pub row_decorable : (c : Content) (row : RuleRow) (most : Degree) (e : ℕ) (ss : List Stem) →
      c.types ≡ eq.types → eq.types.dims ≤ 5 → most ≡ most_at plan.mosts row.kernel.0 →
      AreSprouts eq rule plan row e (sprouts c ss) → All (λ s. s.id.0 < length c.trees) ss →
      All (IsDecorable c most) ss
  row_decorable c row most e ss types five same h known = all_of_members (IsDecorable c most) ss (λ s m.
      let sprout = h.each (sprout_of c s) (in_map (sprout_of c) s ss m) in record {
        id = all_at (λ (z : Stem). z.id.0 < length c.trees) ss s known m;
        kept = λ n r.
            let r2 = subst (λ (ty : Types). IsIn n (roots_to ty (room_of ty most (tree_at c s.id.0)) ty.dims)) types r in
            let shaped = (decorated_whole row most (tree_at c s.id.0) n five same sprout.stem r2).shaped in
            let e = shaped.edges in
            let d = shaped.decorations in record {
              canonical = shaped.canonical;
              small = record { edges = e; decorations = omega (arith, d) };
              known = subst (λ (ty : Types). HasTypes ty (with_root n.entries (tree_at c s.id.0))) (sym types) shaped.types;
            };
      })
