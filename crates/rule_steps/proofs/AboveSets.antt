-- Sets of additions above the root of a tree, edge by edge from the last one.
use Rattle.std.proofs.Common.{◌≡◌, ℕ, zero, suc, ◌+◌, ◌-◌, ◌≤◌, ◌<◌, List, [], ◌∷◌, drop, length, get_or, refl, sym, ap, ◌∙◌, subst, inl, inr, arith, Some}
use Rattle.degree_numbers.specs.declared.types.Types.{Types}
use Rattle.equations.specs.declared.equation.Equation.{Equation}
use Rattle.equations.specs.Accepted.{IsEquation}
use Rattle.ordered_lists.specs.Members.{IsIn}
use Rattle.ordered_lists.proofs.Members.{in_flat_map}
use Rattle.plain_trees.specs.Plain.{Plain, bare, graft, root_of}
use Rattle.tree_pool.specs.Content.{Content, tree_at, Holds, tree_over, AreBelow}
use Rattle.tree_pool.specs.declared.node.EdgeTo.{EdgeTo}
use Rattle.tree_pool.proofs.Walks.{no_edge, at_holds, none_left, below_at, tree_cut}
use Rattle.normal_rule.specs.declared.rule.NodeType.{NodeType}
use Rattle.normal_rule.specs.declared.rule.Rule.{Rule}
use Rattle.normal_rule.specs.Order.{empty_node}
use Rattle.conforming_trees.specs.Conforming.{EdgeLabel, labels, node_type_of, IsInKernelRow, IsAllowedAbove, ConformsAbove, IsRule}
use Rattle.conforming_trees.proofs.Labels.{IsInLabelOrder, node_type-sorted, same_labels}
use Rattle.rule_stages.specs.Stages.{join}
use Rattle.rule_stages.proofs.Joins.{count-join, join-sorted, join-nil-sorted}
use Rattle.rule_steps.specs.Sets.{IsSetOf, HasMany, IsSumOf, IsAdditionAt}
use Rattle.rule_steps.specs.Sums.{without, raisings, nodes_of_kernel, listed_option, options, additions_at, sums, additions_above}
use Rattle.rule_steps.proofs.Made.{same-joins, in_sums, from_sums, kernel_of_row, options-noise, options-kernel}
use Rattle.rule_steps.proofs.NodeSets.{set_by, set_one, many_more}
use Rattle.rule_steps.proofs.Options.{joins-without}
use Rattle.rule_steps.proofs.Rows.{from_kernel_row, node_labels_sorted}

abbrev pub IsAbove : Types → Rule → Plain → List EdgeLabel → Type 0
IsAbove ty rule t es = IsIn es (additions_above ty rule t)

join-none : (es : List EdgeLabel) → IsInLabelOrder es → join es [] ≡ es
join-none es h = same_labels (join es []) es (join-nil-sorted es) h (λ z. omega (arith, count-join z es []))

pub above-sorted : (ty : Types) (rule : Rule) (t : Plain) (es : List EdgeLabel) → IsAbove ty rule t es → IsInLabelOrder es
above-sorted ty rule (bare n) es h = elim h [ inl e ↦ subst IsInLabelOrder e (node_type-sorted (bare [])) | inr none ↦ absurd none ]
above-sorted ty rule (graft k p c t) es h =
    let first = from_sums (additions_at ty rule k c) (sums (additions_above ty rule c) (additions_above ty rule t)) es h in
    let second = from_sums (additions_above ty rule c) (additions_above ty rule t) first.1 first.3 in
    let rest = join-sorted second.0 second.1 (above-sorted ty rule t second.1 second.3) in
    subst IsInLabelOrder (sym first.4) (join-sorted first.0 first.1 (subst IsInLabelOrder (sym second.4) rest))

in_above : (ty : Types) (rule : Rule) (k : ℕ) (p : List ℕ) (c t : Plain) (a u v es : List EdgeLabel) →
    IsIn a (additions_at ty rule k c) → IsAbove ty rule c u → IsAbove ty rule t v →
    es ≡ join a (join u v) → IsAbove ty rule (graft k p c t) es
in_above ty rule k p c t a u v es h i j is =
    subst (IsAbove ty rule (graft k p c t)) (sym is)
    (in_sums (additions_at ty rule k c) (sums (additions_above ty rule c) (additions_above ty rule t)) a (join u v) h
    (in_sums (additions_above ty rule c) (additions_above ty rule t) u v i j))

-- edge types that are put in order before they are put to others
pub put_twice : (a b : List EdgeLabel) → IsInLabelOrder b → join (join a []) b ≡ join a b
put_twice a b sorted = same-joins (join a []) a b sorted (λ z. omega (arith, count-join z a []))

from_parts : (es a b x y : List EdgeLabel) → IsInLabelOrder b → es ≡ join x y → x ≡ join a [] → y ≡ b → es ≡ join a b
from_parts es a b x y sorted is first second = is ∙ ap (λ (l : List EdgeLabel). join l y) first ∙ ap (join (join a [])) second ∙ put_twice a b sorted

to_parts : (es a b x y : List EdgeLabel) → IsInLabelOrder b → es ≡ join a b → x ≡ join a [] → y ≡ b → es ≡ join x y
to_parts es a b x y sorted is first second = is ∙ sym (put_twice a b sorted) ∙ ap (λ (l : List EdgeLabel). join l b) (sym first) ∙ ap (join x) (sym second)

-- a sum of what is added at the first edge's node, above it and at the other edges
sum-is : (ty : Types) (rule : Rule) (k : ℕ) (p : List ℕ) (c t : Plain) (at above others inner : List NodeType) →
    IsSetOf (IsAdditionAt ty rule k c) at → IsSetOf (IsAbove ty rule c) above → IsSetOf (IsAbove ty rule t) others → IsSetOf (IsSumOf above others) inner → (es : List EdgeLabel) → IsSumOf at inner es → IsAbove ty rule (graft k p c t) es
sum-is ty rule k p c t at above others inner a u v w es s =
    let r = a.only s.0 s.2 in
    let i = w.only s.1 s.3 in
    let up = u.only i.0 i.2 in
    let other = v.only i.1 i.3 in
    let sorted = join-sorted (labels i.0) (labels i.1) (above-sorted ty rule t (labels i.1) other) in
    in_above ty rule k p c t r.0 (labels i.0) (labels i.1) es r.1 up other (from_parts es r.0 (join (labels i.0) (labels i.1)) (labels s.0) (labels s.1) sorted s.4 r.2 i.4)

is-sum : (ty : Types) (rule : Rule) (k : ℕ) (p : List ℕ) (c t : Plain) (at above others inner : List NodeType) →
    IsSetOf (IsAdditionAt ty rule k c) at → IsSetOf (IsAbove ty rule c) above → IsSetOf (IsAbove ty rule t) others → IsSetOf (IsSumOf above others) inner → (es : List EdgeLabel) → IsAbove ty rule (graft k p c t) es → IsSumOf at inner es
is-sum ty rule k p c t at above others inner a u v w es h =
    let first = from_sums (additions_at ty rule k c) (sums (additions_above ty rule c) (additions_above ty rule t)) es h in
    let second = from_sums (additions_above ty rule c) (additions_above ty rule t) first.1 first.3 in
    let x = a.all (join first.0 []) (first.0, first.2, refl) in
    let y = u.all second.0 second.2 in
    let z = v.all second.1 second.3 in
    let parts : join second.0 second.1 ≡ join (labels y.0) (labels z.0) = ap (λ (l : List EdgeLabel). join l second.1) (sym y.2) ∙ ap (join (labels y.0)) (sym z.2) in
    let i = w.all (join second.0 second.1) (y.0, z.0, y.1, z.1, parts) in
    let sorted = join-sorted second.0 second.1 (above-sorted ty rule t second.1 second.3) in
    let whole = first.4 ∙ ap (join first.0) second.4 in
    (x.0, i.0, x.1, i.1, to_parts es first.0 (join second.0 second.1) (labels x.0) (labels i.0) sorted whole x.2 i.2)

above_none : (ty : Types) (rule : Rule) (n : List ℕ) → IsSetOf (IsAbove ty rule (bare n)) (empty_node ∷ [])
above_none ty rule n = set_one (IsAbove ty rule (bare n)) empty_node (inl refl) (λ es h. elim h [ inl e ↦ e | inr none ↦ absurd none ])

above_more : (ty : Types) (rule : Rule) (k : ℕ) (p : List ℕ) (c t : Plain) (at above others inner all : List NodeType) →
    IsSetOf (IsAdditionAt ty rule k c) at → IsSetOf (IsAbove ty rule c) above →
    IsSetOf (IsAbove ty rule t) others →
    IsSetOf (IsSumOf above others) inner → IsSetOf (IsSumOf at inner) all → IsSetOf (IsAbove ty rule (graft k p c t)) all
above_more ty rule k p c t at above others inner all a u v w =
    set_by (IsSumOf at inner) (IsAbove ty rule (graft k p c t)) all (sum-is ty rule k p c t at above others inner a u v w) (is-sum ty rule k p c t at above others inner a u v w)

-- the edge before the last ones, and the trees that it ends at and that it leaves
abbrev pub edge_before : List EdgeTo → ℕ → EdgeTo
edge_before es i = get_or es (i - 1) no_edge

abbrev pub upper : Content → List EdgeTo → ℕ → Plain
upper c es i = tree_at c (edge_before es i).child.0

abbrev pub left : Content → List ℕ → List EdgeTo → ℕ → Plain
left c n es i = tree_over c.trees n (drop i es)

abbrev pub cut_before : Content → List ℕ → List EdgeTo → ℕ → Plain
cut_before c n es i = graft (edge_before es i).kind.0 (edge_before es i).p.entries (upper c es i) (left c n es i)

left_before : (c : Content) (n : List ℕ) (es : List EdgeTo) (i : ℕ) → 0 < i → i ≤ length es → left c n es (i - 1) ≡ cut_before c n es i
left_before c n es zero h le = absurd (omega (arith, h))
left_before c n es (suc i) h le =
    let here : suc i - 1 ≡ i = omega arith in
    let next : i + 1 ≡ suc i = omega arith in
    rw here (tree_cut c n es i no_edge (omega (arith, le)) ∙ ap (λ (m : ℕ). graft (get_or es i no_edge).kind.0 (get_or es i no_edge).p.entries (tree_at c (get_or es i no_edge).child.0) (left c n es m)) next)

pub below_before : (b : ℕ) (es : List EdgeTo) (i : ℕ) → AreBelow b es → 0 < i → i ≤ length es → (edge_before es i).child.0 < b
below_before b es i h some le = below_at b es (i - 1) no_edge h (omega (arith, some, le))

pub above_end : (ty : Types) (rule : Rule) (c : Content) (n : List ℕ) (es : List EdgeTo) (all : List NodeType) →
    all ≡ empty_node ∷ [] → IsSetOf (IsAbove ty rule (left c n es (length es))) all
above_end ty rule c n es all is = rw (none_left es (length es) (omega arith), is) (above_none ty rule n)

pub above_step : (ty : Types) (rule : Rule) (c : Content) (n : List ℕ) (es : List EdgeTo) (i : ℕ) (at above others inner all : List NodeType) →
    0 < i → i ≤ length es →
    IsSetOf (IsAdditionAt ty rule (edge_before es i).kind.0 (upper c es i)) at →
    IsSetOf (IsAbove ty rule (upper c es i)) above → IsSetOf (IsAbove ty rule (left c n es i)) others → IsSetOf (IsSumOf above others) inner → IsSetOf (IsSumOf at inner) all → IsSetOf (IsAbove ty rule (left c n es (i - 1))) all
above_step ty rule c n es i at above others inner all some le a u v w x =
    subst (λ (t : Plain). IsSetOf (IsAbove ty rule t) all) (sym (left_before c n es i some le))
    (above_more ty rule (edge_before es i).kind.0 (edge_before es i).p.entries (upper c es i) (left c n es i) at above others inner all a u v w x)

pub above_whole : (ty : Types) (rule : Rule) (c : Content) (id : ℕ) (n : List ℕ) (es : List EdgeTo) (i : ℕ) (all : List NodeType) →
    Holds c id (tree_over c.trees n es) → i ≤ 0 → IsSetOf (IsAbove ty rule (left c n es i)) all →
    IsSetOf (IsAbove ty rule (tree_at c id)) all
above_whole ty rule c id n es zero all h le set = subst (λ (t : Plain). IsSetOf (IsAbove ty rule t) all) (sym (at_holds c id (tree_over c.trees n es) h)) (start es set)
  where
    start : (fs : List EdgeTo) → IsSetOf (IsAbove ty rule (left c n fs 0)) all → IsSetOf (IsAbove ty rule (tree_over c.trees n fs)) all
    start [] k = k
    start (f ∷ fs) k = k
above_whole ty rule c id n es (suc i) all h le set = absurd (omega (arith, le))

module _ (eq : Equation) (rule : Rule) (equation : IsEquation eq) (is_rule : IsRule eq rule) where
  -- a node of a tree that conforms can be left as it is
  kernel-nil : (k : ℕ) (es : List EdgeLabel) → IsInLabelOrder es → IsInKernelRow rule k es → IsIn [] (options eq.types rule k es)
  kernel-nil k es sorted h =
      let n = from_kernel_row eq rule equation is_rule k es h in
      let rest : without (labels n.0) es ≡ Some [] = joins-without (labels n.0) es [] (node_labels_sorted eq rule equation is_rule k n.0 n.1) sorted (sym n.2) in
      let option = in_flat_map (λ n. listed_option (without (labels n) es)) [] n.0 (nodes_of_kernel rule.rows k) n.1 (subst (λ o. IsIn [] (listed_option o)) (sym rest) (inl refl)) in
      subst (IsIn []) (sym (options-kernel eq rule equation is_rule k es (kernel_of_row eq rule equation is_rule k es h))) option

  pub nil-at : (k : ℕ) (t : Plain) → IsAllowedAbove eq.types rule k t → IsIn [] (additions_at eq.types rule k t)
  nil-at k t h =
      in_flat_map (raisings (root_of t)) [] [] (options eq.types rule k (node_type_of t))
      (elim h [
        | inl noise ↦ subst (IsIn []) (sym (options-noise eq rule equation is_rule k (node_type_of t) noise.0)) (inl refl)
        | inr kernel ↦ kernel-nil k (node_type_of t) (node_type-sorted t) kernel
      ])
      (inl refl)

  pub nil-above : (t : Plain) → ConformsAbove eq.types rule t → IsAbove eq.types rule t []
  nil-above (bare n) h = inl refl
  nil-above (graft k p c t) h = in_above eq.types rule k p c t [] [] [] [] (nil-at k c h.0) (nil-above c h.1) (nil-above t h.2) refl

  many-others : (k : ℕ) (p : List ℕ) (c t : Plain) → ConformsAbove eq.types rule (graft k p c t) →
      HasMany (IsAbove eq.types rule t) → HasMany (IsAbove eq.types rule (graft k p c t))
  many-others k p c t h =
      many_more (IsAbove eq.types rule t) (IsAbove eq.types rule (graft k p c t))
      (λ es m. in_above eq.types rule k p c t [] [] es es (nil-at k c h.0) (nil-above c h.1) m refl)

  many-left : (c : Content) (n : List ℕ) (es : List EdgeTo) (i : ℕ) →
      ConformsAbove eq.types rule (tree_over c.trees n es) →
      HasMany (IsAbove eq.types rule (tree_over c.trees n (drop i es))) →
      HasMany (IsAbove eq.types rule (tree_over c.trees n es))
  many-left c n [] zero h m = m
  many-left c n [] (suc i) h m = m
  many-left c n (e ∷ es) zero h m = m
  many-left c n (e ∷ es) (suc i) h m = many-others e.kind.0 e.p.entries (tree_at c e.child.0) (tree_over c.trees n es) h (many-left c n es i h.2 m)

  conforms-left : (c : Content) (n : List ℕ) (es : List EdgeTo) (i : ℕ) →
      ConformsAbove eq.types rule (tree_over c.trees n es) →
      ConformsAbove eq.types rule (tree_over c.trees n (drop i es))
  conforms-left c n [] zero h = h
  conforms-left c n [] (suc i) h = h
  conforms-left c n (e ∷ es) zero h = h
  conforms-left c n (e ∷ es) (suc i) h = conforms-left c n es i h.2

  -- the edge before the last ones of a node of a pool
  module _ (c : Content) (id : ℕ) (n : List ℕ) (es : List EdgeTo) (i : ℕ) (holds : Holds c id (tree_over c.trees n es)) (conforms : ConformsAbove eq.types rule (tree_at c id)) (some : 0 < i) (le : i ≤ length es) where
    conforms-whole : ConformsAbove eq.types rule (tree_over c.trees n es)
    conforms-whole = subst (ConformsAbove eq.types rule) (at_holds c id (tree_over c.trees n es) holds) conforms

    pub edge_conforms : ConformsAbove eq.types rule (cut_before c n es i)
    edge_conforms = subst (ConformsAbove eq.types rule) (left_before c n es i some le) (conforms-left c n es (i - 1) conforms-whole)

    many-whole : HasMany (IsAbove eq.types rule (cut_before c n es i)) → HasMany (IsAbove eq.types rule (tree_at c id))
    many-whole h =
        let here = subst (λ (t : Plain). HasMany (IsAbove eq.types rule t)) (sym (left_before c n es i some le)) h in
        subst (λ (t : Plain). HasMany (IsAbove eq.types rule t)) (sym (at_holds c id (tree_over c.trees n es) holds)) (many-left c n es (i - 1) conforms-whole here)

    -- more than 2,000 on the way
    pub many_at : HasMany (IsAdditionAt eq.types rule (edge_before es i).kind.0 (upper c es i)) → HasMany (IsAbove eq.types rule (tree_at c id))
    many_at h =
        let e = edge_before es i in
        many-whole (many_more (IsAdditionAt eq.types rule e.kind.0 (upper c es i)) (IsAbove eq.types rule (cut_before c n es i))
        (λ ls m. in_above eq.types rule e.kind.0 e.p.entries (upper c es i) (left c n es i) m.0 [] [] ls m.1 (nil-above (upper c es i) edge_conforms.1) (nil-above (left c n es i) edge_conforms.2) m.2) h)

    pub many_child : HasMany (IsAbove eq.types rule (upper c es i)) → HasMany (IsAbove eq.types rule (tree_at c id))
    many_child h =
        let e = edge_before es i in
        many-whole (many_more (IsAbove eq.types rule (upper c es i)) (IsAbove eq.types rule (cut_before c n es i))
        (λ ls m. in_above eq.types rule e.kind.0 e.p.entries (upper c es i) (left c n es i) [] ls [] ls (nil-at e.kind.0 (upper c es i) edge_conforms.0) m (nil-above (left c n es i) edge_conforms.2)
        (sym (join-none ls (above-sorted eq.types rule (upper c es i) ls m)))) h)

    pub many_inner : (above others : List NodeType) → IsSetOf (IsAbove eq.types rule (upper c es i)) above → IsSetOf (IsAbove eq.types rule (left c n es i)) others → HasMany (IsSumOf above others) → HasMany (IsAbove eq.types rule (tree_at c id))
    many_inner above others u v h =
        let e = edge_before es i in
        many-whole (many_more (IsSumOf above others) (IsAbove eq.types rule (cut_before c n es i))
        (λ ls s. in_above eq.types rule e.kind.0 e.p.entries (upper c es i) (left c n es i) [] (labels s.0) (labels s.1) ls (nil-at e.kind.0 (upper c es i) edge_conforms.0) (u.only s.0 s.2) (v.only s.1 s.3) s.4) h)

    pub many_all : (at above others inner : List NodeType) → IsSetOf (IsAdditionAt eq.types rule (edge_before es i).kind.0 (upper c es i)) at → IsSetOf (IsAbove eq.types rule (upper c es i)) above → IsSetOf (IsAbove eq.types rule (left c n es i)) others →
        IsSetOf (IsSumOf above others) inner → HasMany (IsSumOf at inner) → HasMany (IsAbove eq.types rule (tree_at c id))
    many_all at above others inner a u v w h =
        let e = edge_before es i in
        many-whole (many_more (IsSumOf at inner) (IsAbove eq.types rule (cut_before c n es i)) (sum-is eq.types rule e.kind.0 e.p.entries (upper c es i) (left c n es i) at above others inner a u v w) h)
