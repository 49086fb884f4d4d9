-- What is made of the listed trees of a rule meets the inequality of regularities with the gap of
-- the rule.
use Rattle.std.proofs.Common.{◌≡◌, ℕ, ℤ, pos, neg_ℤ, ◌+ℤ◌, ◌≤ℤ◌, true, false, Bool, List, [], ◌∷◌, map, refl, sym, ap, ◌∙◌, arith, inl, inr, Some, None, Option}
use Rattle.std.specs.Prelude.{fold, slice_get}
use Rattle.std.specs.Ordering.{is_lt, is_gt}
use Rattle.std.proofs.lemmas.Int.{ints}
use Rattle.degree_numbers.specs.declared.types.Types.{Types}
use Rattle.degree_numbers.specs.declared.types.TypeEntry.{TypeEntry}
use Rattle.degree_numbers.specs.declared.types.Kind.{Kind}
use Rattle.degree_numbers.specs.declared.types.Kind.TheVariants.{Noise, Kernel}
use Rattle.degree_numbers.specs.Types.{type_degree, kind_of, size_in_units}
use Rattle.equations.specs.declared.equation.Equation.{Equation}
use Rattle.plain_trees.specs.Plain.{Plain, bare, graft, root_of}
use Rattle.plain_trees.specs.Degree.{degree_of}
use Rattle.normal_rule.specs.declared.rule.EdgeType.{EdgeType}
use Rattle.normal_rule.specs.declared.rule.NodeType.{NodeType}
use Rattle.normal_rule.specs.declared.rule.Rule.{Rule}
use Rattle.normal_rule.specs.Regularity.{regularity_of, regularity_at, kernel_regularity, edge_regularity, node_regularity}
use Rattle.tree_cuttings.proofs.Degrees.{below_low, size_plus}
use Rattle.conforming_trees.specs.Conforming.{EdgeLabel, edge_label_order, label, labels, put_label, node_type_of, IsInKernelRow, IsInRule, IsRule}
use Rattle.conforming_trees.specs.Listed.{IsListed}
use Rattle.rule_stages.specs.Stages.{join, IsRaised, IsAddition, AreAdditionsAbove, IsMade, IsNextStage}
use Rattle.rule_stages.proofs.Joins.{put-some}
use Rattle.rule_stages.proofs.Parts.{made-part}

abbrev label_regularity : Equation → EdgeLabel → ℤ
label_regularity eq e = regularity_of eq e.0 +ℤ neg_ℤ (pos (size_in_units eq.types e.1))

abbrev pub labels_regularity : Equation → List EdgeLabel → ℤ
labels_regularity eq [] = pos 0
labels_regularity eq (e ∷ es) = label_regularity eq e +ℤ labels_regularity eq es

sum_from : (eq : Equation) (es : List EdgeType) (z : ℤ) → fold (λ sum e. sum +ℤ edge_regularity eq e) z es ≡ z +ℤ labels_regularity eq (map label es)
sum_from eq [] z = omega (arith, ints)
sum_from eq (e ∷ es) z = let rest = sum_from eq es (z +ℤ edge_regularity eq e) in omega (arith, ints, rest)

pub node_regularity-labels : (eq : Equation) (n : NodeType) → node_regularity eq n ≡ labels_regularity eq (labels n)
node_regularity-labels eq n = let e = sum_from eq n.edges (pos 0) in omega (arith, ints, e)

put-regularity-at : (eq : Equation) (e f : EdgeLabel) (fs : List EdgeLabel) (a : Bool) →
    is_gt (edge_label_order e f) ≡ a →
    labels_regularity eq (put_label e fs) ≡ label_regularity eq e +ℤ labels_regularity eq fs →
    labels_regularity eq (put_label e (f ∷ fs)) ≡ label_regularity eq e +ℤ labels_regularity eq (f ∷ fs)
put-regularity-at eq e f fs true h ih = rw h (omega (arith, ints, ih))
put-regularity-at eq e f fs false h ih = rw h refl

put-regularity : (eq : Equation) (e : EdgeLabel) (es : List EdgeLabel) →
    labels_regularity eq (put_label e es) ≡ label_regularity eq e +ℤ labels_regularity eq es
put-regularity eq e [] = refl
put-regularity eq e (f ∷ fs) = put-regularity-at eq e f fs (is_gt (edge_label_order e f)) refl (put-regularity eq e fs)

join-regularity : (eq : Equation) (es fs : List EdgeLabel) → labels_regularity eq (join es fs) ≡ labels_regularity eq es +ℤ labels_regularity eq fs
join-regularity eq [] fs = omega (arith, ints)
join-regularity eq (e ∷ es) fs = let one = put-regularity eq e (join es fs) in let rest = join-regularity eq es fs in omega (arith, ints, one, rest)

raised-regularity : (eq : Equation) (n : List ℕ) (ms rs : List EdgeLabel) → IsRaised n ms rs →
    labels_regularity eq ms ≤ℤ (labels_regularity eq rs +ℤ pos (size_in_units eq.types n))
raised-regularity eq n [] [] h = omega (arith, ints)
raised-regularity eq n [] (r ∷ rs) h = absurd h
raised-regularity eq n (m ∷ ms) [] h = absurd h
raised-regularity eq n (m ∷ ms) (r ∷ rs) h =
    let rest = raised-regularity eq h.1 ms rs h.5 in
    let size = ap (size_in_units eq.types) h.2 ∙ size_plus eq.types h.0 h.1 in
    let raised = ap (size_in_units eq.types) h.4 ∙ size_plus eq.types m.1 h.0 in
    let kind = ap (regularity_of eq) h.3 in
    omega (arith, ints, rest, size, raised, kind)

-- each node type of the rule leaves the gap
abbrev pub LeavesGap : Equation → Rule → ℤ → Type 0
LeavesGap eq rule g = (k : ℕ) (es : List EdgeLabel) → IsInKernelRow rule k es → (regularity_of eq k +ℤ g) ≤ℤ ((type_degree eq.types k).a +ℤ labels_regularity eq es)

addition-regularity : (eq : Equation) (rule : Rule) (g : ℤ) (k : ℕ) (t : Plain) (ms rs : List EdgeLabel) →
    LeavesGap eq rule g → IsInKernelRow rule k (join ms (node_type_of t)) →
    IsRaised (root_of t) ms rs →
    (regularity_of eq k +ℤ g) ≤ℤ ((type_degree eq.types k).a +ℤ labels_regularity eq (node_type_of t) +ℤ labels_regularity eq rs +ℤ pos (size_in_units eq.types (root_of t)))
addition-regularity eq rule g k t ms rs gap allowed raised =
    let all = gap k (join ms (node_type_of t)) allowed in
    let both = join-regularity eq ms (node_type_of t) in
    let up = raised-regularity eq (root_of t) ms rs raised in
    omega (arith, ints, all, both, up)

noise-regularity : (eq : Equation) (k : ℕ) → kind_of eq.types k ≡ Some Noise → regularity_of eq k ≡ (type_degree eq.types k).a
noise-regularity eq k h = go (slice_get eq.types.list k) refl h
  where
    by_kind : (e : TypeEntry) (kind : Kind) → e.kind ≡ kind → kind ≡ Noise → regularity_at (Some e) (kernel_regularity eq.unknowns k) ≡ e.degree.a
    by_kind e Noise q n = rw q refl
    by_kind e Kernel q n = absurd cc

    some : (o : Option TypeEntry) (e : TypeEntry) → o ≡ Some e → kind_of eq.types k ≡ Some Noise → slice_get eq.types.list k ≡ o → regularity_of eq k ≡ (type_degree eq.types k).a
    some o e q n at = let there : slice_get eq.types.list k ≡ Some e = at ∙ q in rw there (by_kind e e.kind refl (let m : Some e.kind ≡ Some Noise = sym (rw there refl) ∙ n in cc))

    go : (o : Option TypeEntry) → slice_get eq.types.list k ≡ o → kind_of eq.types k ≡ Some Noise → regularity_of eq k ≡ (type_degree eq.types k).a
    go None at n = absurd (let m : None ≡ Some Noise = sym (rw at refl) ∙ n in cc)
    go (Some e) at n = some (Some e) e refl n at

join-none : (ms es : List EdgeLabel) → join ms es ≡ [] → (ms ≡ []) × (es ≡ [])
join-none [] es h = (refl, h)
join-none (m ∷ ms) es h = absurd (put-some m (join ms es) h)

raised-none : (n : List ℕ) (ms rs : List EdgeLabel) → ms ≡ [] → IsRaised n ms rs → rs ≡ []
raised-none n [] [] q h = refl
raised-none n [] (r ∷ rs) q h = absurd h
raised-none n (m ∷ ms) rs q h = absurd cc

-- a tree without edges has a degree of at least 0, and nothing is added above its root
bare-degree : (ty : Types) (rule : Rule) (t : Plain) (rs : List EdgeLabel) → node_type_of t ≡ [] →
    AreAdditionsAbove ty rule t rs → (pos 0 ≤ℤ (degree_of ty t).a) × (rs ≡ [])
bare-degree ty rule (bare n) rs q h = (omega (arith, ints), h)
bare-degree ty rule (graft k p c t) rs q h = absurd (put-some (k, p) (node_type_of t) q)

edge-regularity : (eq : Equation) (rule : Rule) (g : ℤ) (k : ℕ) (p : List ℕ) (c : Plain) (at above : List EdgeLabel) →
    LeavesGap eq rule g → pos 0 ≤ℤ g → IsAddition eq.types rule k c at →
    AreAdditionsAbove eq.types rule c above →
    (labels_regularity eq (node_type_of c) +ℤ pos (size_in_units eq.types (root_of c))) ≤ℤ ((degree_of eq.types c).a +ℤ labels_regularity eq above) →
    label_regularity eq (k, p) ≤ℤ ((type_degree eq.types k).a +ℤ neg_ℤ (pos (size_in_units eq.types p)) +ℤ (degree_of eq.types c).a +ℤ labels_regularity eq at +ℤ labels_regularity eq above)
edge-regularity eq rule g k p c at above gap low add more ih =
    elim add.1 [
      | inl noise ↦
          let none = join-none add.0 (node_type_of c) noise.1 in
          let here : labels_regularity eq at ≡ pos 0 = ap (labels_regularity eq) (raised-none (root_of c) add.0 at none.0 add.2) in
          let bare = bare-degree eq.types rule c above none.1 more in
          let there : labels_regularity eq above ≡ pos 0 = ap (labels_regularity eq) bare.1 in
          let same = noise-regularity eq k noise.0 in
          let high = bare.0 in
          omega (arith, ints, here, there, same, high)
      | inr kernel ↦
          let one = addition-regularity eq rule g k c add.0 at gap kernel add.2 in
          omega (arith, ints, one, ih, low)
    ]

above-regularity : (eq : Equation) (rule : Rule) (g : ℤ) (t : Plain) (rs : List EdgeLabel) →
    LeavesGap eq rule g → pos 0 ≤ℤ g → AreAdditionsAbove eq.types rule t rs →
    (labels_regularity eq (node_type_of t) +ℤ pos (size_in_units eq.types (root_of t))) ≤ℤ ((degree_of eq.types t).a +ℤ labels_regularity eq rs)
above-regularity eq rule g (bare n) rs gap low h = let none : labels_regularity eq rs ≡ pos 0 = ap (labels_regularity eq) h in omega (arith, ints, none)
above-regularity eq rule g (graft k p c t) rs gap low h =
    let one = edge-regularity eq rule g k p c h.0 h.1 gap low h.3 h.4 (above-regularity eq rule g c h.1 gap low h.4) in
    let rest = above-regularity eq rule g t h.2 gap low h.5 in
    let put = put-regularity eq (k, p) (node_type_of t) in
    let sum : labels_regularity eq rs ≡ labels_regularity eq h.0 +ℤ (labels_regularity eq h.1 +ℤ labels_regularity eq h.2) =
    ap (labels_regularity eq) h.6 ∙ join-regularity eq h.0 (join h.1 h.2) ∙ ap (λ z. labels_regularity eq h.0 +ℤ z) (join-regularity eq h.1 h.2) in
    omega (arith, ints, one, rest, put, sum)

kernel-in_row : (ty : Types) (rule : Rule) (k : ℕ) (es : List EdgeLabel) → kind_of ty k ≡ Some Kernel → IsInRule ty rule k es → IsInKernelRow rule k es
kernel-in_row ty rule k es h allowed = elim allowed [ inl noise ↦ absurd (let m : Some Kernel ≡ Some Noise = sym h ∙ noise.0 in cc) | inr kernel ↦ kernel ]

listed-low : (eq : Equation) (rule : Rule) (t : Plain) → IsListed eq rule t → (degree_of eq.types t).a ≤ℤ pos 0
listed-low eq rule t h = below_low (degree_of eq.types t) (ap is_lt h.negative)

made-regularity : (eq : Equation) (rule : Rule) (g : ℤ) (k : ℕ) (rs : List EdgeLabel) →
    LeavesGap eq rule g → pos 0 ≤ℤ g → IsMade eq rule k rs →
    (regularity_of eq k +ℤ g) ≤ℤ ((type_degree eq.types k).a +ℤ labels_regularity eq rs)
made-regularity eq rule g k rs gap low made =
    let add = made.additions in
    let root = addition-regularity eq rule g k made.tree add.2.0 add.0 gap (kernel-in_row eq.types rule k (join add.2.0 (node_type_of made.tree)) made.kernel add.2.1) add.2.2 in
    let above = above-regularity eq rule g made.tree add.1 gap low add.3 in
    let sum = ap (labels_regularity eq) add.4 ∙ join-regularity eq add.0 add.1 in
    let negative = listed-low eq rule made.tree made.listed in
    omega (arith, ints, root, above, sum, negative)

pub next-leaves_gap : (eq : Equation) (rule next : Rule) (g : ℤ) → IsRule eq rule →
    LeavesGap eq rule g → pos 0 ≤ℤ g → IsNextStage eq rule next → LeavesGap eq next g
next-leaves_gap eq rule next g is_rule gap low h k es has =
    elim (h.sound k es has) [
      | inl old ↦ gap k es old
      | inr new ↦ made-regularity eq rule g k es gap low (made-part eq rule k es new.0 is_rule new.1 new.2)
    ]
