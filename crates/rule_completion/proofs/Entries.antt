-- How the entries of derivative decorations grow from a stage to the next.
use Rattle.std.proofs.Common.{◌≡◌, ℕ, zero, suc, ◌+◌, ◌≤◌, ◌<◌, true, false, Bool, List, [], ◌∷◌, map, refl, sym, ◌∙◌, subst, inl, inr, arith}
use Rattle.std.specs.Prelude.{sum}
use Rattle.std.specs.List.{All, AllByRecursion}
use Rattle.std.specs.Ordering.{is_gt}
use Rattle.std.proofs.lemmas.List.Sums.{sum_by_from}
use Rattle.std.proofs.lemmas.List.Elements.{All-from_recursion, All-nil, All-cons, All-head, All-tail, All-weaker}
use Rattle.degree_numbers.specs.declared.types.Types.{Types}
use Rattle.degree_numbers.specs.Multi.{plus_of}
use Rattle.equations.specs.declared.equation.Equation.{Equation}
use Rattle.ordered_lists.specs.Subs.{IsSubMultiset}
use Rattle.ordered_lists.proofs.Members.{all_at}
use Rattle.plain_trees.specs.Plain.{Plain, bare, graft, root_of, decoration_sum_of}
use Rattle.normal_rule.specs.declared.rule.EdgeType.{EdgeType}
use Rattle.normal_rule.specs.declared.rule.Rule.{Rule}
use Rattle.normal_rule.specs.declared.rule.RuleRow.{RuleRow}
use Rattle.normal_rule.specs.Regularity.{AreMeasured, IsMeasuredNode}
use Rattle.conforming_trees.specs.Conforming.{EdgeLabel, edge_label_order, label, labels, put_label, node_type_of, IsInKernelRow, IsInRule}
use Rattle.conforming_trees.specs.Listed.{IsListed, HasTooLargeTree}
use Rattle.conforming_trees.proofs.Labels.{put-all}
use Rattle.rule_stages.specs.Stages.{join, IsRaised, IsAddition, AreAdditionsAbove, AreAdditions, IsNextStage}
use Rattle.rule_steps.specs.Sets.{IsSmallRule}

-- multiindices
abbrev pub AreAtMost : ℕ → List ℕ → Type 0
AreAtMost most xs = AllByRecursion (λ x. x ≤ most) xs

plus_at_most : (a b : ℕ) (xs ys : List ℕ) → AreAtMost a xs → AreAtMost b ys → AreAtMost (a + b) (plus_of xs ys)
plus_at_most a b [] [] h k = tt
plus_at_most a b [] (y ∷ ys) h k = (omega (arith, k.0), plus_at_most a b [] ys tt k.1)
plus_at_most a b (x ∷ xs) [] h k = (omega (arith, h.0), weaker a (a + b) xs (omega arith) h.1)
  where
    weaker : (m n : ℕ) (zs : List ℕ) → m ≤ n → AreAtMost m zs → AreAtMost n zs
    weaker m n [] l g = tt
    weaker m n (z ∷ zs) l g = (omega (arith, l, g.0), weaker m n zs l g.1)
plus_at_most a b (x ∷ xs) (y ∷ ys) h k = (omega (arith, h.0, k.0), plus_at_most a b xs ys h.1 k.1)

plus_left : (a : ℕ) (xs ys : List ℕ) → AreAtMost a (plus_of xs ys) → AreAtMost a xs
plus_left a [] ys h = tt
plus_left a (x ∷ xs) [] h = h
plus_left a (x ∷ xs) (y ∷ ys) h = (omega (arith, h.0), plus_left a xs ys h.1)

plus_right : (a : ℕ) (xs ys : List ℕ) → AreAtMost a (plus_of xs ys) → AreAtMost a ys
plus_right a [] ys h = h
plus_right a (x ∷ xs) [] h = tt
plus_right a (x ∷ xs) (y ∷ ys) h = (omega (arith, h.0), plus_right a xs ys h.1)

sum-cons : (x : ℕ) (xs : List ℕ) → sum (x ∷ xs) ≡ x + sum xs
sum-cons x xs = let all : sum (x ∷ xs) ≡ 0 + x + sum xs = sum_by_from (λ y. y) (0 + x) xs in omega (arith, all)

within_sum : (a : ℕ) (xs : List ℕ) → sum xs ≤ a → AreAtMost a xs
within_sum a [] h = tt
within_sum a (x ∷ xs) h = let parts = sum-cons x xs in (omega (arith, h, parts), within_sum a xs (omega (arith, h, parts)))

-- edge types
abbrev pub IsSmallLabel : ℕ → EdgeLabel → Type 0
IsSmallLabel most e = AreAtMost most e.1

abbrev pub AreSmallLabels : ℕ → List EdgeLabel → Type 0
AreSmallLabels most es = AllByRecursion (IsSmallLabel most) es

put-all-back : (P : EdgeLabel → Type 0) (e : EdgeLabel) (es : List EdgeLabel) → AllByRecursion P (put_label e es) → P e × AllByRecursion P es
put-all-back P e [] h = h
put-all-back P e (f ∷ fs) h = at (is_gt (edge_label_order e f)) refl h (put-all-back P e fs)
  where
    at : (a : Bool) → is_gt (edge_label_order e f) ≡ a → AllByRecursion P (put_label e (f ∷ fs)) → (AllByRecursion P (put_label e fs) → P e × AllByRecursion P fs) → P e × AllByRecursion P (f ∷ fs)
    at true q h back =
        let parts : P f × AllByRecursion P (put_label e fs) = rw q at h in
        let rest = back parts.1 in
        (rest.0, (parts.0, rest.1))
    at false q h back = rw q at h

join-all : (P : EdgeLabel → Type 0) (es fs : List EdgeLabel) → AllByRecursion P es → AllByRecursion P fs → AllByRecursion P (join es fs)
join-all P [] fs h k = k
join-all P (e ∷ es) fs h k = put-all P e (join es fs) h.0 (join-all P es fs h.1 k)

join-all-left : (P : EdgeLabel → Type 0) (es fs : List EdgeLabel) → AllByRecursion P (join es fs) → AllByRecursion P es
join-all-left P [] fs h = tt
join-all-left P (e ∷ es) fs h = let parts = put-all-back P e (join es fs) h in (parts.0, join-all-left P es fs parts.1)

sub-all : (P : EdgeLabel → Type 0) (es rs : List EdgeLabel) → IsSubMultiset es rs → AllByRecursion P rs → AllByRecursion P es
sub-all P [] rs sub h = tt
sub-all P (e ∷ es) [] sub h = absurd sub
sub-all P (e ∷ es) (r ∷ rs) sub h = elim sub [ inl taken ↦ (subst P taken.0 h.0, sub-all P es rs taken.1 h.1) | inr left ↦ sub-all P (e ∷ es) rs left h.1 ]

more_small : (most : ℕ) (more : ℕ) (es : List EdgeLabel) → most ≤ more → AreSmallLabels most es → AreSmallLabels more es
more_small most more [] l h = tt
more_small most more (e ∷ es) l h = (entries e.1 h.0, more_small most more es l h.1)
  where
    entries : (xs : List ℕ) → AreAtMost most xs → AreAtMost more xs
    entries [] g = tt
    entries (x ∷ xs) g = (omega (arith, l, g.0), entries xs g.1)

raised_small : (most a : ℕ) (n : List ℕ) (ms rs : List EdgeLabel) → AreAtMost a n → IsRaised n ms rs → AreSmallLabels most ms → AreSmallLabels (most + a) rs
raised_small most a n [] [] small h k = tt
raised_small most a n [] (r ∷ rs) small h k = absurd h
raised_small most a n (m ∷ ms) [] small h k = absurd h
raised_small most a n (m ∷ ms) (r ∷ rs) small h k =
    let parts = subst (AreAtMost a) h.2 small in
    let first = plus_at_most most a m.1 h.0 k.0 (plus_left a h.0 h.1 parts) in
    (subst (AreAtMost (most + a)) (sym h.4) first, raised_small most a h.1 ms rs (plus_right a h.0 h.1 parts) h.5 k.1)

-- the node types of a rule, by kernel
abbrev pub HasSmallLabels : ℕ → Rule → Type 0
HasSmallLabels most rule = (k : ℕ) (es : List EdgeLabel) → IsInKernelRow rule k es → AreSmallLabels most es

in_rule-small : (most : ℕ) (ty : Types) (rule : Rule) (k : ℕ) (es : List EdgeLabel) → HasSmallLabels most rule → IsInRule ty rule k es → AreSmallLabels most es
in_rule-small most ty rule k es small h = elim h [ inl noise ↦ subst (AreSmallLabels most) (sym noise.1) tt | inr kernel ↦ small k es kernel ]

root_within : (t : Plain) → sum (root_of t) ≤ decoration_sum_of t
root_within (bare n) = omega arith
root_within (graft k p c t) = let rest = root_within t in omega (arith, rest)

module _ (most a : ℕ) (ty : Types) (rule : Rule) (small : HasSmallLabels most rule) where
  addition_small : (k : ℕ) (t : Plain) (rs : List EdgeLabel) → decoration_sum_of t ≤ a → IsAddition ty rule k t rs → AreSmallLabels (most + a) rs
  addition_small k t rs few h =
      let allowed = in_rule-small most ty rule k (join h.0 (node_type_of t)) small h.1 in
      let root = root_within t in
      raised_small most a (root_of t) h.0 rs (within_sum a (root_of t) (omega (arith, root, few))) h.2 (join-all-left (IsSmallLabel most) h.0 (node_type_of t) allowed)

  above_small : (t : Plain) (rs : List EdgeLabel) → decoration_sum_of t ≤ a → AreAdditionsAbove ty rule t rs → AreSmallLabels (most + a) rs
  above_small (bare n) rs few h = subst (AreSmallLabels (most + a)) (sym h) tt
  above_small (graft k p c t) rs few h =
      let P = IsSmallLabel (most + a) in
      let at = addition_small k c h.0 (omega (arith, few)) h.3 in
      let above = above_small c h.1 (omega (arith, few)) h.4 in
      let others = above_small t h.2 (omega (arith, few)) h.5 in
      subst (AreSmallLabels (most + a)) (sym h.6) (join-all P h.0 (join h.1 h.2) at (join-all P h.1 h.2 above others))

  additions_small : (k : ℕ) (t : Plain) (rs : List EdgeLabel) → decoration_sum_of t ≤ a → AreAdditions ty rule k t rs → AreSmallLabels (most + a) rs
  additions_small k t rs few h =
      subst (AreSmallLabels (most + a)) (sym h.4) (join-all (IsSmallLabel (most + a)) h.0 h.1 (addition_small k t h.0 few h.2) (above_small t h.1 few h.3))

at_most : (n a : ℕ) → (a < n → ⊥) → n ≤ a
at_most zero a h = omega arith
at_most (suc n) zero h = absurd (h (omega arith))
at_most (suc n) (suc a) h = let below = at_most n a (λ lt. h (omega (arith, lt))) in omega (arith, below)

-- a listed tree has a small decoration sum, where none is too large
listed_small : (eq : Equation) (rule : Rule) (t : Plain) → (HasTooLargeTree eq rule → ⊥) → IsListed eq rule t → decoration_sum_of t ≤ 64
listed_small eq rule t fit listed =
    at_most (decoration_sum_of t) 64 (λ lt. fit record { tree = t; candidate = listed.candidate; at_most_zero = λ e. let never = sym listed.negative ∙ e in cc; large = inr lt })

-- the entries of the labels of a node type
labels_from : (most : ℕ) (es : List EdgeType) → All (λ e. All (λ m. m ≤ most) e.p.entries) es → AreSmallLabels most (map label es)
labels_from most [] h = tt
labels_from most (e ∷ es) h = (entries e.p.entries (All-head (λ (f : EdgeType). All (λ m. m ≤ most) f.p.entries) e es h), labels_from most es (All-tail (λ (f : EdgeType). All (λ m. m ≤ most) f.p.entries) e es h))
  where
    entries : (xs : List ℕ) → All (λ m. m ≤ most) xs → AreAtMost most xs
    entries [] g = tt
    entries (x ∷ xs) g = (All-head (λ m. m ≤ most) x xs g, entries xs (All-tail (λ m. m ≤ most) x xs g))

labels_back : (most : ℕ) (es : List EdgeType) → AreSmallLabels most (map label es) → All (λ e. All (λ m. m ≤ most) e.p.entries) es
labels_back most [] h = All-nil (λ (f : EdgeType). All (λ m. m ≤ most) f.p.entries)
labels_back most (e ∷ es) h =
    All-cons (λ (f : EdgeType). All (λ m. m ≤ most) f.p.entries) e es (All-from_recursion (λ m. m ≤ most) e.p.entries h.0) (labels_back most es h.1)

small_labels : (most : ℕ) (rule : Rule) → IsSmallRule most rule → HasSmallLabels most rule
small_labels most rule small k es h = subst (AreSmallLabels most) h.3.2 (labels_from most h.3.0.edges (small h.0 h.1 h.3.0 h.3.1))

-- the next stage
pub next_small : (eq : Equation) (rule next : Rule) (most : ℕ) → (HasTooLargeTree eq rule → ⊥) →
    IsSmallRule most rule → IsNextStage eq rule next → IsSmallRule (most + 64) next
next_small eq rule next most fit small h row i n j =
    let own = small_labels most rule small in
    let found : AreSmallLabels (most + 64) (labels n) =
    elim (h.sound row.kernel.0 (labels n) (row, i, refl, (n, j, refl))) [
      | inl old ↦ more_small most (most + 64) (labels n) (omega arith) (own row.kernel.0 (labels n) old)
      | inr made ↦
          let tree = made.1 in
          sub-all (IsSmallLabel (most + 64)) (labels n) made.0 made.2
          (additions_small most 64 eq.types rule own row.kernel.0 tree.tree made.0 (listed_small eq rule tree.tree fit tree.listed) tree.additions)
    ] in
    labels_back (most + 64) n.edges found

-- the first stage
pub measured_small : (rule : Rule) → AreMeasured rule.rows → IsSmallRule 4096 rule
measured_small rule h row i n j = (all_at IsMeasuredNode row.nodes n (all_at (λ (w : RuleRow). All IsMeasuredNode w.nodes) rule.rows row h i) j).1

pub small_weaker : (most more : ℕ) (rule : Rule) → most ≤ more → IsSmallRule most rule → IsSmallRule more rule
small_weaker most more rule l small row i n j =
    All-weaker (λ (e : EdgeType). All (λ m. m ≤ most) e.p.entries) (λ (e : EdgeType). All (λ m. m ≤ more) e.p.entries)
    (λ e h. All-weaker (λ m. m ≤ most) (λ m. m ≤ more) (λ m g. omega (arith, g, l)) e.p.entries h) n.edges (small row i n j)
