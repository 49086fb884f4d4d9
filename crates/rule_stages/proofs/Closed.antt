-- The completion of a rule is closed under cutting: read down the tree.
use Rattle.std.proofs.Common.{◌≡◌, ℕ, ◌+◌, ◌<◌, ◌==◌, true, false, Bool, cond, not, ◌&&◌, ◌||◌, List, [], ◌∷◌, ◌++◌, length, refl, sym, ap, ◌∙◌, subst, arith, inl, inr, Ordering, Less, Equal, Greater}
use Rattle.std.proofs.lemmas.Bool.{and_parts, not-true}
use Rattle.std.specs.List.{AllByRecursion}
use Rattle.std.specs.Ordering.{is_lt}
use Rattle.std.proofs.lemmas.Bool.Decides.{nat_tests}
use Rattle.degree_numbers.specs.declared.types.Types.{Types}
use Rattle.degree_numbers.specs.Multi.{is_zero, plus_of}
use Rattle.degree_numbers.specs.Types.{kind_of}
use Rattle.degree_numbers.specs.Degree.{degree_order, degree_zero}
use Rattle.equations.specs.declared.equation.Equation.{Equation}
use Rattle.equations.specs.Accepted.{IsEquation}
use Rattle.ordered_lists.proofs.Subs.{sub_refl}
use Rattle.plain_trees.specs.Plain.{Plain, bare, graft, edge_count_of}
use Rattle.plain_trees.specs.Canon.{canon}
use Rattle.plain_trees.specs.Degree.{HasTypes, degree_of, planted}
use Rattle.plain_trees.specs.Coproducts.{is_below_zero, is_extracted}
use Rattle.plain_trees.proofs.CanonLaws.{canon_canonical, canon_same}
use Rattle.plain_trees.proofs.DegreeLaws.{canon_degree, canon_types, same_planted}
use Rattle.plain_trees.proofs.Inserts.{canon_count}
use Rattle.normal_rule.specs.declared.rule.Rule.{Rule}
use Rattle.tree_cuttings.specs.Roots.{has_edge}
use Rattle.tree_cuttings.specs.CutTree.{CutTree, node, edge, tree_of, leaves, fits, root_component, components_above, contracted}
use Rattle.conforming_trees.specs.Conforming.{put_label, node_type_of, IsInKernelRow, IsInRule, IsAllowedAbove, IsAllowedAtRoot, ConformsAbove, IsConforming, IsRule}
use Rattle.conforming_trees.specs.Listed.{IsListed}
use Rattle.conforming_trees.proofs.Canonical.{node_type-canon, conforms-canon}
use Rattle.conforming_trees.proofs.Kernels.{row_kind}
use Rattle.rule_stages.specs.Stages.{IsMade, IsNextStage}
use Rattle.rule_stages.proofs.CanonAdditions.{additions-canon}
use Rattle.rule_stages.proofs.Components.{HasMultis, IsPart, component-is_part, own-parts, parts_above}
use Rattle.rule_stages.proofs.Joins.{put-some}
use Rattle.rule_stages.proofs.Contracted.{component-additions, conforms-joined}

-- Boolean tests that hold together
less : (o : Ordering) → is_lt o ≡ true → o ≡ Less
less Less h = refl
less Equal h = absurd cc
less Greater h = absurd cc

some-edge : (t : Plain) → has_edge t ≡ true → 0 < edge_count_of t
some-edge (bare n) h = absurd cc
some-edge (graft k p c t) h = omega arith

root-canon_allowed : (rule : Rule) (t : Plain) → IsAllowedAtRoot rule t → IsAllowedAtRoot rule (canon t)
root-canon_allowed rule t h = (h.0, h.1, (h.2.0, h.2.1, h.2.2 ∙ sym (node_type-canon t)))

-- a component that is extracted is, in canonical form, a listed tree
pub part-listed : (eq : Equation) (rule : Rule) (t : Plain) → IsPart eq rule t → is_extracted eq.types t ≡ true → IsListed eq rule (canon t)
part-listed eq rule t part extracted =
    let tests = and_parts (not (planted eq.types t)) (is_below_zero (degree_of eq.types t)) extracted in
    let count = canon_count t in
    let some = some-edge t part.edges in
    record {
      candidate = record {
        canonical = canon_canonical t;
        types = canon_types eq.types t part.types;
        conforming = record { root = root-canon_allowed rule t part.root; above = conforms-canon eq.types rule t part.above };
        unplanted = sym (same_planted eq.types (canon_same t)) ∙ not-true (planted eq.types t) tests.0;
        edge = omega (arith, count, some);
      };
      negative = ap (λ d. degree_order d degree_zero) (canon_degree eq.types t) ∙ less (degree_order (degree_of eq.types t) degree_zero) tests.1;
    }

is_nought : (y : ℕ) → (y == 0) ≡ true → y ≡ 0
is_nought y h = grind (arith, nat_tests)

-- where no edge of the set meets the root, the edges at the root stay as they are
plus-zero : (p s : List ℕ) (count : ℕ) → length p ≡ count → length s ≡ count → is_zero s ≡ true → plus_of p s ≡ p
plus-zero [] [] count h k z = refl
plus-zero [] (y ∷ s) count h k z = absurd (omega (arith, h, k))
plus-zero (x ∷ p) [] count h k z = refl
plus-zero (x ∷ p) (y ∷ s) count h k z =
    let tests = and_parts (y == 0) (is_zero s) z in
    let none = is_nought y tests.0 in
    let first : x + y ≡ x = omega (arith, none) in
    let rest : plus_of p s ≡ p = plus-zero p s (length p) refl (omega (arith, h, k)) tests.1 in
    cc

idle : (is b : Bool) (x : ℕ) → ((is || (false && b)) ≡ true) → is ≡ true
idle true b x h = refl
idle false b x h = absurd cc

node_type-untouched : (ty : Types) (m : CutTree) → HasMultis ty.dims m → HasTypes ty (tree_of m) →
    leaves m ≡ false → fits false m ≡ true → node_type_of (contracted m) ≡ node_type_of (tree_of m)
node_type-untouched ty (node a l) multis types h f = refl
node_type-untouched ty (edge true s k p c r) multis types h f = absurd cc
node_type-untouched ty (edge false s k p c r) multis types h f =
    let here = and_parts (is_zero s || false) (fits (leaves c) c && fits false r) f in
    let rest = and_parts (fits (leaves c) c) (fits false r) here.1 in
    let zero = idle (is_zero s) true 0 here.0 in
    let same : plus_of p s ≡ p = plus-zero p s 5 types.0.decoration.entries multis.0.entries zero in
    ap (λ (q : List ℕ). put_label (k, q) (node_type_of (contracted r))) same ∙ ap (put_label (k, p)) (node_type-untouched ty r multis.2 types.2 h rest.1)

no_leaves : (m : CutTree) → leaves m ≡ true → node_type_of (tree_of m) ≡ [] → ⊥
no_leaves (node a l) h none = absurd cc
no_leaves (edge b s k p c r) h none = put-some (k, p) (node_type_of (tree_of r)) none

module _ (eq : Equation) (rule : Rule) (equation : IsEquation eq) (is_rule : IsRule eq rule) (fixed : IsNextStage eq rule rule) where
  -- the node type that a listed component is contracted to is one of the rule
  contracted-in_row : (k : ℕ) (m : CutTree) → IsInKernelRow rule k (node_type_of (tree_of m)) →
      ConformsAbove eq.types rule (tree_of m) → IsListed eq rule (canon (root_component m)) →
      IsInKernelRow rule k (node_type_of (contracted m))
  contracted-in_row k m allowed conforms listed =
      let es = node_type_of (contracted m) in
      let made : IsMade eq rule k es = record {
        tree = canon (root_component m);
        listed = listed;
        kernel = ap (λ (i : ℕ). kind_of eq.types i) (sym allowed.2) ∙ row_kind eq rule allowed.0 equation is_rule.rows allowed.1;
        additions = additions-canon eq.types rule k (root_component m) es (component-additions eq.types rule k m (inr allowed) conforms);
      } in
      fixed.whole k es (inr (es, made, sub_refl es))

  contracted-allowed : (k : ℕ) (m : CutTree) → IsAllowedAbove eq.types rule k (tree_of m) →
      ConformsAbove eq.types rule (tree_of m) → leaves m ≡ true →
      IsListed eq rule (canon (root_component m)) → IsAllowedAbove eq.types rule k (contracted m)
  contracted-allowed k m allowed conforms leaving listed =
      elim allowed [
        | inl noise ↦ absurd (no_leaves m leaving noise.1)
        | inr kernel ↦ inr (contracted-in_row k m kernel conforms listed)
      ]

  abbrev pub Extracted : Plain → Type 0
  Extracted t = is_extracted eq.types t ≡ true

  -- a node above an edge that is not in the set
  outside-allowed : (k : ℕ) (c : CutTree) (b : Bool) → leaves c ≡ b → HasMultis eq.types.dims c →
      HasTypes eq.types (tree_of c) → IsAllowedAbove eq.types rule k (tree_of c) →
      ConformsAbove eq.types rule (tree_of c) → fits b c ≡ true →
      AllByRecursion Extracted (cond b (root_component c ∷ components_above c) (components_above c)) → IsAllowedAbove eq.types rule k (contracted c)
  outside-allowed k c true leaving multis types allowed conforms f extracted =
      contracted-allowed k c allowed conforms leaving (part-listed eq rule (root_component c) (component-is_part eq rule k c is_rule multis types allowed conforms leaving) extracted.0)
  outside-allowed k c false leaving multis types allowed conforms f extracted =
      subst (IsInRule eq.types rule k) (sym (node_type-untouched eq.types c multis types leaving f)) allowed

  all-left : (xs ys : List Plain) → AllByRecursion Extracted (xs ++ ys) → AllByRecursion Extracted xs
  all-left [] ys h = tt
  all-left (x ∷ xs) ys h = (h.0, all-left xs ys h.1)

  all-right : (xs ys : List Plain) → AllByRecursion Extracted (xs ++ ys) → AllByRecursion Extracted ys
  all-right [] ys h = h
  all-right (x ∷ xs) ys h = all-right xs ys h.1

  all-above : (b : Bool) (t : Plain) (ts : List Plain) → AllByRecursion Extracted (cond b (t ∷ ts) ts) → AllByRecursion Extracted ts
  all-above true t ts h = h.1
  all-above false t ts h = h

  pub contracted-conforms : (touched : Bool) (m : CutTree) → HasMultis eq.types.dims m →
      HasTypes eq.types (tree_of m) → ConformsAbove eq.types rule (tree_of m) →
      fits touched m ≡ true → AllByRecursion Extracted (components_above m) →
      ConformsAbove eq.types rule (contracted m)
  contracted-conforms touched (node a l) multis types conforms f extracted = tt
  contracted-conforms touched (edge true s k p c r) multis types conforms f extracted =
      let tests = and_parts (fits true c) (fits touched r) (and_parts (is_zero s || (touched && false)) (fits true c && fits touched r) f).1 in
      conforms-joined eq.types rule (contracted c) (contracted r)
      (contracted-conforms true c multis.1 types.1 conforms.1 tests.0 (all-left (components_above c) (components_above r) extracted))
      (contracted-conforms touched r multis.2 types.2 conforms.2 tests.1 (all-right (components_above c) (components_above r) extracted))
  contracted-conforms touched (edge false s k p c r) multis types conforms f extracted =
      let tests = and_parts (fits (leaves c) c) (fits touched r) (and_parts (is_zero s || (touched && true)) (fits (leaves c) c && fits touched r) f).1 in
      let own = cond (leaves c) (root_component c ∷ components_above c) (components_above c) in
      let here = all-left own (components_above r) extracted in (
        outside-allowed k c (leaves c) refl multis.1 types.1 conforms.0 conforms.1 tests.0 here,
        contracted-conforms (leaves c) c multis.1 types.1 conforms.1 tests.0 (all-above (leaves c) (root_component c) (components_above c) here),
        contracted-conforms touched r multis.2 types.2 conforms.2 tests.1 (all-right own (components_above r) extracted),
      )

  root-at : (m : CutTree) (b : Bool) → leaves m ≡ b → HasMultis eq.types.dims m →
      HasTypes eq.types (tree_of m) → IsConforming eq.types rule (tree_of m) → fits b m ≡ true →
      AllByRecursion Extracted (cond b (root_component m ∷ components_above m) (components_above m)) → IsAllowedAtRoot rule (contracted m)
  root-at m true leaving multis types h f extracted =
      let row = h.root.0 in
      let allowed : IsInKernelRow rule row.kernel.0 (node_type_of (tree_of m)) = (row, h.root.1, refl, h.root.2) in
      let part = component-is_part eq rule row.kernel.0 m is_rule multis types (inr allowed) h.above leaving in
      let there = contracted-in_row row.kernel.0 m allowed h.above (part-listed eq rule (root_component m) part extracted.0) in
      (there.0, there.1, there.3)
  root-at m false leaving multis types h f extracted =
      (h.root.0, h.root.1, (h.root.2.0, h.root.2.1, h.root.2.2 ∙ sym (node_type-untouched eq.types m multis types leaving f)))

  -- the contracted tree, in canonical form
  pub quotient-conforms : (m : CutTree) → HasMultis eq.types.dims m →
      HasTypes eq.types (tree_of m) → IsConforming eq.types rule (tree_of m) →
      fits (leaves m) m ≡ true →
      AllByRecursion Extracted (cond (leaves m) (root_component m ∷ components_above m) (components_above m)) → IsConforming eq.types rule (canon (contracted m))
  quotient-conforms m multis types h f extracted = record {
    root = root-canon_allowed rule (contracted m) (root-at m (leaves m) refl multis types h f extracted);
    above = conforms-canon eq.types rule (contracted m)
        (contracted-conforms (leaves m) m multis types h.above f (all-above (leaves m) (root_component m) (components_above m) extracted));
  }

  -- the components are parts
  pub components-are_parts : (m : CutTree) → HasMultis eq.types.dims m →
      HasTypes eq.types (tree_of m) → IsConforming eq.types rule (tree_of m) →
      AllByRecursion (IsPart eq rule) (cond (leaves m) (root_component m ∷ components_above m) (components_above m))
  components-are_parts m multis types h =
      let row = h.root.0 in
      let allowed : IsAllowedAbove eq.types rule row.kernel.0 (tree_of m) = inr (row, h.root.1, refl, h.root.2) in
      own-parts (IsPart eq rule) (leaves m) (root_component m) (components_above m) (component-is_part eq rule row.kernel.0 m is_rule multis types allowed h.above) (parts_above eq rule m is_rule multis types h.above)
