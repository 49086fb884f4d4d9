-- What is made of a tree is what is found node by node.
use Rattle.std.proofs.Common.{◌≡◌, ℕ, true, false, Bool, List, [], ◌∷◌, length, map, refl, sym, ap, ◌∙◌, subst, arith, inl, inr, Some, None, Option}
use Rattle.std.specs.List.{All, AllByRecursion}
use Rattle.std.specs.Ordering.{is_gt}
use Rattle.std.proofs.lemmas.List.Elements.{All-tail}
use Rattle.degree_numbers.specs.declared.types.Kind.TheVariants.{Noise, Kernel}
use Rattle.degree_numbers.specs.Types.{kind_of}
use Rattle.degree_numbers.specs.Multi.{plus_of}
use Rattle.equations.specs.declared.equation.Equation.{Equation}
use Rattle.equations.specs.Accepted.{IsEquation}
use Rattle.ordered_lists.specs.Members.{IsIn}
use Rattle.ordered_lists.specs.Subs.{IsSubMultiset}
use Rattle.ordered_lists.proofs.Members.{in_map, in_flat_map, from_map, from_flat_map}
use Rattle.plain_trees.specs.Plain.{Plain, bare, graft, root_of}
use Rattle.plain_trees.specs.Degree.{IsMultiIndex, HasTypes}
use Rattle.plain_trees.proofs.WrittenTrees.{root_index}
use Rattle.normal_rule.specs.declared.rule.EdgeType.{EdgeType}
use Rattle.normal_rule.specs.declared.rule.Rule.{Rule}
use Rattle.tree_cuttings.proofs.Multinomials.{plus_assoc, plus_comm}
use Rattle.conforming_trees.specs.Conforming.{EdgeLabel, edge_label_order, label, labels, put_label, node_type_of, IsInKernelRow, IsAllowedAbove, ConformsAbove, IsRule}
use Rattle.conforming_trees.proofs.Kernels.{row_kind}
use Rattle.conforming_trees.proofs.Labels.{IsInLabelOrder, count, node_type-sorted, same_labels}
use Rattle.rule_stages.specs.Stages.{join, IsRaised, IsAddition, AreAdditionsAbove, AreAdditions}
use Rattle.rule_stages.proofs.Joins.{count-join, join-sorted, put-some}
use Rattle.rule_stages.proofs.Parts.{additions-sorted}
use Rattle.rule_steps.specs.Sums.{without, raisings, nodes_of_kernel, listed_option, options_in, options, additions_at, sums, additions_above, all_additions}
use Rattle.rule_steps.proofs.Options.{without-rest, without-joins, joins-without}
use Rattle.rule_steps.proofs.Raisings.{HasLength, raising-is, raising-there}
use Rattle.rule_steps.proofs.Rows.{in_kernel_row, from_kernel_row, node_labels_sorted, node_directions}

abbrev pub SameCounts : List EdgeLabel → List EdgeLabel → Type 0
SameCounts es fs = (z : EdgeLabel) → count z es ≡ count z fs

-- edge types that are raised, put in order
abbrev Raised : List ℕ → EdgeLabel → List EdgeLabel → EdgeLabel → List EdgeLabel → Type 0
Raised n m xs r ys = (qs : List EdgeLabel) × IsRaised n (put_label m xs) qs × SameCounts qs (r ∷ ys)

raised-front : (n shift rest : List ℕ) (m r : EdgeLabel) (xs ys : List EdgeLabel) →
    n ≡ plus_of shift rest → r.0 ≡ m.0 → r.1 ≡ plus_of m.1 shift → IsRaised rest xs ys →
    put_label m xs ≡ m ∷ xs → Raised n m xs r ys
raised-front n shift rest m r xs ys parted kind label h q = (r ∷ ys, subst (λ l. IsRaised n l (r ∷ ys)) (sym q) (shift, rest, parted, kind, label, h), λ z. refl)

raised-put : (n shift rest : List ℕ) (m r : EdgeLabel) (xs ys : List EdgeLabel) →
    n ≡ plus_of shift rest → r.0 ≡ m.0 → r.1 ≡ plus_of m.1 shift → IsRaised rest xs ys →
    Raised n m xs r ys
raised-put n shift rest m r [] ys parted kind label h = raised-front n shift rest m r [] ys parted kind label h refl
raised-put n shift rest m r (x ∷ xs) [] parted kind label h = absurd h
raised-put n shift rest m r (x ∷ xs) (y ∷ ys) parted kind label h =
    at (is_gt (edge_label_order m x)) refl (raised-put (plus_of shift h.1) shift h.1 m r xs ys refl kind label h.5)
  where
    at : (b : Bool) → is_gt (edge_label_order m x) ≡ b → Raised (plus_of shift h.1) m xs r ys → Raised n m (x ∷ xs) r (y ∷ ys)
    at true q later =
        let moved : n ≡ plus_of h.0 (plus_of shift h.1) =
        parted ∙ ap (plus_of shift) h.2 ∙ sym (plus_assoc shift h.0 h.1) ∙ ap (λ l. plus_of l h.1) (plus_comm shift h.0) ∙ plus_assoc h.0 shift h.1 in
        let whole : IsRaised n (x ∷ put_label m xs) (y ∷ later.0) = (h.0, plus_of shift h.1, moved, h.3, h.4, later.1) in
        (y ∷ later.0, rw q whole, λ z. omega (arith, later.2 z))
    at false q later = raised-front n shift rest m r (x ∷ xs) (y ∷ ys) parted kind label h (rw q refl)

raised-sorted : (n : List ℕ) (ms rs : List EdgeLabel) → IsRaised n ms rs → (qs : List EdgeLabel) × IsRaised n (join ms []) qs × SameCounts qs rs
raised-sorted n [] [] h = ([], tt, λ z. refl)
raised-sorted n [] (r ∷ rs) h = absurd h
raised-sorted n (m ∷ ms) [] h = absurd h
raised-sorted n (m ∷ ms) (r ∷ rs) h =
    let rest = raised-sorted h.1 ms rs h.5 in
    let put = raised-put n h.0 h.1 m r (join ms []) rest.0 h.2 h.3 h.4 rest.1 in
    (put.0, put.1, λ z. omega (arith, put.2 z, rest.2 z))

-- what holds of each label of a list holds of each of a part
pub all-part : (P : EdgeLabel → Type 0) (ns xs : List EdgeLabel) → IsSubMultiset ns xs → AllByRecursion P xs → AllByRecursion P ns
all-part P [] xs h a = tt
all-part P (n ∷ ns) [] h a = absurd h
all-part P (n ∷ ns) (x ∷ xs) h a =
    elim h [
      | inl taken ↦ (subst P taken.0 a.0, all-part P ns xs taken.1 a.1)
      | inr left ↦ all-part P (n ∷ ns) xs left a.1
    ]

all-lengths : (dims : ℕ) (n : List ℕ) (es : List EdgeType) → length n ≡ 5 →
    All (λ e. IsMultiIndex dims e.p.entries) es → AllByRecursion (HasLength n) (map label es)
all-lengths dims n [] h a = tt
all-lengths dims n (e ∷ es) h a = ((a 0 e (omega arith)).entries ∙ sym h, all-lengths dims n es h (All-tail (λ (x : EdgeType). IsMultiIndex dims x.p.entries) e es a))

join-none : (ms es : List EdgeLabel) → join ms es ≡ [] → ms ≡ []
join-none [] es h = refl
join-none (m ∷ ms) es h = absurd (put-some m (join ms es) h)

raised-none : (n : List ℕ) (ms rs : List EdgeLabel) → ms ≡ [] → IsRaised n ms rs → rs ≡ []
raised-none n [] [] q h = refl
raised-none n [] (r ∷ rs) q h = absurd h
raised-none n (m ∷ ms) rs q h = absurd cc

-- lists in which each edge type stands as often, joined to the same
pub same-joins : (xs ys zs : List EdgeLabel) → IsInLabelOrder zs → SameCounts xs ys → join xs zs ≡ join ys zs
same-joins xs ys zs h same = same_labels (join xs zs) (join ys zs) (join-sorted xs zs h) (join-sorted ys zs h) (λ z. omega (arith, count-join z xs zs, count-join z ys zs, same z))

pub in_sums : (xs ys : List (List EdgeLabel)) (x y : List EdgeLabel) → IsIn x xs → IsIn y ys → IsIn (join x y) (sums xs ys)
in_sums xs ys x y h k = in_flat_map (λ x. map (join x) ys) (join x y) x xs h (in_map (join x) y ys k)

pub from_sums : (xs ys : List (List EdgeLabel)) (z : List EdgeLabel) → IsIn z (sums xs ys) → (x y : List EdgeLabel) × IsIn x xs × IsIn y ys × (z ≡ join x y)
from_sums xs ys z h =
    let x = from_flat_map (λ x. map (join x) ys) z xs h in
    let y = from_map (join x.0) z ys x.2 in
    (x.0, y.0, x.1, y.1, sym y.2)

module _ (eq : Equation) (rule : Rule) (equation : IsEquation eq) (is_rule : IsRule eq rule) where
  pub kernel_of_row : (k : ℕ) (es : List EdgeLabel) → IsInKernelRow rule k es → kind_of eq.types k ≡ Some Kernel
  kernel_of_row k es h = ap (kind_of eq.types) (sym h.2) ∙ row_kind eq rule h.0 equation is_rule.rows h.1

  pub options-noise : (k : ℕ) (es : List EdgeLabel) → kind_of eq.types k ≡ Some Noise → options eq.types rule k es ≡ [] ∷ []
  options-noise k es h = rw h refl

  pub options-kernel : (k : ℕ) (es : List EdgeLabel) → kind_of eq.types k ≡ Some Kernel →
      options eq.types rule k es ≡ options_in (nodes_of_kernel rule.rows k) es
  options-kernel k es h = rw h refl

  pub option-in_row : (k : ℕ) (t : Plain) (ms : List EdgeLabel) →
      IsIn ms (options_in (nodes_of_kernel rule.rows k) (node_type_of t)) →
      IsInKernelRow rule k (join ms (node_type_of t))
  option-in_row k t ms h =
      let n = from_flat_map (λ n. listed_option (without (labels n) (node_type_of t))) ms (nodes_of_kernel rule.rows k) h in
      let is = listed (without (labels n.0) (node_type_of t)) n.2 in
      let joined = without-joins (labels n.0) (node_type_of t) ms (node_labels_sorted eq rule equation is_rule k n.0 n.1) (node_type-sorted t) is in
      subst (IsInKernelRow rule k) (sym joined) (in_kernel_row eq rule equation is_rule k n.0 n.1)
    where
      listed : (o : Option (List EdgeLabel)) → IsIn ms (listed_option o) → o ≡ Some ms
      listed None i = absurd i
      listed (Some ns) i = elim i [ inl e ↦ ap Some e | inr none ↦ absurd none ]

  pub addition-is : (k : ℕ) (t : Plain) (rs : List EdgeLabel) → IsAllowedAbove eq.types rule k t →
      IsIn rs (additions_at eq.types rule k t) → IsAddition eq.types rule k t rs
  addition-is k t rs allowed h =
      let ms = from_flat_map (raisings (root_of t)) rs (options eq.types rule k (node_type_of t)) h in
      let raised = raising-is (root_of t) ms.0 rs ms.2 in
      elim allowed [
        | inl noise ↦
            let none : IsIn ms.0 ([] ∷ []) = subst (IsIn ms.0) (options-noise k (node_type_of t) noise.0) ms.1 in
            let empty : [] ≡ ms.0 = elim none [ inl e ↦ e | inr absent ↦ absurd absent ] in
            (ms.0, inl (noise.0, ap (λ l. join l (node_type_of t)) (sym empty) ∙ noise.1), raised)
        | inr kernel ↦
            let kind = kernel_of_row k (node_type_of t) kernel in
            (ms.0, inr (option-in_row k t ms.0 (subst (IsIn ms.0) (options-kernel k (node_type_of t) kind) ms.1)), raised)
      ]

  kernel-there : (k : ℕ) (t : Plain) (ms rs : List EdgeLabel) → HasTypes eq.types t →
      IsInKernelRow rule k (join ms (node_type_of t)) → IsRaised (root_of t) ms rs →
      (qs : List EdgeLabel) × IsIn qs (additions_at eq.types rule k t) × SameCounts qs rs
  kernel-there k t ms rs types h raised =
      let es = node_type_of t in
      let n = from_kernel_row eq rule equation is_rule k (join ms es) h in
      let rest : without (labels n.0) es ≡ Some (join ms []) =
      joins-without (labels n.0) es ms (node_labels_sorted eq rule equation is_rule k n.0 n.1) (node_type-sorted t) (sym n.2) in
      let part = (without-rest (labels n.0) es (join ms []) rest).part in
      let own = root_index eq.types t types in
      let lengths = all-part (HasLength (root_of t)) (join ms []) (labels n.0) part (all-lengths eq.types.dims (root_of t) n.0.edges own.entries (node_directions eq rule equation is_rule k n.0 n.1)) in
      let sorted = raised-sorted (root_of t) ms rs raised in
      let there = raising-there (root_of t) (join ms []) sorted.0 lengths sorted.1 in
      let option : IsIn (join ms []) (options_in (nodes_of_kernel rule.rows k) es) =
      in_flat_map (λ n. listed_option (without (labels n) es)) (join ms []) n.0 (nodes_of_kernel rule.rows k) n.1 (subst (λ o. IsIn (join ms []) (listed_option o)) (sym rest) (inl refl)) in
      let chosen = subst (IsIn (join ms [])) (sym (options-kernel k es (kernel_of_row k (join ms es) h))) option in
      (sorted.0, in_flat_map (raisings (root_of t)) sorted.0 (join ms []) (options eq.types rule k es) chosen there, sorted.2)

  addition-there : (k : ℕ) (t : Plain) (rs : List EdgeLabel) → HasTypes eq.types t →
      IsAddition eq.types rule k t rs →
      (qs : List EdgeLabel) × IsIn qs (additions_at eq.types rule k t) × SameCounts qs rs
  addition-there k t rs types h =
      elim h.1 [
        | inl noise ↦
            let none = raised-none (root_of t) h.0 rs (join-none h.0 (node_type_of t) noise.1) h.2 in
            let chosen = subst (IsIn []) (sym (options-noise k (node_type_of t) noise.0)) (inl refl) in
            ([], in_flat_map (raisings (root_of t)) [] [] (options eq.types rule k (node_type_of t)) chosen (inl refl), λ z. sym (ap (count z) none))
        | inr kernel ↦ kernel-there k t h.0 rs types kernel h.2
      ]

  pub above-is : (t : Plain) (rs : List EdgeLabel) → ConformsAbove eq.types rule t →
      IsIn rs (additions_above eq.types rule t) → AreAdditionsAbove eq.types rule t rs
  above-is (bare n) rs conforms h = elim h [ inl e ↦ sym e | inr none ↦ absurd none ]
  above-is (graft k p c t) rs conforms h =
      let first = from_sums (additions_at eq.types rule k c) (sums (additions_above eq.types rule c) (additions_above eq.types rule t)) rs h in
      let second = from_sums (additions_above eq.types rule c) (additions_above eq.types rule t) first.1 first.3 in
      (first.0, second.0, second.1, addition-is k c first.0 conforms.0 first.2, above-is c second.0 conforms.1 second.2, above-is t second.1 conforms.2 second.3, first.4 ∙ ap (join first.0) second.4)

  pub above-there : (t : Plain) (rs : List EdgeLabel) → HasTypes eq.types t → AreAdditionsAbove eq.types rule t rs → IsIn rs (additions_above eq.types rule t)
  above-there (bare n) rs types h = inl (sym h)
  above-there (graft k p c t) rs types h =
      let at = addition-there k c h.0 types.1 h.3 in
      let up = above-there c h.1 types.1 h.4 in
      let others = above-there t h.2 types.2 h.5 in
      let sorted = join-sorted h.1 h.2 (additions-sorted eq.types rule t h.2 h.5) in
      let same : join at.0 (join h.1 h.2) ≡ rs = same-joins at.0 h.0 (join h.1 h.2) sorted at.2 ∙ sym h.6 in
      subst (λ l. IsIn l (additions_above eq.types rule (graft k p c t))) same
      (in_sums (additions_at eq.types rule k c) (sums (additions_above eq.types rule c) (additions_above eq.types rule t)) at.0 (join h.1 h.2) at.1
      (in_sums (additions_above eq.types rule c) (additions_above eq.types rule t) h.1 h.2 up others))

  pub additions-are : (k : ℕ) (t : Plain) (rs : List EdgeLabel) → IsAllowedAbove eq.types rule k t →
      ConformsAbove eq.types rule t → IsIn rs (all_additions eq.types rule k t) →
      AreAdditions eq.types rule k t rs
  additions-are k t rs allowed conforms h =
      let first = from_sums (additions_at eq.types rule k t) (additions_above eq.types rule t) rs h in
      (first.0, first.1, addition-is k t first.0 allowed first.2, above-is t first.1 conforms first.3, first.4)

  pub additions-there : (k : ℕ) (t : Plain) (rs : List EdgeLabel) → HasTypes eq.types t →
      AreAdditions eq.types rule k t rs → IsIn rs (all_additions eq.types rule k t)
  additions-there k t rs types h =
      let at = addition-there k t h.0 types h.2 in
      let up = above-there t h.1 types h.3 in
      let same : join at.0 h.1 ≡ rs = same-joins at.0 h.0 h.1 (additions-sorted eq.types rule t h.1 h.3) at.2 ∙ sym h.4 in
      subst (λ l. IsIn l (all_additions eq.types rule k t)) same (in_sums (additions_at eq.types rule k t) (additions_above eq.types rule t) at.0 h.1 at.1 up)
