-- A part of what is made of a tree is made of it as well.
use Rattle.std.proofs.Common.{◌≡◌, ℕ, List, [], ◌∷◌, refl, sym, ap, ◌∙◌, subst, inl, inr, ◌⊎◌}
use Rattle.degree_numbers.specs.declared.types.Types.{Types}
use Rattle.degree_numbers.specs.Multi.{plus_of}
use Rattle.equations.specs.declared.equation.Equation.{Equation}
use Rattle.ordered_lists.specs.Subs.{IsSubMultiset}
use Rattle.ordered_lists.proofs.Subs.{sub_skip, sub_refl}
use Rattle.plain_trees.specs.Plain.{Plain, bare, graft, root_of}
use Rattle.normal_rule.specs.declared.rule.Rule.{Rule}
use Rattle.tree_cuttings.proofs.Multinomials.{plus_assoc, plus_comm}
use Rattle.conforming_trees.specs.Conforming.{EdgeLabel, node_type_of, IsInKernelRow, IsInRule, IsRule}
use Rattle.conforming_trees.proofs.Labels.{IsInLabelOrder, node_type-sorted}
use Rattle.rule_stages.specs.Stages.{join, IsRaised, IsAddition, AreAdditionsAbove, AreAdditions, IsMade, IsNextStage}
use Rattle.rule_stages.proofs.Joins.{join-sorted, join-part, part_of_join}
use Rattle.rule_stages.proofs.Next.{row_closed}

pub raised-more : (shift n : List ℕ) (ms rs : List EdgeLabel) → IsRaised n ms rs → IsRaised (plus_of shift n) ms rs
raised-more shift n [] [] h = tt
raised-more shift n [] (r ∷ rs) h = absurd h
raised-more shift n (m ∷ ms) [] h = absurd h
raised-more shift n (m ∷ ms) (r ∷ rs) h =
    let parted : plus_of shift n ≡ plus_of h.0 (plus_of shift h.1) =
    ap (plus_of shift) h.2 ∙ sym (plus_assoc shift h.0 h.1) ∙ ap (λ x. plus_of x h.1) (plus_comm shift h.0) ∙ plus_assoc h.0 shift h.1 in
    (h.0, plus_of shift h.1, parted, h.3, h.4, raised-more shift h.1 ms rs h.5)

pub raised-part : (n : List ℕ) (ms rs ds : List EdgeLabel) → IsRaised n ms rs →
    IsSubMultiset ds rs → (cs : List EdgeLabel) × IsSubMultiset cs ms × IsRaised n cs ds
raised-part n ms rs [] h sub = ([], tt, tt)
raised-part n [] [] (d ∷ ds) h sub = absurd sub
raised-part n [] (r ∷ rs) (d ∷ ds) h sub = absurd h
raised-part n (m ∷ ms) [] (d ∷ ds) h sub = absurd sub
raised-part n (m ∷ ms) (r ∷ rs) (d ∷ ds) h sub =
    elim sub [
      | inl taken ↦
          let rest = raised-part h.1 ms rs ds h.5 taken.1 in
          (m ∷ rest.0, inl (refl, rest.1), (h.0, h.1, h.2, ap (λ (e : EdgeLabel). e.0) (sym taken.0) ∙ h.3, ap (λ (e : EdgeLabel). e.1) (sym taken.0) ∙ h.4, rest.2))
      | inr left ↦
          let rest = raised-part h.1 ms rs (d ∷ ds) h.5 left in
          (rest.0, sub_skip rest.0 ms m rest.1, subst (λ (l : List ℕ). IsRaised l rest.0 (d ∷ ds)) (sym h.2) (raised-more h.0 h.1 rest.0 (d ∷ ds) rest.2))
    ]

nothing : (ds : List EdgeLabel) → IsSubMultiset ds [] → ds ≡ []
nothing [] h = refl
nothing (d ∷ ds) h = absurd h

pub in_rule-part : (eq : Equation) (rule : Rule) (k : ℕ) (ds es : List EdgeLabel) → IsRule eq rule →
    IsInRule eq.types rule k es → IsSubMultiset ds es → IsInRule eq.types rule k ds
in_rule-part eq rule k ds es h allowed sub =
    elim allowed [
      | inl noise ↦ inl (noise.0, nothing ds (subst (IsSubMultiset ds) noise.1 sub))
      | inr kernel ↦ inr (row_closed eq rule k ds es h kernel sub)
    ]

addition-part : (eq : Equation) (rule : Rule) (k : ℕ) (t : Plain) (ds rs : List EdgeLabel) →
    IsRule eq rule → IsAddition eq.types rule k t rs → IsSubMultiset ds rs →
    IsAddition eq.types rule k t ds
addition-part eq rule k t ds rs h has sub =
    let part = raised-part (root_of t) has.0 rs ds has.2 sub in
    let sorted = node_type-sorted t in
    let below = join-part part.0 has.0 (node_type_of t) (node_type_of t) sorted sorted part.1 (sub_refl (node_type_of t)) in
    (part.0, in_rule-part eq rule k (join part.0 (node_type_of t)) (join has.0 (node_type_of t)) h has.1 below, part.2)

pub additions-sorted : (ty : Types) (rule : Rule) (t : Plain) (rs : List EdgeLabel) → AreAdditionsAbove ty rule t rs → IsInLabelOrder rs
additions-sorted ty rule (bare n) rs h = subst IsInLabelOrder (sym h) (node_type-sorted (bare n))
additions-sorted ty rule (graft k p c t) rs h =
    subst IsInLabelOrder (sym h.6) (join-sorted h.0 (join h.1 h.2) (join-sorted h.1 h.2 (additions-sorted ty rule t h.2 h.5)))

above-part : (eq : Equation) (rule : Rule) (t : Plain) (ds rs : List EdgeLabel) → IsRule eq rule →
    AreAdditionsAbove eq.types rule t rs → IsSubMultiset ds rs →
    AreAdditionsAbove eq.types rule t ds
above-part eq rule (bare n) ds rs h has sub = nothing ds (subst (IsSubMultiset ds) has sub)
above-part eq rule (graft k p c t) ds rs h has sub =
    let others = additions-sorted eq.types rule t has.2 has.5 in
    let first = part_of_join has.0 (join has.1 has.2) ds (join-sorted has.1 has.2 others) (subst (IsSubMultiset ds) has.6 sub) in
    let second = part_of_join has.1 has.2 first.1 others first.3 in
    (first.0, second.0, second.1, addition-part eq rule k c first.0 has.0 h has.3 first.2, above-part eq rule c second.0 has.1 h has.4 second.2, above-part eq rule t second.1 has.2 h has.5 second.3, first.4 ∙ ap (join first.0) second.4)

pub additions-part : (eq : Equation) (rule : Rule) (k : ℕ) (t : Plain) (ds rs : List EdgeLabel) →
    IsRule eq rule → AreAdditions eq.types rule k t rs → IsSubMultiset ds rs →
    AreAdditions eq.types rule k t ds
additions-part eq rule k t ds rs h has sub =
    let split = part_of_join has.0 has.1 ds (additions-sorted eq.types rule t has.1 has.3) (subst (IsSubMultiset ds) has.4 sub) in
    (split.0, split.1, addition-part eq rule k t split.0 has.0 h has.2 split.2, above-part eq rule t split.1 has.1 h has.3 split.3, split.4)

pub made-part : (eq : Equation) (rule : Rule) (k : ℕ) (ds rs : List EdgeLabel) → IsRule eq rule →
    IsMade eq rule k rs → IsSubMultiset ds rs → IsMade eq rule k ds
made-part eq rule k ds rs h made sub = record { tree = made.tree; listed = made.listed; kernel = made.kernel; additions = additions-part eq rule k made.tree ds rs h made.additions sub }

pub next_parts : (eq : Equation) (rule next : Rule) (k : ℕ) (es : List EdgeLabel) → IsRule eq rule →
    IsNextStage eq rule next → IsInKernelRow next k es →
    IsInKernelRow rule k es ⊎ IsMade eq rule k es
next_parts eq rule next k es is_rule h has = elim (h.sound k es has) [ inl old ↦ inl old | inr new ↦ inr (made-part eq rule k es new.0 is_rule new.1 new.2) ]
