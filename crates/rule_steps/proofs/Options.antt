-- The edge types that can be added to others, as they are found.
use Rattle.std.proofs.Common.{◌≡◌, ◌+◌, true, false, Bool, cond, List, [], ◌∷◌, refl, sym, ap, ◌∙◌, subst, arith, inl, inr, Some, None, Option, Ordering, Less, Equal, Greater}
use Rattle.std.specs.Option.{option_map}
use Rattle.std.specs.Ordering.{is_eq, ordering_reverse}
use Rattle.ordered_lists.specs.Subs.{IsSubMultiset}
use Rattle.ordered_lists.proofs.Subs.{sub_tail}
use Rattle.conforming_trees.specs.Conforming.{EdgeLabel, edge_label_order}
use Rattle.conforming_trees.proofs.Labels.{edge_label_total, edge_label_exact, IsInLabelOrder, count, same_labels, part_of_labels, part-sorted}
use Rattle.rule_stages.specs.Stages.{join}
use Rattle.rule_stages.proofs.Joins.{count-join, join-sorted, join-nil-sorted}
use Rattle.rule_steps.specs.Sums.{without}

is_equal : (e f : EdgeLabel) → is_eq (edge_label_order e f) ≡ true → e ≡ f
is_equal e f h = edge_label_exact e f (equal (edge_label_order e f) h)
  where
    equal : (o : Ordering) → is_eq o ≡ true → o ≡ Equal
    equal Less k = absurd cc
    equal Equal k = refl
    equal Greater k = absurd cc

own : (e : EdgeLabel) → is_eq (edge_label_order e e) ≡ true
own e = go (edge_label_order e e) (edge_label_total.antisymm e e)
  where
    go : (o : Ordering) → o ≡ ordering_reverse o → is_eq o ≡ true
    go Less h = absurd cc
    go Equal h = refl
    go Greater h = absurd cc

-- what is left, as often as it stands there
abbrev pub Counts : List EdgeLabel → List EdgeLabel → List EdgeLabel → Type 0
Counts es fs ms = (z : EdgeLabel) → count z es ≡ count z ms + count z fs

counts-taken : (e f : EdgeLabel) (es fs ms : List EdgeLabel) → e ≡ f → Counts es fs ms → Counts (e ∷ es) (f ∷ fs) ms
counts-taken e f es fs ms same h z = let one = ap (λ x. count z (x ∷ [])) same in omega (arith, h z, one)

counts-left : (e : EdgeLabel) (es fs ms : List EdgeLabel) → Counts es fs ms → Counts (e ∷ es) fs (e ∷ ms)
counts-left e es fs ms h z = omega (arith, h z)

-- what `without` gives is a part that has the rest
pub record IsRest (es fs ms : List EdgeLabel) : Type 0 where
  pub counts : Counts es fs ms
  pub part : IsSubMultiset ms es

sub-self : (es : List EdgeLabel) → IsSubMultiset es es
sub-self [] = tt
sub-self (e ∷ es) = inl (refl, sub-self es)

skip : (ms es : List EdgeLabel) (e : EdgeLabel) → IsSubMultiset ms es → IsSubMultiset ms (e ∷ es)
skip [] es e h = tt
skip (m ∷ ms) es e h = inr h

pub without-rest : (es fs ms : List EdgeLabel) → without es fs ≡ Some ms → IsRest es fs ms
without-rest es [] ms h =
    let same : es ≡ ms = cc in
    subst (IsRest es []) same record { counts = λ z. omega arith; part = sub-self es }
without-rest [] (f ∷ fs) ms h = absurd cc
without-rest (e ∷ es) (f ∷ fs) ms h = at (is_eq (edge_label_order e f)) refl (without es (f ∷ fs)) refl h (without-rest es fs ms) (λ ns. without-rest es (f ∷ fs) ns)
  where
    at : (b : Bool) → is_eq (edge_label_order e f) ≡ b → (o : Option (List EdgeLabel)) → without es (f ∷ fs) ≡ o → cond b (without es fs) (option_map (λ ns. e ∷ ns) o) ≡ Some ms →
        (without es fs ≡ Some ms → IsRest es fs ms) → ((ns : List EdgeLabel) → without es (f ∷ fs) ≡ Some ns → IsRest es (f ∷ fs) ns) → IsRest (e ∷ es) (f ∷ fs) ms
    at true q o p k taken left =
        let rest = taken k in
        record { counts = counts-taken e f es fs ms (is_equal e f q) rest.counts; part = skip ms es e rest.part }
    at false q None p k taken left = absurd cc
    at false q (Some ns) p k taken left =
        let same : e ∷ ns ≡ ms = cc in
        let rest = left ns p in
        subst (IsRest (e ∷ es) (f ∷ fs)) same record { counts = counts-left e es (f ∷ fs) ns rest.counts; part = inl (refl, rest.part) }

pub without-there : (es fs : List EdgeLabel) → IsSubMultiset fs es → (ms : List EdgeLabel) × (without es fs ≡ Some ms)
without-there es [] h = (es, refl)
without-there [] (f ∷ fs) h = absurd h
without-there (e ∷ es) (f ∷ fs) h = at (is_eq (edge_label_order e f)) refl h (λ k. without-there es fs k) (λ k. without-there es (f ∷ fs) k)
  where
    at : (b : Bool) → is_eq (edge_label_order e f) ≡ b → IsSubMultiset (f ∷ fs) (e ∷ es) → (IsSubMultiset fs es → (ms : List EdgeLabel) × (without es fs ≡ Some ms)) → (IsSubMultiset (f ∷ fs) es → (ms : List EdgeLabel) × (without es (f ∷ fs) ≡ Some ms)) →
        (ms : List EdgeLabel) × (cond b (without es fs) (option_map (λ ns. e ∷ ns) (without es (f ∷ fs))) ≡ Some ms)
    at true q k taken left = taken (elim k [ inl both ↦ both.1 | inr later ↦ sub_tail f fs es later ])
    at false q k taken left =
        elim k [
          | inl both ↦ absurd (let other : is_eq (edge_label_order e f) ≡ true = subst (λ x. is_eq (edge_label_order e x) ≡ true) both.0 (own e) in let clash : true ≡ false = sym other ∙ q in cc)
          | inr later ↦ let rest = left later in (e ∷ rest.0, ap (option_map (λ ns. e ∷ ns)) rest.1)
        ]

-- what can be added to a node type so that it is a given one
pub without-joins : (es fs ms : List EdgeLabel) → IsInLabelOrder es → IsInLabelOrder fs → without es fs ≡ Some ms → join ms fs ≡ es
without-joins es fs ms h k q =
    let rest = without-rest es fs ms q in
    same_labels (join ms fs) es (join-sorted ms fs k) h (λ z. omega (arith, count-join z ms fs, rest.counts z))

pub joins-without : (es fs ms : List EdgeLabel) → IsInLabelOrder es → IsInLabelOrder fs → join ms fs ≡ es → without es fs ≡ Some (join ms [])
joins-without es fs ms h k q =
    let here : (z : EdgeLabel) → count z es ≡ count z ms + count z fs = λ z. sym (ap (count z) q) ∙ count-join z ms fs in
    let there = without-there es fs (part_of_labels fs es k h (λ z. omega (arith, here z))) in
    let rest = without-rest es fs there.0 there.1 in
    let same : there.0 ≡ join ms [] =
    same_labels there.0 (join ms []) (part-sorted there.0 es rest.part h) (join-nil-sorted ms) (λ z. omega (arith, rest.counts z, here z, count-join z ms [])) in
    there.1 ∙ ap Some same
