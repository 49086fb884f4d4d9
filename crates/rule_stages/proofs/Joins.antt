-- Edge types of two lists together.
use Rattle.std.proofs.Common.{◌≡◌, ◌+◌, true, false, Bool, List, [], ◌∷◌, refl, sym, ap, ◌∙◌, arith, inl, inr, ◌⊎◌, Ordering, Less, Equal, Greater, is_lt}
use Rattle.std.specs.Ordering.{ordering_reverse, is_gt}
use Rattle.ordered_lists.specs.Subs.{IsSubMultiset}
use Rattle.ordered_lists.proofs.Subs.{sub_skip}
use Rattle.ordered_lists.proofs.Counts.{sub_counts}
use Rattle.ordered_lists.proofs.Unique.{sorted-rest, sorted-next}
use Rattle.conforming_trees.specs.Conforming.{EdgeLabel, edge_label_order, put_label}
use Rattle.conforming_trees.proofs.Labels.{edge_label_total, IsInLabelOrder, count, count-put, put-sorted, part_of_labels, part-sorted}
use Rattle.rule_stages.specs.Stages.{join}

pub count-join : (z : EdgeLabel) (es fs : List EdgeLabel) → count z (join es fs) ≡ count z es + count z fs
count-join z [] fs = omega arith
count-join z (e ∷ es) fs = count-put z e (join es fs) ∙ (omega (arith, count-join z es fs))

pub join-sorted : (es fs : List EdgeLabel) → IsInLabelOrder fs → IsInLabelOrder (join es fs)
join-sorted [] fs h = h
join-sorted (e ∷ es) fs h = put-sorted e (join es fs) (join-sorted es fs h)

pub join-nil-sorted : (es : List EdgeLabel) → IsInLabelOrder (join es [])
join-nil-sorted es = join-sorted es [] (λ k d l m. absurd (omega arith))

pub join-part : (es fs gs hs : List EdgeLabel) → IsInLabelOrder gs → IsInLabelOrder hs →
    IsSubMultiset es fs → IsSubMultiset gs hs → IsSubMultiset (join es gs) (join fs hs)
join-part es fs gs hs g h sub part =
    part_of_labels (join es gs) (join fs hs) (join-sorted es gs g) (join-sorted fs hs h)
    (λ z. omega (arith, count-join z es gs, count-join z fs hs, sub_counts edge_label_order es fs sub z, sub_counts edge_label_order gs hs part z))

-- a part of a list into which an edge type was put
abbrev PartOfPut : EdgeLabel → List EdgeLabel → List EdgeLabel → Type 0
PartOfPut e es fs = IsSubMultiset es fs ⊎ ((part : List EdgeLabel) × IsSubMultiset part fs × (es ≡ put_label e part))

not_above : (e f : EdgeLabel) → is_lt (edge_label_order f e) ≡ false → is_gt (edge_label_order e f) ≡ false
not_above e f h = go (edge_label_order f e) (edge_label_order e f) (edge_label_total.antisymm e f) h
  where
    go : (a b : Ordering) → b ≡ ordering_reverse a → is_lt a ≡ false → is_gt b ≡ false
    go Less b k l = absurd cc
    go Equal b k l = rw k refl
    go Greater b k l = rw k refl

-- put in front of what it is not above
front : (e : EdgeLabel) (es : List EdgeLabel) → IsInLabelOrder (e ∷ es) → put_label e es ≡ e ∷ es
front e [] h = refl
front e (f ∷ fs) h = let first = not_above e f (sorted-next edge_label_order edge_label_total e f fs h) in rw first refl

part_of_put-pass : (e f : EdgeLabel) (es fs : List EdgeLabel) →
    is_gt (edge_label_order e f) ≡ true →
    ((ds : List EdgeLabel) → IsSubMultiset ds (put_label e fs) → PartOfPut e ds fs) →
    IsSubMultiset es (f ∷ put_label e fs) → PartOfPut e es (f ∷ fs)
part_of_put-pass e f [] fs gt ih h = inl tt
part_of_put-pass e f (x ∷ xs) fs gt ih h =
    elim h [
      | inl taken ↦
          elim (ih xs taken.1) [
            | inl old ↦ inl (inl (taken.0, old))
            | inr new ↦
                let whole : f ∷ xs ≡ put_label e (f ∷ new.0) = rw gt (ap (λ (l : List EdgeLabel). f ∷ l) new.2) in
                inr (f ∷ new.0, inl (refl, new.1), ap (λ (y : EdgeLabel). y ∷ xs) (sym taken.0) ∙ whole)
          ]
      | inr left ↦
          elim (ih (x ∷ xs) left) [
            | inl old ↦ inl (inr old)
            | inr new ↦ inr (new.0, sub_skip new.0 fs f new.1, new.2)
          ]
    ]

part_of_put-stop : (e f : EdgeLabel) (es fs : List EdgeLabel) → IsInLabelOrder (e ∷ f ∷ fs) → IsSubMultiset es (e ∷ f ∷ fs) → PartOfPut e es (f ∷ fs)
part_of_put-stop e f [] fs s h = inl tt
part_of_put-stop e f (x ∷ xs) fs s h =
    elim h [
      | inl taken ↦
          let sorted : IsInLabelOrder (e ∷ xs) = part-sorted (e ∷ xs) (e ∷ f ∷ fs) (inl (refl, taken.1)) s in
          inr (xs, taken.1, ap (λ (y : EdgeLabel). y ∷ xs) (sym taken.0) ∙ sym (front e xs sorted))
      | inr left ↦ inl left
    ]

part_of_put-at : (e f : EdgeLabel) (es fs : List EdgeLabel) (a : Bool) →
    is_gt (edge_label_order e f) ≡ a → IsInLabelOrder (f ∷ fs) →
    ((ds : List EdgeLabel) → IsSubMultiset ds (put_label e fs) → PartOfPut e ds fs) →
    IsSubMultiset es (put_label e (f ∷ fs)) → PartOfPut e es (f ∷ fs)
part_of_put-at e f es fs true gt s ih h = part_of_put-pass e f es fs gt ih (rw gt at h)
part_of_put-at e f es fs false gt s ih h =
    let sorted : IsInLabelOrder (put_label e (f ∷ fs)) = put-sorted e (f ∷ fs) s in
    part_of_put-stop e f es fs (rw gt at sorted) (rw gt at h)

part_of_put : (e : EdgeLabel) (es fs : List EdgeLabel) → IsInLabelOrder fs → IsSubMultiset es (put_label e fs) → PartOfPut e es fs
part_of_put e [] fs s h = inl tt
part_of_put e (x ∷ xs) [] s h =
    elim h [
      | inl taken ↦ inr ([], tt, ap (λ (y : EdgeLabel). y ∷ xs) (sym taken.0) ∙ ap (λ (l : List EdgeLabel). e ∷ l) (nothing xs taken.1))
      | inr left ↦ absurd left
    ]
  where
    nothing : (xs : List EdgeLabel) → IsSubMultiset xs [] → xs ≡ []
    nothing [] h = refl
    nothing (x ∷ xs) h = absurd h
part_of_put e (x ∷ xs) (f ∷ fs) s h =
    part_of_put-at e f (x ∷ xs) fs (is_gt (edge_label_order e f)) refl s (λ ds k. part_of_put e ds fs (sorted-rest edge_label_order edge_label_total f fs s) k) h

-- a part of two lists together is a part of the one with a part of the other
pub part_of_join : (xs bs es : List EdgeLabel) → IsInLabelOrder bs → IsSubMultiset es (join xs bs) →
    (cs ds : List EdgeLabel) × IsSubMultiset cs xs × IsSubMultiset ds bs × (es ≡ join cs ds)
part_of_join [] bs es s h = ([], es, tt, h, refl)
part_of_join (a ∷ xs) bs es s h =
    elim (part_of_put a es (join xs bs) (join-sorted xs bs s) h) [
      | inl old ↦
          let rest = part_of_join xs bs es s old in
          (rest.0, rest.1, sub_skip rest.0 xs a rest.2, rest.3, rest.4)
      | inr new ↦
          let rest = part_of_join xs bs new.0 s new.1 in
          (a ∷ rest.0, rest.1, inl (refl, rest.2), rest.3, new.2 ∙ ap (put_label a) rest.4)
    ]

-- a list into which an edge type was put is not empty
pub put-some : (e : EdgeLabel) (es : List EdgeLabel) → put_label e es ≡ [] → ⊥
put-some e [] h = absurd cc
put-some e (f ∷ fs) h = go (is_gt (edge_label_order e f)) refl h
  where
    go : (a : Bool) → is_gt (edge_label_order e f) ≡ a → put_label e (f ∷ fs) ≡ [] → ⊥
    go true q k = absurd (let m : f ∷ put_label e fs ≡ [] = sym (rw q refl) ∙ k in cc)
    go false q k = absurd (let m : e ∷ f ∷ fs ≡ [] = sym (rw q refl) ∙ k in cc)
