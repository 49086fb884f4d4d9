-- The sub-multisets of a list.
use Rattle.std.proofs.Common.{◌≡◌, List, [], ◌∷◌, ◌++◌, refl, ap, sym, ◌∙◌, subst, inl, inr, append_assoc, append-nil}
use Rattle.std.specs.Prelude.{fold}
use Rattle.ordered_lists.specs.Members.{IsIn}
use Rattle.ordered_lists.specs.Subs.{IsSubMultiset, with_last, sub_lists}
use Rattle.ordered_lists.proofs.Members.{in_append_left, in_append_right, from_append, in_map, from_map}

pub sub_skip : {X : Type 0} (ns xs : List X) (x : X) → IsSubMultiset ns xs → IsSubMultiset ns (x ∷ xs)
sub_skip [] xs x h = tt
sub_skip (n ∷ ns) xs x h = inr h

-- a list is a sub-multiset of itself
pub sub_refl : {X : Type 0} (xs : List X) → IsSubMultiset xs xs
sub_refl [] = tt
sub_refl (x ∷ xs) = inl (refl, sub_refl xs)

-- what leaves out the first of a sub-multiset is one
pub sub_tail : {X : Type 0} (n : X) (ns xs : List X) → IsSubMultiset (n ∷ ns) xs → IsSubMultiset ns xs
sub_tail n ns [] h = absurd h
sub_tail n ns (x ∷ xs) h = elim h [ inl taken ↦ sub_skip ns xs x taken.1 | inr left ↦ sub_skip ns xs x (sub_tail n ns xs left) ]

-- a sub-multiset of a sub-multiset is a sub-multiset
pub sub_trans : {X : Type 0} (ms ns xs : List X) → IsSubMultiset ms ns → IsSubMultiset ns xs → IsSubMultiset ms xs
sub_trans [] ns xs h k = tt
sub_trans (m ∷ ms) [] xs h k = absurd h
sub_trans (m ∷ ms) (n ∷ ns) [] h k = absurd k
sub_trans (m ∷ ms) (n ∷ ns) (x ∷ xs) h k =
    elim k [
      | inl same ↦ elim h [ inl taken ↦ inl (same.0 ∙ taken.0, sub_trans ms ns xs taken.1 same.1) | inr left ↦ inr (sub_trans (m ∷ ms) ns xs left same.1) ]
      | inr later ↦ inr (sub_trans (m ∷ ms) (n ∷ ns) xs h later)
    ]

-- members of a sub-multiset are members
pub sub_member : {X : Type 0} (n : X) (ns xs : List X) → IsSubMultiset ns xs → IsIn n ns → IsIn n xs
sub_member n [] xs h k = absurd k
sub_member n (m ∷ ns) [] h k = absurd h
sub_member n (m ∷ ns) (x ∷ xs) h k =
    elim h [
      | inl taken ↦ elim k [ inl e ↦ inl (taken.0 ∙ e) | inr r ↦ inr (sub_member n ns xs taken.1 r) ]
      | inr left ↦ inr (sub_member n (m ∷ ns) xs left k)
    ]

abbrev grow : {X : Type 0} → List (List X) → X → List (List X)
grow all x = all ++ with_last x all

-- each list of the growing lists, with some of the members still to come
in_grown : {X : Type 0} (all : List (List X)) (xs m ns : List X) → IsIn m all → IsSubMultiset ns xs → IsIn (m ++ ns) (fold grow all xs)
in_grown all [] m [] h k = subst (λ n. IsIn n all) (sym (append-nil m)) h
in_grown all [] m (n ∷ ns) h k = absurd k
in_grown all (x ∷ xs) m [] h k = in_grown (grow all x) xs m [] (in_append_left m all (with_last x all) h) tt
in_grown all (x ∷ xs) m (n ∷ ns) h k =
    elim k [
      | inl taken ↦ subst (λ l. IsIn l (fold grow (grow all x) xs)) (append_assoc m (x ∷ []) ns ∙ ap (λ y. m ++ y ∷ ns) taken.0)
          (in_grown (grow all x) xs (m ++ x ∷ []) ns (in_append_right (m ++ x ∷ []) all (with_last x all) (in_map (λ l. l ++ x ∷ []) m all h)) taken.1)
      | inr left ↦ in_grown (grow all x) xs m (n ∷ ns) (in_append_left m all (with_last x all) h) left
    ]

from_grown : {X : Type 0} (all : List (List X)) (xs n : List X) → IsIn n (fold grow all xs) →
    (m : List X) × (s : List X) × IsIn m all × IsSubMultiset s xs × (m ++ s ≡ n)
from_grown all [] n h = (n, [], h, tt, append-nil n)
from_grown all (x ∷ xs) n h =
    let r = from_grown (grow all x) xs n h in
    elim (from_append r.0 all (with_last x all) r.2) [
      | inl old ↦ (r.0, r.1, old, sub_skip r.1 xs x r.3, r.4)
      | inr new ↦ let w = from_map (λ l. l ++ x ∷ []) r.0 all new in (w.0, x ∷ r.1, w.1, inl (refl, r.3), sym (append_assoc w.0 (x ∷ []) r.1) ∙ ap (λ y. y ++ r.1) w.2 ∙ r.4)
    ]

-- the sub-multisets are the members of `sub_lists`
pub in_sub_lists : {X : Type 0} (xs ns : List X) → IsSubMultiset ns xs → IsIn ns (sub_lists xs)
in_sub_lists xs ns h = in_grown ([] ∷ []) xs [] ns (inl refl) h

pub from_sub_lists : {X : Type 0} (xs ns : List X) → IsIn ns (sub_lists xs) → IsSubMultiset ns xs
from_sub_lists xs ns h =
    let r = from_grown ([] ∷ []) xs ns h in
    elim r.2 [ inl e ↦ subst (λ k. IsSubMultiset k xs) (ap (λ m. m ++ r.1) e ∙ r.4) r.3 | inr none ↦ absurd none ]
