-- Decorations that fit.
use Rattle.std.proofs.Common.{◌≡◌, ℕ, zero, ◌+◌, ◌<◌, ◌≤◌, ℤ, ◌+ℤ◌, pos, List, [], ◌∷◌, ◌++◌, sum, set, length, get_or, Bool, true, false, ◌&&◌, not, inl, inr, suc, refl, subst, arith, FitsSigned, w64, All}
use Rattle.std.proofs.lemmas.Int.{ints}
use Rattle.std.proofs.lemmas.List.{append_assoc}
use Rattle.std.proofs.lemmas.List.Sums.{sum_by_from}
use Rattle.degree_numbers.specs.declared.types.Types.{Types}
use Rattle.degree_numbers.specs.declared.multi.Multi.{Multi}
use Rattle.degree_numbers.specs.Degree.{IsWithin}
use Rattle.degree_numbers.specs.Types.{AreTypes, size_in_units}
use Rattle.degree_numbers.specs.Degree.{degree_order}
use Rattle.degree_numbers.specs.declared.degree.Degree.{Degree}
use Rattle.std.specs.Ordering.{is_gt}
use Rattle.std.specs.declared.cmp.Ordering.{Ordering}
use Rattle.std.specs.declared.cmp.Ordering.TheVariants.{Less, Equal, Greater}
use Rattle.ordered_lists.specs.Members.{IsIn}
use Rattle.plain_trees.proofs.DegreeBounds.{size_most}
use Rattle.conforming_trees.specs.Budgets.{IsNotAbove}
use Rattle.tree_listing.specs.declared.roots.Room.{Room}
use Rattle.tree_listing.specs.Made.{one_if, is_not_above}
use Rattle.tree_listing.specs.Roots.{fits, with_entry, entries_below}

pub sum_cons : (x : ℕ) (xs : List ℕ) → sum (x ∷ xs) ≡ x + sum xs
sum_cons x xs = let all : sum (x ∷ xs) ≡ 0 + x + sum xs = sum_by_from (λ y. y) (0 + x) xs in omega (arith, all)

-- another entry
pub sum_set : (xs : List ℕ) (i v : ℕ) → sum (set xs i v) ≤ sum xs + v
sum_set [] i v = omega arith
sum_set (x ∷ xs) zero v = omega (arith, sum_cons v xs, sum_cons x xs)
sum_set (x ∷ xs) (suc i) v = omega (arith, sum_cons x (set xs i v), sum_cons x xs, sum_set xs i v)

pub root_fits : (ty : Types) (n : List ℕ) (z : ℤ) → AreTypes ty → sum n ≤ 128 → IsWithin z 100000000000 → FitsSigned w64 (pos (size_in_units ty n) +ℤ z)
root_fits ty n z h s w = let size = size_most ty n h (omega (arith, s)) in omega (arith, ints, size, w)

pub flat_fits : (z : ℤ) → IsWithin z 100000000000 → FitsSigned w64 (pos 0 +ℤ z)
flat_fits z w = omega (arith, ints, w)

pub ruleset root_facts = (root_fits, flat_fits)

-- members of a list by places
pub in_at : {X : Type 0} (xs : List X) (k : ℕ) (d : X) → k < length xs → IsIn (get_or xs k d) xs
in_at [] k d h = absurd (omega (arith, h))
in_at (x ∷ xs) zero d h = inl refl
in_at (x ∷ xs) (suc k) d h = inr (in_at xs k d (omega (arith, h)))

pub all_of_members : {X : Type 0} (P : X → Type 0) (xs : List X) → ((x : X) → IsIn x xs → P x) → All P xs
all_of_members P xs h = λ k d l. h (get_or xs k d) (in_at xs k d l)

pub from_one_if : {X : Type 0} (b : Bool) (x y : X) → IsIn y (one_if b x) → (b ≡ true) × (x ≡ y)
from_one_if true x y (inl e) = (refl, e)
from_one_if true x y (inr none) = absurd none
from_one_if false x y h = absurd h

pub in_one_if : {X : Type 0} (b : Bool) (x : X) → b ≡ true → IsIn x (one_if b x)
in_one_if true x h = inl refl
in_one_if false x h = absurd cc

-- tests and what they say
pub from_both : (a b : Bool) → (a && b) ≡ true → (a ≡ true) × (b ≡ true)
from_both true b h = (refl, h)
from_both false b h = absurd cc

pub both : (a b : Bool) → a ≡ true → b ≡ true → (a && b) ≡ true
both true b h k = k
both false b h k = absurd cc

not_gt : (o : Ordering) → not (is_gt o) ≡ true → o ≡ Greater → ⊥
not_gt Less h e = cc
not_gt Equal h e = cc
not_gt Greater h e = cc

is_not_gt : (o : Ordering) → (o ≡ Greater → ⊥) → not (is_gt o) ≡ true
is_not_gt Less h = refl
is_not_gt Equal h = refl
is_not_gt Greater h = absurd (h refl)

pub from_not_above : (d e : Degree) → is_not_above d e ≡ true → IsNotAbove d e
from_not_above d e h = not_gt (degree_order d e) h

pub not_above_test : (d e : Degree) → IsNotAbove d e → is_not_above d e ≡ true
not_above_test d e h = is_not_gt (degree_order d e) h

pub entries_step : (ty : Types) (room : Room) (i : ℕ) (n : Multi) (k : ℕ) (m : Multi) (base before after : List Multi) →
    before ≡ base ++ entries_below ty room i n k → m ≡ with_entry i k n →
    after ≡ before ++ one_if (fits ty room m) m →
    after ≡ base ++ entries_below ty room i n (k + 1)
entries_step ty room i n k m base before after is at new =
    let one : k + 1 ≡ suc k = omega arith in
    let last : after ≡ before ++ one_if (fits ty room (with_entry i k n)) (with_entry i k n) = subst (λ (x : Multi). after ≡ before ++ one_if (fits ty room x) x) at new in
    rw (one, last, is) (append_assoc base (entries_below ty room i n k) (one_if (fits ty room (with_entry i k n)) (with_entry i k n)))
