-- Members of joined, mapped and flattened lists, and of what holds of all.
use Rattle.std.proofs.Common.{◌≡◌, ℕ, ◌<◌, suc, zero, List, [], ◌∷◌, ◌++◌, length, map, get_or, refl, ap, sym, subst, inl, inr, ◌⊎◌, arith}
use Rattle.std.specs.List.{flat_map, All}
use Rattle.std.proofs.lemmas.List.Elements.{All-cons, All-nil, All-tail}
use Rattle.ordered_lists.specs.Members.{IsIn}

pub in_append_left : {X : Type 0} (n : X) (xs ys : List X) → IsIn n xs → IsIn n (xs ++ ys)
in_append_left n [] ys h = absurd h
in_append_left n (x ∷ xs) ys h = elim h [ inl e ↦ inl e | inr r ↦ inr (in_append_left n xs ys r) ]

pub in_append_right : {X : Type 0} (n : X) (xs ys : List X) → IsIn n ys → IsIn n (xs ++ ys)
in_append_right n [] ys h = h
in_append_right n (x ∷ xs) ys h = inr (in_append_right n xs ys h)

pub from_append : {X : Type 0} (n : X) (xs ys : List X) → IsIn n (xs ++ ys) → IsIn n xs ⊎ IsIn n ys
from_append n [] ys h = inr h
from_append n (x ∷ xs) ys h =
    elim h [ inl e ↦ inl (inl e) | inr r ↦ elim (from_append n xs ys r) [ inl a ↦ inl (inr a) | inr b ↦ inr b ] ]

pub in_map : {X Y : Type 0} (f : X → Y) (n : X) (xs : List X) → IsIn n xs → IsIn (f n) (map f xs)
in_map f n [] h = absurd h
in_map f n (x ∷ xs) h = elim h [ inl e ↦ inl (ap f e) | inr r ↦ inr (in_map f n xs r) ]

pub from_map : {X Y : Type 0} (f : X → Y) (m : Y) (xs : List X) → IsIn m (map f xs) → (n : X) × IsIn n xs × (f n ≡ m)
from_map f m [] h = absurd h
from_map f m (x ∷ xs) h =
    elim h [ inl e ↦ (x, inl refl, e) | inr r ↦ let s = from_map f m xs r in (s.0, inr s.1, s.2) ]

pub in_flat_map : {X Y : Type 0} (f : X → List Y) (n : Y) (x : X) (xs : List X) → IsIn x xs → IsIn n (f x) → IsIn n (flat_map f xs)
in_flat_map f n x [] h k = absurd h
in_flat_map f n x (y ∷ ys) h k =
    elim h [ inl e ↦ in_append_left n (f y) (flat_map f ys) (subst (λ z. IsIn n (f z)) (sym e) k) | inr r ↦ in_append_right n (f y) (flat_map f ys) (in_flat_map f n x ys r k) ]

pub from_flat_map : {X Y : Type 0} (f : X → List Y) (n : Y) (xs : List X) → IsIn n (flat_map f xs) → (x : X) × IsIn x xs × IsIn n (f x)
from_flat_map f n [] h = absurd h
from_flat_map f n (x ∷ xs) h =
    elim (from_append n (f x) (flat_map f xs) h) [ inl a ↦ (x, inl refl, a) | inr b ↦ let s = from_flat_map f n xs b in (s.0, inr s.1, s.2) ]

-- what holds of each element holds of a member, and the other way round
pub all_at : {X : Type 0} (P : X → Type 0) (xs : List X) (n : X) → All P xs → IsIn n xs → P n
all_at P [] n a h = absurd h
all_at P (x ∷ xs) n a h = elim h [ inl e ↦ subst P e (a 0 x (omega arith)) | inr r ↦ all_at P xs n (All-tail P x xs a) r ]

pub all_from_members : {X : Type 0} (P : X → Type 0) (xs : List X) → ((x : X) → IsIn x xs → P x) → All P xs
all_from_members P [] h = All-nil P
all_from_members P (x ∷ xs) h = All-cons P x xs (h x (inl refl)) (all_from_members P xs (λ y m. h y (inr m)))

pub member_at : {X : Type 0} (xs : List X) (i : ℕ) (x : X) → i < length xs → x ≡ get_or xs i x → IsIn x xs
member_at [] i x lt is = absurd (omega arith)
member_at (y ∷ ys) zero x lt is = inl (sym is)
member_at (y ∷ ys) (suc i) x lt is = inr (member_at ys i x (omega arith) is)
