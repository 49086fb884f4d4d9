-- Members of lists, their places, and tests.
use Rattle.std.proofs.Common.{◌≡◌, ℕ, zero, suc, ◌<◌, ◌≤◌, ◌==◌, ◌⊎◌, Bool, true, false, not, nat_le, if◌then◌else◌, List, [], ◌∷◌, map, length, Some, refl, sym, ap, ◌∙◌, arith, inl, inr}
use Rattle.std.specs.Prelude.{slice_get}
use Rattle.std.proofs.lemmas.Bool.Decides.{nat_tests}
use Rattle.ordered_lists.specs.Members.{IsIn}
use Rattle.std.specs.Option.{option_map}
use Rattle.degree_numbers.specs.declared.types.Types.{Types}
use Rattle.degree_numbers.specs.declared.types.TypeEntry.{TypeEntry}
use Rattle.degree_numbers.specs.declared.types.Kind.{Kind}
use Rattle.degree_numbers.specs.declared.types.Kind.TheVariants.{Noise, Kernel}
use Rattle.degree_numbers.specs.Types.{kind_of}
use Rattle.plain_trees.specs.Degree.{is_kernel, is_kernel_kind}
use Rattle.normal_rule.specs.declared.EdgeType.{EdgeType}
use Rattle.plain_trees.specs.Plain.{Plain, bare, graft}
use Rattle.plain_trees.specs.Canon.{IsAtMostFirst}
use Rattle.conforming_trees.specs.Conforming.{EdgeLabel, label}
use Rattle.tree_listing.specs.Made.{is_at_most_first}

pub place_of : {X : Type 0} (x : X) (xs : List X) → IsIn x xs → (i : ℕ) × (slice_get xs i ≡ Some x)
place_of x [] h = absurd h
place_of x (y ∷ xs) (inl e) = (0, ap Some e)
place_of x (y ∷ xs) (inr h) = let at = place_of x xs h in (suc at.0, at.1)

pub member_of : {X : Type 0} (xs : List X) (i : ℕ) (x : X) → slice_get xs i ≡ Some x → IsIn x xs
member_of [] i x h = absurd cc
member_of (y ∷ xs) zero x h = inl cc
member_of (y ∷ xs) (suc i) x h = inr (member_of xs i x h)

pub some_of : {X : Type 0} (xs : List X) (i : ℕ) → i < length xs → (x : X) × (slice_get xs i ≡ Some x)
some_of [] i h = absurd (omega (arith, h))
some_of (x ∷ xs) zero h = (x, refl)
some_of (x ∷ xs) (suc i) h = some_of xs i (omega (arith, h))

pub below_of : {X : Type 0} (xs : List X) (i : ℕ) (x : X) → slice_get xs i ≡ Some x → i < length xs
below_of [] i x h = absurd cc
below_of (y ∷ xs) zero x h = omega arith
below_of (y ∷ xs) (suc i) x h = omega (arith, below_of xs i x h)

pub from_if : {X : Type 0} (b : Bool) (x : X) (xs ys : List X) → IsIn x (if b then xs else ys) → ((b ≡ true) × IsIn x xs) ⊎ ((b ≡ false) × IsIn x ys)
from_if true x xs ys h = inl (refl, h)
from_if false x xs ys h = inr (refl, h)

pub in_then : {X : Type 0} (b : Bool) (x : X) (xs ys : List X) → b ≡ true → IsIn x xs → IsIn x (if b then xs else ys)
in_then true x xs ys e h = h
in_then false x xs ys e h = absurd cc

pub in_else : {X : Type 0} (b : Bool) (x : X) (xs ys : List X) → b ≡ false → IsIn x ys → IsIn x (if b then xs else ys)
in_else true x xs ys e h = absurd cc
in_else false x xs ys e h = h

pub same_number : (a b : ℕ) → (a == b) ≡ true → a ≡ b
same_number a b h = grind (arith, nat_tests)

pub number_same : (a b : ℕ) → a ≡ b → (a == b) ≡ true
number_same a b h = grind (arith, nat_tests)

pub at_most_test : (a b : ℕ) → nat_le a b ≡ true → a ≤ b
at_most_test a b h = grind (arith, nat_tests)

pub test_at_most : (a b : ℕ) → a ≤ b → nat_le a b ≡ true
test_at_most a b h = grind (arith, nat_tests)

not_true : (b : Bool) → not b ≡ true → b ≡ false
not_true true h = absurd cc
not_true false h = refl

not_false : (b : Bool) → b ≡ false → not b ≡ true
not_false true h = absurd cc
not_false false h = refl

pub first_from_test : (k : ℕ) (p : List ℕ) (c t : Plain) → is_at_most_first k p c t ≡ true → IsAtMostFirst record { kind = k; p = p; child = c } t
first_from_test k p c (bare n) h = tt
first_from_test k p c (graft l q d t) h = not_true _ h

pub first_test : (k : ℕ) (p : List ℕ) (c t : Plain) → IsAtMostFirst record { kind = k; p = p; child = c } t → is_at_most_first k p c t ≡ true
first_test k p c (bare n) h = refl
first_test k p c (graft l q d t) h = not_false _ h

-- a type of the list that is no kernel is a noise
pub kernel_or_noise : (ty : Types) (k : ℕ) → k < length ty.list → is_kernel ty k ≡ false → kind_of ty k ≡ Some Noise
kernel_or_noise ty k h f =
    let entry = some_of ty.list k h in
    let at : kind_of ty k ≡ Some entry.0.kind = ap (option_map (λ (e : TypeEntry). e.kind)) entry.1 in
    at ∙ ap Some (no_kernel entry.0.kind (sym (ap is_kernel_kind at) ∙ f))
  where
    no_kernel : (x : Kind) → is_kernel_kind (Some x) ≡ false → x ≡ Noise
    no_kernel Noise h = refl
    no_kernel Kernel h = absurd cc

abbrev edge_made : ℕ → List ℕ → EdgeType
edge_made k p = record { kind = record { 0 = k }; p = record { entries = p } }

pub label-injective : (e f : EdgeType) → label e ≡ label f → e ≡ f
label-injective e f h =
    let kind : e.kind.0 ≡ f.kind.0 = ap (λ (x : EdgeLabel). x.0) h in
    let p : e.p.entries ≡ f.p.entries = ap (λ (x : EdgeLabel). x.1) h in
    let same : edge_made e.kind.0 e.p.entries ≡ edge_made f.kind.0 f.p.entries = rw (kind, p) refl in
    same

pub labels-injective : (es fs : List EdgeType) → map label es ≡ map label fs → es ≡ fs
labels-injective [] [] h = refl
labels-injective [] (f ∷ fs) h = absurd cc
labels-injective (e ∷ es) [] h = absurd cc
labels-injective (e ∷ es) (f ∷ fs) h =
    let first : label e ≡ label f = cc in
    let rest : map label es ≡ map label fs = cc in
    let one = label-injective e f first in
    let more = labels-injective es fs rest in
    rw (one, more) refl
