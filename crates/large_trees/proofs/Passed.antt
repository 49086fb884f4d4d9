-- Places in a list, and what holds of the members that a loop has passed.
use Rattle.std.proofs.Common.{◌≡◌, ◌≢◌, ℕ, zero, suc, ◌+◌, ◌<◌, ◌≤◌, ◌==◌, Bool, true, false, List, [], ◌∷◌, length, get_or, refl, sym, ◌∙◌, subst, inl, inr, arith}
use Rattle.std.specs.Prelude.{◌⊎◌}
use Rattle.std.proofs.lemmas.Bool.Decides.{nat_tests}
use Rattle.ordered_lists.specs.Members.{IsIn}

-- x stands at place i
abbrev pub IsAt : {X : Type 0} → List X → ℕ → X → Type 0
IsAt xs i x = (i < length xs) × (x ≡ get_or xs i x)

pub at_one : {X : Type 0} (xs : List X) (i : ℕ) (x y : X) → IsAt xs i x → IsAt xs i y → x ≡ y
at_one [] i x y h k = absurd (let lt = h.0 in omega arith)
at_one (z ∷ zs) zero x y h k = h.1 ∙ sym k.1
at_one (z ∷ zs) (suc i) x y h k = at_one zs i x y (let lt = h.0 in omega arith, h.1) (let lt = k.0 in omega arith, k.1)

pub in_at : {X : Type 0} (xs : List X) (x : X) → IsIn x xs → (i : ℕ) × IsAt xs i x
in_at [] x h = absurd h
in_at (y ∷ ys) x (inl e) = (0, (omega arith, sym e))
in_at (y ∷ ys) x (inr h) = let later = in_at ys x h in (suc later.0, (let lt = later.1.0 in omega arith, later.1.1))

pub same_place : (m c : ℕ) → (m ≡ c) ⊎ (m ≢ c)
same_place m c =
    elim (m == c) as (λ (b : Bool). (m == c) ≡ b → (m ≡ c) ⊎ (m ≢ c)) [ true ↦ λ e. inl (grind (arith, nat_tests)) | false ↦ λ e. inr (grind (arith, nat_tests)) ] refl

-- what holds of the members that a loop has passed
pub passed_more : {X : Type 0} (P : X → Type 0) (xs : List X) (i : ℕ) (x : X) → i < length xs →
    x ≡ get_or xs i x → P x → ((j : ℕ) (y : X) → j < i → IsAt xs j y → P y) → (j : ℕ) (y : X) →
    j < i + 1 → IsAt xs j y → P y
passed_more P xs i x lt is p h j y before at =
    elim (same_place j i) [
      | inl e ↦ let place = subst (λ (k : ℕ). IsAt xs k y) e at in subst P (at_one xs i x y (lt, is) place) p
      | inr n ↦ h j y (omega arith) at
    ]

pub passed_all : {X : Type 0} (P : X → Type 0) (xs : List X) (i : ℕ) → length xs ≤ i → ((j : ℕ) (y : X) → j < i → IsAt xs j y → P y) → (x : X) → IsIn x xs → P x
passed_all P xs i all h x m = let at = in_at xs x m in let lt = at.1.0 in h at.0 x (omega arith) at.1
