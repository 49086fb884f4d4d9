-- Where nothing passes a limit.
use Rattle.std.proofs.Common.{◌≡◌, ℕ, zero, suc, ◌<◌, ◌≤◌, List, [], ◌∷◌, length, get_or, slice_index, Option, None, Some, refl, arith}
use Rattle.std.specs.Option.{option_or}
use Rattle.std.proofs.lemmas.Bool.Decides.{nat_tests}
use Rattle.equation_document.specs.FirstOf.{over, first_of}

pub neither : (a b : Option ℕ) → option_or a b ≡ None → (a ≡ None) × (b ≡ None)
neither None b h = (refl, h)
neither (Some n) b h = search

-- it passes at no place
pub none_at : {X : Type 0} (f : X → Option ℕ) (xs : List X) (i : ℕ) (d : X) → first_of f xs ≡ None → i < length xs → f (get_or xs i d) ≡ None
none_at f [] i d h lt = absurd (omega (arith, lt))
none_at f (x ∷ xs) zero d h lt = (neither (f x) (first_of f xs) h).0
none_at f (x ∷ xs) (suc i) d h lt = none_at f xs i d (neither (f x) (first_of f xs) h).1 (omega (arith, lt))

pub within : (most n : ℕ) → over most n ≡ None → n ≤ most
within most n h = grind (arith, nat_tests)

pub none_over : (most : ℕ) (xs : List ℕ) (i : ℕ) → first_of (over most) xs ≡ None → i < length xs → slice_index xs i ≤ most
none_over most xs i h lt = within most (slice_index xs i) (none_at (over most) xs i 0 h lt)

pub none_index : (most : ℕ) (xs : List ℕ) (i : ℕ) → first_of (over most) xs ≡ None → slice_index xs i ≤ most
none_index most [] i h = omega arith
none_index most (x ∷ xs) zero h = within most x (neither (over most x) (first_of (over most) xs) h).0
none_index most (x ∷ xs) (suc i) h = none_index most xs i (neither (over most x) (first_of (over most) xs) h).1
