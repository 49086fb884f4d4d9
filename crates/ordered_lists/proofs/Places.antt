-- The first element that fails a test, and a fold up to a place, from what a loop reads.
use Rattle.std.proofs.Common.{◌≡◌, ℕ, ◌+◌, ◌<◌, List, length, take, get_or, Bool, true, false, ap, sym, ◌∙◌, arith}
use Rattle.std.proofs.lemmas.List.{get_or_read}
use Rattle.std.proofs.lemmas.List.Sums.{prefix_len_is, fold_more}
use Rattle.std.specs.List.{prefix_len, fold}

-- what a test says of the element that was read, it says of the one at the place
pub test_at : {X : Type 0} (p : X → Bool) (xs : List X) (i : ℕ) (x y d : X) (b : Bool) →
    i < length xs → x ≡ get_or xs i x → y ≡ x → p y ≡ b → p (get_or xs i d) ≡ b
test_at p xs i x y d b lt is same says = ap p (sym (same ∙ get_or_read xs i x lt is d)) ∙ says

-- where a test first fails
pub fails_at : {X : Type 0} (p : X → Bool) (xs : List X) (i : ℕ) (d : X) → i < length xs →
    ((k : ℕ) → k < i → p (get_or xs k d) ≡ true) → p (get_or xs i d) ≡ false → i ≡ prefix_len p xs
fails_at p xs i d lt before here = sym (prefix_len_is p xs i d (omega arith) before (λ _. here))

-- the step of a fold at the element that was read
pub fold_at : {X Y : Type 0} (f : Y → X → Y) (a : Y) (xs : List X) (i : ℕ) (x y : X) (now next : Y) →
    i < length xs → x ≡ get_or xs i x → y ≡ x → now ≡ fold f a (take i xs) → next ≡ f now y →
    next ≡ fold f a (take (i + 1) xs)
fold_at f a xs i x y now next lt is same was step = rw (fold_more f a xs i x lt, ← is, ← same, ← was) step
