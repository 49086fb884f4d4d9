-- Putting an item into a list again and again.
use Rattle.std.proofs.Common.{◌≡◌, ℕ, suc, ◌+◌, ◌-◌, ◌<◌, List, arith, refl}
use Rattle.std.specs.declared.cmp.Ordering.{Ordering}
use Rattle.equation_file.specs.Products.{placed, placed_often}

rounds_left : (n i : ℕ) → i < n → n - i ≡ suc (n - (i + 1))
rounds_left n i lt = omega (arith, lt)

pub often_step : {X : Type 0} (n i : ℕ) (c : X → X → Ordering) (xs : List X) (x : X) → i < n →
    placed_often (n - i) c xs x ≡ placed_often (n - (i + 1)) c (placed c xs x) x
often_step n i c xs x lt = rw (rounds_left n i lt) refl
