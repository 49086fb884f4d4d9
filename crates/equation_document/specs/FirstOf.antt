-- The first of a list that passes a limit.
--   over most n == n, where it is greater than most
--   first_of f xs == what f gives of the first of xs at which it gives something
use Rattle.std.specs.Prelude.{ℕ, nat_lt, List, [], ◌∷◌, if◌then◌else◌, Option, None, Some}
use Rattle.std.specs.Option.{option_or}

abbrev pub over : ℕ → ℕ → Option ℕ
over most n = if nat_lt most n then Some n else None

abbrev pub first_of : {X : Type 0} → (X → Option ℕ) → List X → Option ℕ
first_of f [] = None
first_of f (x ∷ xs) = option_or (f x) (first_of f xs)
