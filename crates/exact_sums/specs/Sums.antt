-- Sums over lists.
--   total f xs == f x1 + .. + f xm, where x1 to xm are the members of xs
--   product_over f xs == f x1 * .. * f xm
--   counted_if b n == n where b holds, else 0
--   choices f xs == all lists of one member each of f x1, .., f xm, in lexicographic order
use Rattle.std.specs.Prelude.{ℕ, ◌+◌, ◌*◌, Bool, cond, List, [], ◌∷◌, map, flat_map}

abbrev pub total : {X : Type 0} → (X → ℕ) → List X → ℕ
total f [] = 0
total f (x ∷ xs) = f x + total f xs

abbrev pub product_over : {X : Type 0} → (X → ℕ) → List X → ℕ
product_over f [] = 1
product_over f (x ∷ xs) = f x * product_over f xs

abbrev pub counted_if : Bool → ℕ → ℕ
counted_if b n = cond b n 0

abbrev pub choices : {X Y : Type 0} → (X → List Y) → List X → List (List Y)
choices f [] = [] ∷ []
choices f (x ∷ xs) = flat_map (λ y. map (λ ys. y ∷ ys) (choices f xs)) (f x)
