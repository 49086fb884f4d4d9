-- The distinct members of a list. How often a member stands in a list is `count_of`, in
-- ordered_lists.
--   with_new n x xs == x in front of xs, where it stands there n = 0 times; else xs
--   distinct_by c xs == the members of xs that are different by the order c, each once: the last of
--       equal ones
--   AreDistinct xs == no member of xs stands there twice
use Rattle.std.specs.Prelude.{ℕ, zero, suc, List, [], ◌∷◌, ⊤}
use Rattle.std.specs.declared.cmp.Ordering.{Ordering}
use Rattle.ordered_lists.specs.Members.{IsIn}
use Rattle.ordered_lists.specs.Subs.{count_of}

-- x in front of xs, where it stands there 0 times
abbrev pub with_new : {X : Type 0} → ℕ → X → List X → List X
with_new zero x xs = x ∷ xs
with_new (suc n) x xs = xs

abbrev pub distinct_by : {X : Type 0} → (X → X → Ordering) → List X → List X
distinct_by c [] = []
distinct_by c (x ∷ xs) = with_new (count_of c x xs) x (distinct_by c xs)

abbrev pub AreDistinct : {X : Type 0} → List X → Type 0
AreDistinct [] = ⊤
AreDistinct (x ∷ xs) = (IsIn x xs → ⊥) × AreDistinct xs
