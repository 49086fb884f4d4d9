-- Multisets as sorted lists.
--   IsSubMultiset ns xs == ns is xs with some of its members left out; of a multiset that is seen
--       as a sorted list, these are the sub-multisets
--   count_of c n xs == how often n stands in xs, by the order c
--   with_last n all == the lists of `all`, each with n at its end
--   sub_lists xs == the lists that are xs with some of its members left out, one for each choice
use Rattle.std.specs.Prelude.{◌≡◌, ℕ, ◌+◌, List, [], ◌∷◌, ◌++◌, ◌⊎◌, ⊤, map, fold, cond}
use Rattle.std.specs.Ordering.{is_eq}
use Rattle.std.specs.declared.cmp.Ordering.{Ordering}

abbrev pub IsSubMultiset : {X : Type 0} → List X → List X → Type 0
IsSubMultiset [] xs = ⊤
IsSubMultiset (n ∷ ns) [] = ⊥
IsSubMultiset (n ∷ ns) (x ∷ xs) = ((x ≡ n) × IsSubMultiset ns xs) ⊎ IsSubMultiset (n ∷ ns) xs

abbrev pub count_of : {X : Type 0} → (X → X → Ordering) → X → List X → ℕ
count_of c n [] = 0
count_of c n (x ∷ xs) = cond (is_eq (c n x)) 1 0 + count_of c n xs

abbrev pub with_last : {X : Type 0} → X → List (List X) → List (List X)
with_last n all = map (λ xs. xs ++ n ∷ []) all

abbrev pub sub_lists : {X : Type 0} → List X → List (List X)
sub_lists xs = fold (λ all n. all ++ with_last n all) ([] ∷ []) xs
