-- Members of lists, and sorted lists of distinct members.
--   IsIn n xs == n is a member of xs
--   HaveSameMembers xs ys == the members of xs are those of ys
--   insert_all c ks ns == the sorted list ks with each member of ns put in at its place, unless it
--       is there
use Rattle.std.specs.Prelude.{◌≡◌, List, [], ◌∷◌, ◌⊎◌, fold}
use Rattle.std.specs.BTreeSet.{insert_key}
use Rattle.std.specs.declared.cmp.Ordering.{Ordering}

abbrev pub IsIn : {X : Type 0} → X → List X → Type 0
IsIn n [] = ⊥
IsIn n (x ∷ xs) = (x ≡ n) ⊎ IsIn n xs

abbrev pub HaveSameMembers : {X : Type 0} → List X → List X → Type 0
HaveSameMembers {X} xs ys = ((n : X) → IsIn n xs → IsIn n ys) × ((n : X) → IsIn n ys → IsIn n xs)

abbrev pub insert_all : {X : Type 0} → (X → X → Ordering) → List X → List X → List X
insert_all c ks ns = fold (insert_key c) ks ns
