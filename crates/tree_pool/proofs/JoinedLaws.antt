-- The product of trees is commutative, and the empty tree is its unit.
use Rattle.std.proofs.Common.{◌≡◌, ℕ, ◌+◌, List, [], ◌∷◌, refl, ap, ◌∙◌, arith}
use Rattle.degree_numbers.specs.Multi.{plus_of}
use Rattle.plain_trees.specs.Plain.{Plain, bare, graft}
use Rattle.plain_trees.specs.Canon.{canon, IsSame, exchanged, on_both, unchanged, chained}
use Rattle.plain_trees.proofs.CanonLaws.{same_canon}
use Rattle.plain_trees.specs.Joined.{raised, joined}

plus_commutes : (n m : List ℕ) → plus_of n m ≡ plus_of m n
plus_commutes [] [] = refl
plus_commutes [] (y ∷ m) = refl
plus_commutes (x ∷ n) [] = refl
plus_commutes (x ∷ n) (y ∷ m) =
    let first : x + y ≡ y + x = omega arith in
    ap (λ (z : ℕ). z ∷ plus_of n m) first ∙ ap (λ (zs : List ℕ). (y + x) ∷ zs) (plus_commutes n m)

joined-bare : (n : List ℕ) (t : Plain) → joined t (bare n) ≡ raised n t
joined-bare n (bare m) = ap bare (plus_commutes m n)
joined-bare n (graft l q d t) = ap (graft l q d) (joined-bare n t)

joined-graft : (k : ℕ) (p : List ℕ) (c t s : Plain) → IsSame (graft k p c (joined t s)) (joined t (graft k p c s))
joined-graft k p c (bare n) s = unchanged (graft k p c (raised n s))
joined-graft k p c (graft l q d t) s = chained (exchanged k p c l q d (joined t s)) (on_both l q (unchanged d) (joined-graft k p c t s))

joined_same : (s t : Plain) → IsSame (joined s t) (joined t s)
joined_same (bare n) t = rw (joined-bare n t) (unchanged (raised n t))
joined_same (graft k p c s) t = chained (on_both k p (unchanged c) (joined_same s t)) (joined-graft k p c t s)

pub joined_commutes : (s t : Plain) → canon (joined s t) ≡ canon (joined t s)
joined_commutes s t = same_canon (joined_same s t)
