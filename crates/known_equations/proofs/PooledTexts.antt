-- The trees of texts, in a pool.
use Rattle.std.proofs.Common.{◌≡◌, ℕ, ◌<◌, List, [], ◌∷◌, ◌++◌, length, refl, ap, sym, subst, arith}
use Rattle.degree_numbers.specs.declared.Types.{Types}
use Rattle.plain_trees.specs.Plain.{Plain}
use Rattle.plain_trees.specs.Canon.{canon}
use Rattle.plain_trees.specs.Reading.{IsTreeOf}
use Rattle.tree_pool.specs.Content.{Content, Holds, tree_at, IsGrown}
use Rattle.tree_pool.specs.Forests.{numbers, AreKnown}
use Rattle.tree_pool.specs.declared.TreeId.{TreeId}
use Rattle.tree_pool.proofs.Growth.{grown_length}
use Rattle.tree_pool.proofs.Ids.{known_grown}
use Rattle.tree_pool.proofs.Walks.{at_holds}
use Rattle.cutting_sizes.specs.Bounds.{IsBounded, IsFit}
use Rattle.cutting_sizes.proofs.Bounded.{canon_bounded}
use Rattle.cutting_sizes.proofs.Recentred.{fit_bounded}

-- a tree that is read within the limits of listed trees is bounded
pub read_bounded : (ty : Types) (text : List ℕ) (c : Content) (i : ℕ) (t : Plain) → IsTreeOf ty 64
    text t → Holds c i (canon t) → IsBounded (tree_at c i)
read_bounded ty text c i t r h =
    let e = r.edges in
    let d = r.decorations in
    let fit : IsFit t = record { edges = omega (arith, e); decorations = omega (arith, d) } in
    subst (λ (u : Plain). IsBounded u) (sym (at_holds c i (canon t) h))
    (canon_bounded t (fit_bounded t fit))

known_with : (c : Content) (ids : List ℕ) (i : ℕ) → AreKnown c ids → i < length c.trees → AreKnown
    c (ids ++ i ∷ [])
known_with c [] i h k = (k, tt)
known_with c (j ∷ ids) i h k = (h.0, known_with c ids i h.1 k)

numbers_with : (ids : List TreeId) (id : TreeId) → numbers (ids ++ id ∷ []) ≡ numbers ids ++ id.0
    ∷ []
numbers_with [] id = refl
numbers_with (j ∷ ids) id = ap (λ (ns : List ℕ). j.0 ∷ ns) (numbers_with ids id)

pub one_more_known : (c d : Content) (ids more : List TreeId) (id : TreeId) → IsGrown c d →
    AreKnown c (numbers ids) → id.0 < length d.trees →
    more ≡ ids ++ id ∷ [] → AreKnown d (numbers more)
one_more_known c d ids more id g h k e =
    let here = known_grown c d (numbers ids) (grown_length c d g) h in
    subst (λ (xs : List TreeId). AreKnown d (numbers xs)) (sym e)
    (subst (λ (ns : List ℕ). AreKnown d ns) (sym (numbers_with ids id))
    (known_with d (numbers ids) id.0 here k))
