-- Stems and wholes while the pool grows.
use Rattle.std.proofs.Common.{◌≡◌, ℕ, suc, ◌+◌, ◌<◌, List, [], ◌∷◌, ◌++◌, map, take, length, get_or, refl, sym, ap, ◌∙◌, arith, All}
use Rattle.std.proofs.lemmas.List.{map-append, take_more}
use Rattle.std.proofs.lemmas.List.Elements.{All-push}
use Rattle.std.proofs.lemmas.Option.{slice_get_within}
use Rattle.plain_trees.specs.Plain.{Plain, graft}
use Rattle.plain_trees.specs.Canon.{canon}
use Rattle.plain_trees.specs.View.{Labelled, grafted}
use Rattle.plain_trees.proofs.CanonLaws.{canon_fixed}
use Rattle.conforming_trees.specs.Budgets.{with_root}
use Rattle.tree_pool.specs.Content.{Content, Holds, tree_at, tree_over, edge_over, AreBelow, IsGrown, IsKept}
use Rattle.tree_pool.specs.declared.node.TreeId.{TreeId}
use Rattle.tree_pool.specs.declared.node.EdgeTo.{EdgeTo}
use Rattle.tree_pool.proofs.Growth.{grown_length, grown_at}
use Rattle.tree_pool.proofs.Trees.{AreBelow-le}
use Rattle.tree_pool.proofs.Walks.{at_holds, no_edge}
use Rattle.tree_listing.specs.declared.level.Stem.{Stem}
use Rattle.tree_listing.specs.declared.level.Growth.{Growth}
use Rattle.tree_listing.specs.Levels.{trees, sprout_of, sprouts, tree_of_growth, sprout_of_growth, IsGrowthIn}

pub all_head : {X : Type 0} (P : X → Type 0) (x : X) (xs : List X) → All P (x ∷ xs) → P x
all_head P x xs h = h 0 x (omega arith)

pub all_tail : {X : Type 0} (P : X → Type 0) (x : X) (xs : List X) → All P (x ∷ xs) → All P xs
all_tail P x xs h = λ k d l. h (suc k) d (omega (arith, l))

pub grown_below : (c d : Content) (i : ℕ) → IsGrown c d → i < length c.trees → i < length d.trees
grown_below c d i g h = omega (arith, grown_length c d g, h)

-- numbers of trees keep their trees
pub trees-grown : (c d : Content) (is : List TreeId) → IsGrown c d → All (λ i. i.0 < length c.trees) is → trees d is ≡ trees c is
trees-grown c d [] g h = refl
trees-grown c d (i ∷ is) g h =
    let first = grown_at c d i.0 g (all_head (λ (j : TreeId). j.0 < length c.trees) i is h) in
    let rest = trees-grown c d is g (all_tail (λ (j : TreeId). j.0 < length c.trees) i is h) in
    rw (first, rest) refl

pub sprouts-grown : (c d : Content) (ss : List Stem) → IsGrown c d → All (λ s. s.id.0 < length c.trees) ss → sprouts d ss ≡ sprouts c ss
sprouts-grown c d [] g h = refl
sprouts-grown c d (s ∷ ss) g h =
    let first = grown_at c d s.id.0 g (all_head (λ (j : Stem). j.id.0 < length c.trees) s ss h) in
    let rest = sprouts-grown c d ss g (all_tail (λ (j : Stem). j.id.0 < length c.trees) s ss h) in
    rw (first, rest) refl

pub ids-grown : (c d : Content) (is : List TreeId) → IsGrown c d → All (λ i. i.0 < length c.trees) is → All (λ i. i.0 < length d.trees) is
ids-grown c d is g h = λ k e l. omega (arith, grown_length c d g, h k e l)

pub stems-grown : (c d : Content) (ss : List Stem) → IsGrown c d → All (λ s. s.id.0 < length c.trees) ss → All (λ s. s.id.0 < length d.trees) ss
stems-grown c d ss g h = λ k e l. omega (arith, grown_length c d g, h k e l)

pub holds_below : (c : Content) (i : ℕ) (t : Plain) → Holds c i t → i < length c.trees
holds_below c i t h = slice_get_within c.trees i t h

pub growth-tree : (c d : Content) (g : Growth) → IsGrown c d → IsGrowthIn c g → tree_of_growth d g ≡ tree_of_growth c g
growth-tree c d g w h = rw (grown_at c d g.edge.child.0 w h.child, grown_at c d g.rest.0 w h.rest) refl

pub growth-grown : (c d : Content) (g : Growth) → IsGrown c d → IsGrowthIn c g → IsGrowthIn d g
growth-grown c d g w h = record {
  child = grown_below c d g.edge.child.0 w h.child;
  rest = grown_below c d g.rest.0 w h.rest;
  kept = rw (growth-tree c d g w h, w.types) h.kept;
}

-- the edges of a stem that is to be made
pub growth_below : (c : Content) (g : Growth) (es fs : List EdgeTo) → IsGrowthIn c g → AreBelow g.rest.0 es → fs ≡ g.edge ∷ es → AreBelow (length c.trees) fs
growth_below c g es fs h b is = let r = h.rest in rw is (h.child, AreBelow-le g.rest.0 (length c.trees) es (omega (arith, r)) b)

pub growth_over : (c : Content) (g : Growth) (n : List ℕ) (es fs : List EdgeTo) →
    Holds c g.rest.0 (tree_over c.trees n es) → fs ≡ g.edge ∷ es →
    tree_over c.trees n fs ≡ tree_of_growth c g
growth_over c g n es fs h is = rw (is, at_holds c g.rest.0 (tree_over c.trees n es) h) refl

pub growth_canon : (c : Content) (g : Growth) (n : List ℕ) (es fs : List EdgeTo) → IsGrowthIn c g →
    Holds c g.rest.0 (tree_over c.trees n es) → fs ≡ g.edge ∷ es →
    canon (tree_over c.trees n fs) ≡ tree_of_growth c g
growth_canon c g n es fs k h is = ap canon (growth_over c g n es fs h is) ∙ canon_fixed (tree_of_growth c g) k.kept.canonical

-- the edges of a stem with another root
grafted-root : (m n : List ℕ) (es : List Labelled) → with_root m (grafted n es) ≡ grafted m es
grafted-root m n [] = refl
grafted-root m n (e ∷ es) = ap (graft e.kind.0 e.p.entries e.child) (grafted-root m n es)

pub root_over : (c : Content) (i : ℕ) (m n : List ℕ) (es : List EdgeTo) →
    Holds c i (tree_over c.trees n es) → tree_over c.trees m es ≡ with_root m (tree_at c i)
root_over c i m n es h = sym (ap (with_root m) (at_holds c i (tree_over c.trees n es) h) ∙ grafted-root m n (map (edge_over c.trees) es))

pub root_canon : (c : Content) (i : ℕ) (m n : List ℕ) (es : List EdgeTo) →
    IsKept c.types (with_root m (tree_at c i)) → Holds c i (tree_over c.trees n es) →
    canon (tree_over c.trees m es) ≡ with_root m (tree_at c i)
root_canon c i m n es k h = ap canon (root_over c i m n es h) ∙ canon_fixed (with_root m (tree_at c i)) k.canonical

pub map_step : {X Y : Type 0} (f : X → Y) (xs : List X) (i : ℕ) (d : X) (ys : List Y) →
    i < length xs → ys ≡ map f (take i xs) → ys ++ f (get_or xs i d) ∷ [] ≡ map f (take (i + 1) xs)
map_step {X} {Y} f xs i d ys h is = rw (take_more xs i d h, map-append f (take i xs) (get_or xs i d ∷ []), is) refl

abbrev stem_made : TreeId → ℕ → Stem
stem_made i j = record { id = i; node = j }

-- one more stem
pub stems_step : (c0 c d : Content) (gs : List Growth) (i : ℕ) (e : Growth) (ss new : List Stem) (id : TreeId) →
    IsGrown c0 c → IsGrown c d → All (λ s. s.id.0 < length c.trees) ss →
    sprouts c ss ≡ map (sprout_of_growth c0) (take i gs) →
    i < length gs → IsGrowthIn c0 (get_or gs i e) → Holds d id.0 (tree_of_growth c (get_or gs i e)) → new ≡ ss ++ stem_made id (get_or gs i e).node ∷ [] → sprouts d new ≡ map (sprout_of_growth c0) (take (i + 1) gs)
stems_step c0 c d gs i e ss new id w v known is l k there pushed =
    let g = get_or gs i e in
    let tree : tree_at d id.0 ≡ tree_of_growth c0 g = at_holds d id.0 (tree_of_growth c g) there ∙ growth-tree c0 c g w k in
    let last : sprout_of d (stem_made id g.node) ≡ sprout_of_growth c0 g = ap (λ (t : Plain). (t, g.node)) tree in
    let old : sprouts d ss ≡ map (sprout_of_growth c0) (take i gs) = sprouts-grown c d ss v known ∙ is in
    rw (pushed, map-append (sprout_of d) ss (stem_made id g.node ∷ []), last) (map_step (sprout_of_growth c0) gs i e (sprouts d ss) l old)

pub stems_push : (c d : Content) (ss new : List Stem) (id : TreeId) (j : ℕ) (t : Plain) →
    IsGrown c d → All (λ s. s.id.0 < length c.trees) ss → Holds d id.0 t →
    new ≡ ss ++ stem_made id j ∷ [] → All (λ s. s.id.0 < length d.trees) new
stems_push c d ss new id j t g known there pushed =
    rw pushed (All-push (λ (s : Stem). s.id.0 < length d.trees) ss (stem_made id j) (stems-grown c d ss g known) (holds_below d id.0 t there))

-- past the end of the stems that are to be made
abbrev pub no_growth : Growth
no_growth = record { edge = no_edge; rest = record { 0 = 0 }; node = 0 }
