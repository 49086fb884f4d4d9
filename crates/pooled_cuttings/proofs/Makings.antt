-- Trees of a pool that are made of others.
use Rattle.std.proofs.Common.{◌≡◌, ℕ, ◌+◌, ◌<◌, ◌≤◌, ◌^◌, List, [], ◌∷◌, ◌++◌, map, length, sum, get_or, refl, sym, ap, ◌∙◌, arith, subst, Result, Ok, Err}
use Rattle.std.specs.Prelude.{IfOk, OnOk, OnErr}
use Rattle.std.proofs.lemmas.List.Sums.{sum_by_from}
use Rattle.degree_numbers.specs.declared.multi.Multi.{Multi}
use Rattle.degree_numbers.specs.declared.types.TypeId.{TypeId}
use Rattle.degree_numbers.specs.Multi.{plus_of}
use Rattle.plain_trees.specs.Plain.{Plain, bare, graft}
use Rattle.plain_trees.specs.Canon.{canon, IsCanonical}
use Rattle.plain_trees.specs.Joined.{raised}
use Rattle.plain_trees.specs.View.{Labelled, grafted}
use Rattle.plain_trees.proofs.CanonLaws.{canon_fixed}
use Rattle.tree_pool.specs.Content.{Content, Holds, tree_at, tree_over, edge_over, labelled_by, AreBelow, IsPooled, IsGrown, IsGrownBy}
use Rattle.tree_pool.specs.declared.error.PoolError.{PoolError}
use Rattle.tree_pool.proofs.Growth.{grown_by, grown_same}
use Rattle.tree_pool.specs.declared.node.EdgeTo.{EdgeTo}
use Rattle.tree_pool.specs.declared.node.TreeId.{TreeId}
use Rattle.tree_pool.proofs.Walks.{at_holds}
use Rattle.cutting_tables.proofs.CanonSteps.{canon-raised}

abbrev pub edge_to : TypeId → Multi → TreeId → EdgeTo
edge_to kind p child = record { kind = kind; p = p; child = child }

pub graft_at : (c : Content) (kind : TypeId) (p : Multi) (child : TreeId) (i : ℕ) (n : List ℕ) (es : List EdgeTo) → Holds c i (tree_over c.trees n es) →
    tree_over c.trees n (edge_to kind p child ∷ es) ≡ graft kind.0 p.entries (tree_at c child.0) (tree_at c i)
graft_at c kind p child i n es h = ap (graft kind.0 p.entries (tree_at c child.0)) (sym (at_holds c i (tree_over c.trees n es) h))

raised-grafted : (n m : List ℕ) (us : List Labelled) → raised n (grafted m us) ≡ grafted (plus_of n m) us
raised-grafted n m [] = refl
raised-grafted n m (u ∷ us) = ap (graft u.kind.0 u.p.entries u.child) (raised-grafted n m us)

pub raised_at : (c : Content) (s : List ℕ) (i : ℕ) (n : List ℕ) (es : List EdgeTo) → Holds c i (tree_over c.trees n es) →
    tree_over c.trees (plus_of s n) es ≡ raised s (tree_at c i)
raised_at c s i n es h = sym (ap (raised s) (at_holds c i (tree_over c.trees n es) h) ∙ raised-grafted s n (map (edge_over c.trees) es))

pub raised_canon : (s : List ℕ) (t : Plain) → IsCanonical t → canon (raised s t) ≡ raised s t
raised_canon s t h = canon-raised s t ∙ ap (raised s) (canon_fixed t h)

-- what a pool holds after a call
pub held_as : (c d : Content) (r : Result TreeId PoolError) (n : List ℕ) (es fs : List EdgeTo) (u : Plain) → es ≡ fs → canon (tree_over c.trees n fs) ≡ u →
    IfOk r (λ id. Holds d id.0 (canon (tree_over c.trees n es))) → IfOk r (λ id. Holds d id.0 u)
held_as c d r n es fs u same is h =
    subst (λ (t : Plain). IfOk r (λ id. Holds d id.0 t)) is (subst (λ (xs : List EdgeTo). IfOk r (λ id. Holds d id.0 (canon (tree_over c.trees n xs)))) same h)

pub pool_after : (c d : Content) (r : Result TreeId PoolError) (t : Plain) → OnOk r (IsGrownBy c d t) → OnErr r (d ≡ c) → IsGrown c d
pool_after c d (Ok id) t h e = grown_by c d t h
pool_after c d (Err e) t h k = grown_same c d k
