-- Trees of a pool, in a copy and by other types that are equal.
use Rattle.std.proofs.Common.{◌≡◌, ℕ, ◌<◌, length, [], sym, subst}
use Rattle.std.proofs.lemmas.Option.{slice_get-get_or}
use Rattle.degree_numbers.specs.declared.Types.{Types}
use Rattle.plain_trees.specs.Plain.{Plain, bare, IsSmall}
use Rattle.plain_trees.specs.Degree.{HasTypes}
use Rattle.tree_pool.specs.Content.{Content, tree_at, IsPooled, IsKept}

kept : (c : Content) (i : ℕ) → IsPooled c → i < length c.trees → IsKept c.types (tree_at c i)
kept c i pool h = pool.kept i (tree_at c i) (slice_get-get_or c.trees i (bare []) h)

pub typed : (c : Content) (i : ℕ) (ty : Types) (t : Plain) → IsPooled c → i < length c.trees → ty ≡ c.types → t ≡ tree_at c i → HasTypes ty t
typed c i ty t pool h e is =
    let P : Types → Type 0 = λ u. HasTypes u t in
    let Q : Plain → Type 0 = HasTypes c.types in
    subst P (sym e) (subst Q (sym is) (kept c i pool h).known)

pub small : (c : Content) (i : ℕ) (t : Plain) → IsPooled c → i < length c.trees → t ≡ tree_at c i → IsSmall t
small c i t pool h is = subst IsSmall (sym is) (kept c i pool h).small
