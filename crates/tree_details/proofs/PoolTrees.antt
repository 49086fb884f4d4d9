-- The trees of a pool are over its types and small.
use Rattle.std.proofs.Common.{◌≡◌, ℕ, ◌<◌, length, sym, subst}
use Rattle.degree_numbers.specs.declared.types.Types.{Types}
use Rattle.plain_trees.specs.Plain.{Plain, IsSmall}
use Rattle.plain_trees.specs.Degree.{HasTypes}
use Rattle.tree_pool.specs.Content.{Content, IsPooled, tree_at}
use Rattle.twisted_antipode.proofs.Pooled.{kept_at}

pub tree_types : (c : Content) (ty : Types) (i : ℕ) (t : Plain) → IsPooled c → i < length c.trees → ty ≡ c.types → t ≡ tree_at c i → HasTypes ty t
tree_types c ty i t p h e is = subst (λ (u : Types). HasTypes u t) (sym e) (subst (HasTypes c.types) (sym is) (kept_at c i p h).known)

pub tree_small : (c : Content) (i : ℕ) (t : Plain) → IsPooled c → i < length c.trees → t ≡ tree_at c i → IsSmall t
tree_small c i t p h is = subst IsSmall (sym is) (kept_at c i p h).small

pub ruleset tree_facts = (tree_types, tree_small)
