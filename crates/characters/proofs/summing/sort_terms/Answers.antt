use Rattle.std.proofs.Common.{ℤ, rules, is_lt}
use Rattle.std.proofs.lemmas.List.Sorted.{ranks_by}
use Rattle.std.proofs.lemmas.Fn.{always_returns_same}
use Rattle.tree_pool.specs.declared.TreeId.{TreeId}
use Rattle.tree_pool.proofs.Ids.{id_order_total}
use Rattle.characters.specs.Asked.{key_order}
use Rattle.characters.proofs.summing.sort_terms.Goals as goal

pub returns-clause-sorted : goal.returns-clause-sorted
returns-clause-sorted c =
    let p = c.args.pool.now in
    c.sort_unstable_by.ensures.sorted (λ s t. is_lt (key_order p s t)) (ranks_by (id_order_total p.trees) (λ (t : TreeId × ℤ). t.0.0)) (always_returns_same _ _ _ (λ a r f k.
    search rules))
