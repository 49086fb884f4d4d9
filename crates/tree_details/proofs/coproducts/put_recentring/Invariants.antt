use Rattle.std.proofs.Common.{◌≡◌, ◌++◌, drop, flat_map, codes}
use Rattle.tree_details.specs.Detail.{recentring_line, section}
use Rattle.tree_details.specs.Values.{recentred_pairs}
use Rattle.tree_details.proofs.coproducts.put_recentring.Given as goal

abbrev pub invariant-loop-term : goal.invariant-loop-term
invariant-loop-term l =
    l.out.items ++ flat_map (recentring_line l.pool.types) (recentred_pairs l.pool (drop l.term-index l.terms))
    ≡ l.fn.out.items ++ section (codes "recentring ") (recentring_line l.pool.types) (recentred_pairs l.pool l.terms)
