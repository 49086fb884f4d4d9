use Rattle.std.proofs.Common.{arith}
use Rattle.std.proofs.lemmas.Bool.Decides.{nat_tests}
use Rattle.tree_pool.specs.Content.{tree_at}
use Rattle.known_equations.proofs.pools.is_fit.Goals as goal

pub returns-then-edge_count-le24-clause-bounded : goal.returns-then-edge_count-le24-clause-bounded
returns-then-edge_count-le24-clause-bounded c = λ h.
    c.subtrees_are_bounded.ensures.fit_bounded (tree_at c.args.pool.now c.args.id.0)
    record { edges = grind (arith, nat_tests); decorations = grind (arith, nat_tests) }
