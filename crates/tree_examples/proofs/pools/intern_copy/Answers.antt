use Rattle.tree_examples.specs.Example.{noise_and_slope}
use Rattle.tree_pool.proofs.Walks.{at_holds}
use Rattle.tree_examples.proofs.Examples.{both_types, small_both}
use Rattle.tree_examples.proofs.pools.intern_copy.Goals as goal

pub intern_tree-requires-clause-types : goal.intern_tree-requires-clause-types
intern_tree-requires-clause-types c = rw (c.in_ok-copy.ensures, at_holds c.args.pool.now c.args.id.0 noise_and_slope c.requires.tree) (both_types c.args.pool.now.types c.requires.types)

pub intern_tree-requires-clause-small : goal.intern_tree-requires-clause-small
intern_tree-requires-clause-small c = rw (c.in_ok-copy.ensures, at_holds c.args.pool.now c.args.id.0 noise_and_slope c.requires.tree) small_both
