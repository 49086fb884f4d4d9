use Rattle.plain_trees.specs.Plain.{bare}
use Rattle.tree_pool.proofs.Growth.{grown_holds}
use Rattle.pooled_cuttings.proofs.RightKeys.{right_key_held}
use Rattle.pooled_cuttings.proofs.right_seeds.right_seed_key.Goals as goal

pub returns-clause-means : goal.returns-clause-means
returns-clause-means c =
    let p = c.node_of.new.pool in
    let q = c.node_of-2.new.pool in
    (right_key_held q c.in_ok-left.left c.in_ok-right.right (bare c.args.a.now.entries) (bare c.args.rest.now.entries)
    (grown_holds p q c.in_ok-left.left.0 (bare c.args.a.now.entries) c.in_ok-right.ensures.grown c.in_ok-left.ensures.tree)
    c.in_ok-right.ensures.tree).1
