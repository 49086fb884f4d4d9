use Rattle.plain_trees.specs.View.{plain}
use Rattle.plain_trees.proofs.CanonLaws.{canon_canonical}
use Rattle.plain_trees.proofs.Inserts.{canon_small}
use Rattle.canonical_trees.proofs.CanonicalTree.of.Goals as goal

pub invariant_of-result : goal.invariant_of-result
invariant_of-result c =
    let t = plain c.args.tree.now in
    rw c.in_ok-canonical.ensures.tree (canon_canonical t, canon_small t c.requires)
