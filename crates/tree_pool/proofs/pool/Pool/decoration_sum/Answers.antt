use Rattle.std.proofs.Common.{[]}
use Rattle.std.proofs.lemmas.Option.{slice_get-get_or}
use Rattle.plain_trees.specs.Plain.{bare}
use Rattle.tree_pool.specs.Content.{tree_at}
use Rattle.tree_pool.proofs.pool.Pool.decoration_sum.Goals as goal

pub returns-clause-most : goal.returns-clause-most
returns-clause-most c =
    let i = c.args.id.0 in
    let kept = c.laws.ensures.kept i (tree_at c.args.self.now i) (slice_get-get_or c.args.self.now.trees i (bare []) c.requires) in
    rw c.measures.ensures kept.small.decorations
