use Rattle.large_trees.proofs.TypeBounds.{lower_bounds}
use Rattle.large_trees.proofs.lower_bounds.lower_to.Goals as goal

pub returns : goal.returns
returns c =
    let low = c.is_lower.ensures c.if-not-is_lower.false in
    lower_bounds c.args.types.now c.args.bounds.now c.args.kernel.0 _ c.requires low.within low.lower low.modest
