use Rattle.pooled_cuttings.proofs.MadeKeys.{closed_held}
use Rattle.pooled_cuttings.proofs.closing.closed_key.Goals as goal

pub returns-clause-known : goal.returns-clause-known
returns-clause-known c =
    (closed_held c.args.grove.now c.with_component.new.self c.args.x.now c.in_ok-forest.forest c.requires c.in_ok-forest.ensures.grown c.in_ok-forest.ensures.forest).0

pub returns-clause-means : goal.returns-clause-means
returns-clause-means c =
    (closed_held c.args.grove.now c.with_component.new.self c.args.x.now c.in_ok-forest.forest c.requires c.in_ok-forest.ensures.grown c.in_ok-forest.ensures.forest).1
