use Rattle.pooled_cuttings.proofs.MadeKeys.{uncanon, uncanon_small, joined_grown, inside_made}
use Rattle.pooled_cuttings.proofs.inside.inside_key.Goals as goal

pub grafted-requires-clause-fits : goal.grafted-requires-clause-fits
grafted-requires-clause-fits c = uncanon c.args.grove.now.pool.types _ c.requires.fits.part

pub joined-requires-clause-fits : goal.joined-requires-clause-fits
joined-requires-clause-fits c =
    rw (joined_grown c.args.grove.now c.grafted.new.self c.args.x.now.quotient.0 c.args.y.now.quotient.0 c.in_ok-part.ensures.grown c.requires.x.quotient c.requires.y.quotient)
    (uncanon_small _ c.requires.fits.quotient.small)

pub returns-clause-known : goal.returns-clause-known
returns-clause-known c =
    (inside_made c.args.grove.now c.grafted.new.self c.joined.new.self c.united.new.self c.args.step.now.kind.0 c.args.step.now.p.entries c.args.x.now c.args.y.now
    c.in_ok-above.above c.in_ok-part.part c.in_ok-quotient.quotient c.laws.ensures c.requires.x c.requires.y
    c.in_ok-part.ensures.grown c.in_ok-quotient.ensures.grown c.in_ok-above.ensures.grown c.in_ok-part.ensures.tree c.in_ok-quotient.ensures.tree c.in_ok-above.ensures.forest).0

pub returns-clause-means : goal.returns-clause-means
returns-clause-means c =
    (inside_made c.args.grove.now c.grafted.new.self c.joined.new.self c.united.new.self c.args.step.now.kind.0 c.args.step.now.p.entries c.args.x.now c.args.y.now
    c.in_ok-above.above c.in_ok-part.part c.in_ok-quotient.quotient c.laws.ensures c.requires.x c.requires.y
    c.in_ok-part.ensures.grown c.in_ok-quotient.ensures.grown c.in_ok-above.ensures.grown c.in_ok-part.ensures.tree c.in_ok-quotient.ensures.tree c.in_ok-above.ensures.forest).1
