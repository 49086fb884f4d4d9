use Rattle.pooled_cuttings.proofs.MadeKeys.{uncanon, beside_made}
use Rattle.pooled_cuttings.proofs.beside.beside_key.Goals as goal

pub grafted-requires-clause-fits : goal.grafted-requires-clause-fits
grafted-requires-clause-fits c = uncanon c.args.grove.now.pool.types _ c.requires.fits

pub returns-clause-known : goal.returns-clause-known
returns-clause-known c =
    (beside_made c.args.grove.now c.grafted.new.self c.united.new.self c.args.step.now.kind.0 c.args.step.now.p.entries c.args.x.now c.args.y.now c.in_ok-forest.forest c.in_ok-quotient.quotient
    c.laws.ensures c.requires.x c.requires.y c.in_ok-quotient.ensures.grown c.in_ok-forest.ensures.grown c.in_ok-quotient.ensures.tree c.in_ok-forest.ensures.forest).0

pub returns-clause-means : goal.returns-clause-means
returns-clause-means c =
    (beside_made c.args.grove.now c.grafted.new.self c.united.new.self c.args.step.now.kind.0 c.args.step.now.p.entries c.args.x.now c.args.y.now c.in_ok-forest.forest c.in_ok-quotient.quotient
    c.laws.ensures c.requires.x c.requires.y c.in_ok-quotient.ensures.grown c.in_ok-forest.ensures.grown c.in_ok-quotient.ensures.tree c.in_ok-forest.ensures.forest).1
