use Rattle.pooled_cuttings.proofs.Lookups.{grafts_grown, unions_grown}
use Rattle.pooled_cuttings.proofs.MadeKeys.{uncanon, outside_made}
use Rattle.pooled_cuttings.proofs.outside.outside_key.Goals as goal

pub grafted_once-requires-clause-fits : goal.grafted_once-requires-clause-fits
grafted_once-requires-clause-fits c = uncanon c.args.grove.now.pool.types _ c.requires.fits

pub united_once-requires-clause-unions : goal.united_once-requires-clause-unions
united_once-requires-clause-unions c =
    unions_grown c.args.grove.now c.grafted_once.new.grove c.args.made.now.unions c.laws.ensures c.in_ok-quotient.ensures.grown c.requires.made.unions

pub returns-clause-known : goal.returns-clause-known
returns-clause-known c =
    (outside_made c.args.grove.now c.grafted_once.new.grove c.united_once.new.grove c.args.kind.0 c.args.p.now.entries c.args.x.now c.args.y.now c.in_ok-above.above c.in_ok-quotient.quotient
    c.laws.ensures c.requires.x c.requires.y c.in_ok-quotient.ensures.grown c.in_ok-above.ensures.grown c.in_ok-quotient.ensures.tree c.in_ok-above.ensures.forest).0

pub returns-clause-means : goal.returns-clause-means
returns-clause-means c =
    (outside_made c.args.grove.now c.grafted_once.new.grove c.united_once.new.grove c.args.kind.0 c.args.p.now.entries c.args.x.now c.args.y.now c.in_ok-above.above c.in_ok-quotient.quotient
    c.laws.ensures c.requires.x c.requires.y c.in_ok-quotient.ensures.grown c.in_ok-above.ensures.grown c.in_ok-quotient.ensures.tree c.in_ok-above.ensures.forest).1

pub returns-clause-made : goal.returns-clause-made
returns-clause-made c =
    record {
      grafts = grafts_grown c.grafted_once.new.grove c.united_once.new.grove c.args.kind.0 c.args.p.now.entries c.grafted_once.new.grafts c.in_ok-above.ensures.grown c.in_ok-quotient.ensures.grafts;
      unions = c.in_ok-above.ensures.unions;
    }
