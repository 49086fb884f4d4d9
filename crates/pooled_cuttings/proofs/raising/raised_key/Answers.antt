use Rattle.pooled_cuttings.proofs.MadeKeys.{raised_made}
use Rattle.pooled_cuttings.proofs.raising.raised_key.Goals as goal

pub returns-clause-known : goal.returns-clause-known
returns-clause-known c =
    (raised_made c.args.grove.now c.raised.new.self c.args.s.now.entries c.args.y.now c.in_ok-part.part c.laws.ensures c.requires.y c.in_ok-part.ensures.grown c.in_ok-part.ensures.tree).0

pub returns-clause-means : goal.returns-clause-means
returns-clause-means c =
    (raised_made c.args.grove.now c.raised.new.self c.args.s.now.entries c.args.y.now c.in_ok-part.part c.laws.ensures c.requires.y c.in_ok-part.ensures.grown c.in_ok-part.ensures.tree).1
