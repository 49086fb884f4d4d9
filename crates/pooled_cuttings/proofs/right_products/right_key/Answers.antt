use Rattle.std.proofs.Common.{◌≡◌}
use Rattle.degree_numbers.specs.Multi.{plus_of}
use Rattle.pooled_cuttings.proofs.MadeKeys.{uncanon, plus_fits}
use Rattle.pooled_cuttings.proofs.RightKeys.{graft_later, right_made}
use Rattle.pooled_cuttings.proofs.right_products.right_key.Goals as goal

pub plus-p-requires : goal.plus-p-requires
plus-p-requires c = λ k lt. plus_fits c.args.edge.now.p.entries c.args.s.now.entries c.requires.edge.small c.requires.shift k

pub grafted-requires-clause-fits : goal.grafted-requires-clause-fits
grafted-requires-clause-fits c =
    rw (
      c.plus-p.ensures,
      c.in_ok-left.ensures.grown.types,
      graft_later c.args.pool.now c.raised.new.pool c.args.edge.now.kind.0 (plus_of c.args.edge.now.p.entries c.args.s.now.entries) c.args.edge.now.child.0 c.args.y.now.right.0
          c.in_ok-left.ensures.grown c.requires.edge.child c.requires.y.right,
    )
    (uncanon c.args.pool.now.types _ c.requires.fits.right)

pub returns-clause-known : goal.returns-clause-known
returns-clause-known c =
    (right_made c.args.pool.now c.raised.new.pool c.grafted.new.pool c.args.edge.now c.args.s.now.entries c.plus-p.result.entries c.args.y.now
    c.in_ok-left.left c.in_ok-right.right c.requires.edge.child c.requires.y c.in_ok-left.ensures.grown c.in_ok-right.ensures.grown c.plus-p.ensures
    c.in_ok-left.ensures.tree c.in_ok-right.ensures.tree).0

pub returns-clause-means : goal.returns-clause-means
returns-clause-means c =
    (right_made c.args.pool.now c.raised.new.pool c.grafted.new.pool c.args.edge.now c.args.s.now.entries c.plus-p.result.entries c.args.y.now
    c.in_ok-left.left c.in_ok-right.right c.requires.edge.child c.requires.y c.in_ok-left.ensures.grown c.in_ok-right.ensures.grown c.plus-p.ensures
    c.in_ok-left.ensures.tree c.in_ok-right.ensures.tree).1
