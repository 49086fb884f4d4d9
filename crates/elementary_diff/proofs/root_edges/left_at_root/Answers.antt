use Rattle.std.proofs.Common.{◌≡◌, get_or}
use Rattle.tree_pool.specs.Content.{tree_at}
use Rattle.tree_pool.proofs.Walks.{no_edge}
use Rattle.symbol_polys.specs.View.{terms_of}
use Rattle.elementary_diff.specs.Differentials.{edge_derivatives, by_edges, right_terms}
use Rattle.elementary_diff.proofs.Rooms.{right_terms-room, edge_derivatives-room}
use Rattle.elementary_diff.proofs.NodeWalks.{edges-whole, edges-step, edges-end}
use Rattle.elementary_diff.proofs.root_edges.left_at_root.Goals as goal

pub loop-e-init : goal.loop-e-init
loop-e-init c =
    let eq = c.args.eq.now in
    record {
      left = edges-whole eq.types c.args.pool.now c.args.id.0 c.node.result.0.entries c.node.result.1.now (terms_of c.in_ok-terms.terms.items) (right_terms eq c.args.kernel.0) c.node.ensures.tree c.in_ok-terms.ensures.value;
      room = rw c.in_ok-terms.ensures.value (right_terms-room eq c.args.kernel.0 c.requires.equation);
    }

pub loop-e-preserved : goal.loop-e-preserved
loop-e-preserved c =
    let ty = c.args.eq.now.types in
    let es = c.node.result.1.now in
    let e = get_or es c.loop-e.e-index no_edge in
    let value : terms_of c.in_ok-terms-2.terms.items ≡ edge_derivatives ty e.kind.0 e.p.entries (terms_of c.loop-e.terms.items) = rw c.as_slice.ensures.value at c.in_ok-terms-2.ensures.value in
    record {
      left = edges-step ty c.args.pool.now es c.loop-e.e-index (terms_of c.loop-e.terms.items) (terms_of c.in_ok-terms-2.terms.items) (by_edges ty (tree_at c.args.pool.now c.args.id.0) (right_terms c.args.eq.now c.args.kernel.0))
          c.loop-e-test.true value c.loop-e.invariant.left;
      room = rw value (edge_derivatives-room ty e.kind.0 e.p.entries (terms_of c.loop-e.terms.items) c.loop-e.invariant.room);
    }

pub returns-clause-value : goal.returns-clause-value
returns-clause-value c =
    let ty = c.args.eq.now.types in
    rw (edges-end ty c.args.pool.now c.node.result.1.now c.loop-e.e-index (terms_of c.loop-e.terms.items) (by_edges ty (tree_at c.args.pool.now c.args.id.0) (right_terms c.args.eq.now c.args.kernel.0))
    c.loop-e-test.false c.loop-e.invariant.left) at c.noise_free.ensures.value
