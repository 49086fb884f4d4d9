use Rattle.std.proofs.Common.{◌≡◌, [], drop}
use Rattle.tree_pool.specs.Content.{tree_at, tree_over}
use Rattle.symbol_polys.specs.View.{terms_of}
use Rattle.elementary_diff.specs.Differentials.{by_edges, right_terms}
use Rattle.elementary_diff.specs.Room.{HaveRoom}
use Rattle.elementary_diff.proofs.root_edges.left_at_root.Given as goal

abbrev pub invariant-loop-e : goal.invariant-loop-e
invariant-loop-e l = record {
  left : by_edges l.eq.types (tree_over l.pool.trees [] (drop l.e-index l.edges)) (terms_of l.terms.items) ≡ by_edges l.eq.types (tree_at l.pool l.fn.id.0) (right_terms l.eq l.fn.kernel.0);
  room : HaveRoom (terms_of l.terms.items);
}
