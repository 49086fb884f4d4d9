use Rattle.std.proofs.Common.{◌≡◌, ◌++◌, drop}
use Rattle.tree_pool.specs.Content.{IsGrown}
use Rattle.pooled_cuttings.specs.Lines.{recentred_terms_in, AreRightLines}
use Rattle.pooled_cuttings.proofs.RightLoops.{left_rows}
use Rattle.pooled_cuttings.proofs.left_products.push_left_rows.Given as goal

abbrev pub invariant-loop-x : goal.invariant-loop-x
invariant-loop-x l = record {
  grown : IsGrown l.fn.pool l.pool;
  lines : AreRightLines l.pool l.lines.items;
  terms : recentred_terms_in l.pool l.lines.items ++ left_rows l.fn.pool l.edge l.ys (drop l.x-index l.xs) ≡ recentred_terms_in l.fn.pool l.fn.lines.items ++ left_rows l.fn.pool l.edge l.ys l.xs;
}
