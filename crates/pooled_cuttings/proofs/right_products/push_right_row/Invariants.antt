use Rattle.std.proofs.Common.{◌≡◌, ◌++◌, drop}
use Rattle.tree_pool.specs.Content.{IsGrown}
use Rattle.pooled_cuttings.specs.Lines.{recentred_terms_in, AreRightLines}
use Rattle.pooled_cuttings.proofs.RightLoops.{right_row}
use Rattle.pooled_cuttings.proofs.right_products.push_right_row.Given as goal

abbrev pub invariant-loop-y : goal.invariant-loop-y
invariant-loop-y l = record {
  grown : IsGrown l.fn.pool l.pool;
  lines : AreRightLines l.pool l.lines.items;
  terms : recentred_terms_in l.pool l.lines.items ++ right_row l.fn.pool l.edge l.s.entries (drop l.y-index l.ys) ≡ recentred_terms_in l.fn.pool l.fn.lines.items ++ right_row l.fn.pool l.edge l.s.entries l.ys;
}
