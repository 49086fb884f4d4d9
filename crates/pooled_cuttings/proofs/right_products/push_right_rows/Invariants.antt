use Rattle.std.proofs.Common.{◌≡◌, ◌++◌, drop}
use Rattle.tree_pool.specs.Content.{IsGrown}
use Rattle.pooled_cuttings.specs.Lines.{recentred_terms_in, AreRightLines}
use Rattle.pooled_cuttings.proofs.RightLoops.{right_rows}
use Rattle.pooled_cuttings.proofs.right_products.push_right_rows.Given as goal

abbrev pub invariant-loop-s : goal.invariant-loop-s
invariant-loop-s l = record {
  grown : IsGrown l.fn.pool l.pool;
  lines : AreRightLines l.pool l.lines.items;
  terms : recentred_terms_in l.pool l.lines.items ++ right_rows l.fn.pool l.edge l.ys (drop l.s-index l.shifts) ≡ recentred_terms_in l.fn.pool l.fn.lines.items ++ right_rows l.fn.pool l.edge l.ys l.shifts;
}
