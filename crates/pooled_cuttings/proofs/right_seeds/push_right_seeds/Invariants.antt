use Rattle.std.proofs.Common.{◌≡◌, ◌++◌, drop}
use Rattle.tree_pool.specs.Content.{IsGrown}
use Rattle.pooled_cuttings.specs.Lines.{recentred_terms_in, AreRightLines}
use Rattle.pooled_cuttings.proofs.RightLoops.{right_seeds_row}
use Rattle.pooled_cuttings.proofs.right_seeds.push_right_seeds.Given as goal

abbrev pub invariant-loop-a : goal.invariant-loop-a
invariant-loop-a l = record {
  grown : IsGrown l.fn.pool l.pool;
  lines : AreRightLines l.pool l.lines.items;
  terms :
      recentred_terms_in l.pool l.lines.items ++ right_seeds_row l.n.entries (drop l.a-index l.parts)
      ≡ recentred_terms_in l.fn.pool l.fn.lines.items ++ right_seeds_row l.n.entries l.parts;
}
