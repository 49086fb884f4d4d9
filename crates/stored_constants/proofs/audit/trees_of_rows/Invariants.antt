use Rattle.std.proofs.Common.{take, map}
use Rattle.std.specs.List.{AllZip}
use Rattle.tree_pool.specs.Content.{IsGrown}
use Rattle.result_keeper.specs.Entries.{pair_of}
use Rattle.stored_constants.specs.Audits.{IsTreeAt}
use Rattle.stored_constants.proofs.audit.trees_of_rows.Given as goal

-- the trees of the rows so far
abbrev pub invariant-loop-row : goal.invariant-loop-row
invariant-loop-row l = record {
  grown : IsGrown l.fn.pool l.pool;
  trees : AllZip (IsTreeAt l.pool) (map pair_of (take l.row-index l.rows)) l.ids;
}
