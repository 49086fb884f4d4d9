use Rattle.std.proofs.Common.{sym, subst}
use Rattle.degree_numbers.specs.declared.types.Types.{Types}
use Rattle.tree_pool.proofs.Growth.{grown_trans}
use Rattle.result_keeper.specs.Entries.{pair_of}
use Rattle.stored_constants.specs.Sound.{IsReadRow}
use Rattle.stored_constants.proofs.AuditLaws.{trees_next}
use Rattle.stored_constants.proofs.ReadLaws.{one_of_rows}
use Rattle.stored_constants.proofs.audit.trees_of_rows.Goals as goal

pub tree_of_row-requires : goal.tree_of_row-requires
tree_of_row-requires c =
    subst (λ (ty : Types). IsReadRow ty (pair_of c.row-item.result)) (sym c.loop-row.invariant.grown.types)
    (one_of_rows (IsReadRow c.args.pool.now.types) c.args.rows.now c.loop-row.row-index c.row-item.result c.loop-row-test.true c.row-item.is c.requires)

pub loop-row-preserved : goal.loop-row-preserved
loop-row-preserved c = record {
  grown = grown_trans c.args.pool.now c.loop-row.pool c.tree_of_row.new.pool c.loop-row.invariant.grown c.in_ok-tree_of_row.ensures.grown;
  trees = trees_next c.loop-row.pool c.tree_of_row.new.pool c.args.rows.now c.loop-row.row-index c.row-item.result c.loop-row.ids c.push.new.self c.in_ok-tree_of_row.field-0 c.in_ok-tree_of_row.ensures.grown
      c.loop-row-test.true c.row-item.is c.loop-row.invariant.trees c.in_ok-tree_of_row.ensures.tree c.in_ok-push.ensures.ok;
}
