use Rattle.std.proofs.Common.{arith, get_or, None, Some}
use Rattle.tree_pool.specs.Content.{tree_at}
use Rattle.pooled_cuttings.proofs.Groves.{grove_trans}
use Rattle.extraction_coproduct.specs.Finished.{grove_of}
use Rattle.result_keeper.specs.Entries.{pair_of}
use Rattle.stored_constants.specs.Sound.{IsTrueRow}
use Rattle.stored_constants.proofs.AuditLaws.{blank, ids_length, there_at, there_still, tree_fits, row_is_true, at_start}
use Rattle.stored_constants.proofs.ReadLaws.{rows_next, rows_before, row_at}
use Rattle.stored_constants.proofs.audit.audit_trees.Goals as goal

pub bounds-ids-place : goal.bounds-ids-place
bounds-ids-place c = let many = ids_length c.args.tables.now.pool c.args.rows.now c.args.ids.now c.requires in omega (arith, many, c.loop-place-test.true)

pub audit_tree-requires-clause-known : goal.audit_tree-requires-clause-known
audit_tree-requires-clause-known c =
    let old = c.args.tables.now.pool in
    let row = c.index-rows-place.result in
    let id = get_or c.args.ids.now c.loop-place.place blank in
    let at = there_at old c.args.rows.now c.args.ids.now c.loop-place.place row c.requires c.loop-place-test.true c.index-rows-place.is in
    (there_still old c.loop-place.tables.pool (pair_of row) id c.loop-place.invariant.grown.pool at).known

pub audit_tree-requires-clause-fit : goal.audit_tree-requires-clause-fit
audit_tree-requires-clause-fit c =
    let old = c.args.tables.now.pool in
    let new = c.loop-place.tables.pool in
    let row = c.index-rows-place.result in
    let id = get_or c.args.ids.now c.loop-place.place blank in
    let at = there_at old c.args.rows.now c.args.ids.now c.loop-place.place row c.requires c.loop-place-test.true c.index-rows-place.is in
    tree_fits new.types (pair_of row).0 (tree_at new id.0) (there_still old new (pair_of row) id c.loop-place.invariant.grown.pool at).tree

pub returns-in-Some-clause-refused : goal.returns-in-Some-clause-refused
returns-in-Some-clause-refused c =
    let old = c.args.tables.now.pool in
    let row = c.index-rows-place.result in
    let place = c.loop-place.place in
    let id = get_or c.args.ids.now place blank in
    let at = there_at old c.args.rows.now c.args.ids.now place row c.requires c.loop-place-test.true c.index-rows-place.is in
    record {
      before = rows_before (IsTrueRow old.types) c.args.rows.now place c.loop-place.invariant.are_true;
      row = pair_of row;
      at = row_at c.args.rows.now place row c.loop-place-test.true c.index-rows-place.is;
      is_false = record {
        tree = tree_at old id.0;
        text = at.tree;
        is_false = at_start old c.loop-place.tables.pool (pair_of row) id c.deref.result.now c.in_ok-cause.cause (Some c.in-Some.cause) c.loop-place.invariant.grown.pool at c.deref.ensures.value c.in-Some.is c.in_ok-cause.ensures.truth;
      };
    }

pub loop-place-preserved : goal.loop-place-preserved
loop-place-preserved c =
    let old = c.args.tables.now.pool in
    let row = c.index-rows-place.result in
    let place = c.loop-place.place in
    let id = get_or c.args.ids.now place blank in
    let inv = c.loop-place.invariant in
    let at = there_at old c.args.rows.now c.args.ids.now place row c.requires c.loop-place-test.true c.index-rows-place.is in
    record {
      grown = grove_trans (grove_of c.args.tables.now) (grove_of c.loop-place.tables) (grove_of c.audit_tree.new.tables) inv.grown c.in_ok-cause.ensures.grown;
      held = c.in_ok-cause.ensures.held;
      typed = c.in_ok-cause.ensures.typed;
      computed = c.in_ok-cause.ensures.computed;
      are_true = rows_next (IsTrueRow old.types) c.args.rows.now place row c.loop-place-test.true c.index-rows-place.is inv.are_true
          (row_is_true old.types (pair_of row) (tree_at old id.0) at.tree
          (at_start old c.loop-place.tables.pool (pair_of row) id c.deref.result.now c.in_ok-cause.cause None inv.grown.pool at c.deref.ensures.value c.in_default.is c.in_ok-cause.ensures.truth));
    }
