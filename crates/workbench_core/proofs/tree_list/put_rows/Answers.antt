use Rattle.std.proofs.Common.{◌++◌}
use Rattle.tree_listing.proofs.Places.{no_id}
use Rattle.workbench_core.proofs.TextLemmas.{written_after}
use Rattle.workbench_core.proofs.TreeRows.{AreRows-next}
use Rattle.workbench_core.proofs.tree_list.put_rows.Goals as goal

pub loop-i-preserved : goal.loop-i-preserved
loop-i-preserved c =
    let so_far = c.loop-i.invariant in
    let row = c.in_ok-put_row.ensures.row in (
      so_far.0 ++ row.0,
      AreRows-next c.args.pool.now.types c.args.pool.now c.args.ids.now c.loop-i.i no_id so_far.0 row.0 c.loop-i-test.true so_far.1 row.1,
      written_after c.args.text.now.items so_far.0 row.0 c.loop-i.text.items c.put_row.new.text.items so_far.2 row.2,
    )
