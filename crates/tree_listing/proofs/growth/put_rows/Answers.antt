use Rattle.tree_listing.specs.Made.{IsRowOf}
use Rattle.tree_listing.proofs.Plans.{all_item}
use Rattle.tree_listing.proofs.growth.put_rows.Goals as goal

pub put_row-requires-clause-row : goal.put_row-requires-clause-row
put_row-requires-clause-row c = all_item (IsRowOf c.args.pool.now) c.args.rows.now c.loop-row.row-index c.row-item.result c.requires.rows c.loop-row-test.true c.row-item.is
