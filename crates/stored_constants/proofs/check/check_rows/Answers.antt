use Rattle.plain_trees.proofs.Readings.{false_not}
use Rattle.result_keeper.specs.Entries.{pair_of}
use Rattle.stored_constants.specs.Sound.{IsReadRow}
use Rattle.stored_constants.proofs.ReadLaws.{rows_before, row_at}
use Rattle.stored_constants.proofs.check.check_rows.Goals as goal

pub returns-then-not-branch-clause-refused : goal.returns-then-not-branch-clause-refused
returns-then-not-branch-clause-refused c =
    let row = c.index-rows-place.result in
    record {
      before = rows_before (IsReadRow c.args.types.now) c.args.rows.now c.loop-place.place c.loop-place.invariant;
      row = pair_of row;
      at = row_at c.args.rows.now c.loop-place.place row c.loop-place-test.true c.index-rows-place.is;
      unread = λ read. false_not c.in_ok-is_read.field-0 c.if-not-branch.true (c.in_ok-is_read.ensures.1 read);
    }
