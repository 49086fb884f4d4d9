use Rattle.type_contexts.proofs.Pieces.{numbers_more}
use Rattle.type_contexts.proofs.print.put_further.Goals as goal

pub loop-entry-preserved : goal.loop-entry-preserved
loop-entry-preserved c =
    numbers_more c.args.out.now.items c.loop-entry.out.items c.push.new.self.items c.put_number.new.out.items c.args.entries.now c.loop-entry.entry-index c.loop-entry-test.true c.loop-entry.invariant c.in_ok-push.ensures.items c.in_ok-put_number.ensures
