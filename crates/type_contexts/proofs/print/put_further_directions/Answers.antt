use Rattle.type_contexts.proofs.Pieces.{numbers_more}
use Rattle.type_contexts.proofs.print.put_further_directions.Goals as goal

pub loop-direction-preserved : goal.loop-direction-preserved
loop-direction-preserved c =
    numbers_more c.args.out.now.items c.loop-direction.out.items c.push.new.self.items c.put_number.new.out.items c.args.directions.now c.loop-direction.direction-index c.loop-direction-test.true c.loop-direction.invariant c.in_ok-push.ensures.items c.in_ok-put_number.ensures
