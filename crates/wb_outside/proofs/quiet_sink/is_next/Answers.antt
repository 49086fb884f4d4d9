use Rattle.wb_outside.proofs.Fronts.{begins-append}
use Rattle.wb_outside.proofs.quiet_sink.is_next.Goals as goal

pub returns : goal.returns
returns c = rw (begins-append c.args.room.now c.args.piece.now c.args.written c.requires, ← c.split_at.ensures.back) c.is_front.ensures
