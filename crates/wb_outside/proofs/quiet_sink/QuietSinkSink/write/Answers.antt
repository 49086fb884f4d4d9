use Rattle.std.proofs.Common.{rules, ◌≡◌, ◌++◌, take, true, false, ap}
use Rattle.wb_outside.specs.Quiet.{begins}
use Rattle.wb_outside.proofs.Fronts.{told_after-same, told_after-other}
use Rattle.wb_outside.proofs.quiet_sink.QuietSinkSink.write.Goals as goal

pub returns-then-is_next-clause-after : goal.returns-then-is_next-clause-after
returns-then-is_next-clause-after c =
    let s = c.self.inside in
    let same : begins s.room.items (take s.written s.room.items ++ c.args.piece.now) ≡ true = search rules in
    rw (← c.self.view_is, c.if-self.true) (ap (λ t. record { room = s.room.items; told = t }) (told_after-same s.room.items c.args.piece.now s.written c.self.invariant same))

pub returns-else-is_next-clause-after : goal.returns-else-is_next-clause-after
returns-else-is_next-clause-after c =
    let s = c.self.inside in
    let other : begins s.room.items (take s.written s.room.items ++ c.args.piece.now) ≡ false = search rules in
    rw (← c.self.view_is, c.if-self.true) (ap (λ t. record { room = s.room.items; told = t }) (told_after-other s.room.items c.args.piece.now s.written other))
