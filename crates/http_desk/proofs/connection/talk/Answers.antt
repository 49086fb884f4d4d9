use Rattle.std.proofs.Common.{inl, refl}
use Rattle.http_desk.specs.Seen.{seen}
use Rattle.http_desk.proofs.Answering.{ended_by, ended_unread, unavailable_with}
use Rattle.http_desk.proofs.connection.talk.Goals as goal

pub returns-in-Ok-clause-ended : goal.returns-in-Ok-clause-ended
returns-in-Ok-clause-ended g c = λ was h.
    let at = seen g.D.Door.is_open g.D.Door.taken g.D.Door.door_faults g.D.Door.line_faults g.D.Door.told in
    let got = c.in-Ok.ensures.decided was h in
    ended_by g.C.Clerk.acts (c.args.store.now, c.args.work.now) (c.answer.new.store, c.answer.new.work) got.0 c.answer.result (g.D.Door.line_faults c.args.door.now) was (at
    c.read_request.new.door) (at c.answer.new.door) c.in-Ok.ensures.talking.line got.2 (c.answer.ensures.answered got.0 got.1)

pub returns-in-Err-Failed-clause-ended : goal.returns-in-Err-Failed-clause-ended
returns-in-Err-Failed-clause-ended g c = λ was h.
    let got = c.in-Err-Failed.ensures.stopped was h in
    ended_unread g.C.Clerk.acts (c.args.store.now, c.args.work.now) got.0 _ (g.D.Door.line_faults c.args.door.now) (g.D.Door.line_faults c.read_request.new.door) was
    (g.D.Door.told c.read_request.new.door) refl got.1 (c.in-Err-Failed.ensures.failed c.in-Err-Failed.field-0-is)

pub returns-in-Err-Memory-clause-ended : goal.returns-in-Err-Memory-clause-ended
returns-in-Err-Memory-clause-ended g c = λ was h.
    let at = seen g.D.Door.is_open g.D.Door.taken g.D.Door.door_faults g.D.Door.line_faults g.D.Door.told in
    let got = c.in-Err-Memory.ensures.stopped was h in
    let answer = unavailable_with g.C.Clerk.acts got.0 (c.args.store.now, c.args.work.now) (c.args.store.now, c.args.work.now) c.unavailable.result.now c.send.result (at
    c.read_request.new.door) (at c.send.new.door) (inl refl) c.unavailable.ensures c.send.ensures.sent in
    ended_by g.C.Clerk.acts (c.args.store.now, c.args.work.now) (c.args.store.now, c.args.work.now) got.0 c.send.result (g.D.Door.line_faults c.args.door.now) was (at
    c.read_request.new.door) (at c.send.new.door) c.in-Err-Memory.ensures.talking.line got.1 answer
