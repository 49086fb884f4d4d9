use Rattle.http_desk.specs.Seen.{seen}
use Rattle.http_desk.proofs.Answering.{answered_with, unavailable_with, spends_decided}
use Rattle.http_desk.proofs.connection.answer.Goals as goal

pub returns-in-Ok-clause-answered : goal.returns-in-Ok-clause-answered
returns-in-Ok-clause-answered g c = λ sent is.
    let at = seen g.D.Door.is_open g.D.Door.taken g.D.Door.door_faults g.D.Door.line_faults g.D.Door.told in
    answered_with g.C.Clerk.acts sent c.args.decision (c.args.store.now, c.args.work.now) (c.respond.new.store, c.respond.new.work) c.in-Ok.response c.deref.result.now c.send.result (at
    c.args.door.now) (at c.send.new.door) is c.in-Ok.ensures.response c.deref.ensures.value c.send.ensures.sent

pub returns-in-Err-clause-answered : goal.returns-in-Err-clause-answered
returns-in-Err-clause-answered g c = λ sent is.
    let at = seen g.D.Door.is_open g.D.Door.taken g.D.Door.door_faults g.D.Door.line_faults g.D.Door.told in
    unavailable_with g.C.Clerk.acts sent (c.args.store.now, c.args.work.now) (c.respond.new.store, c.respond.new.work) c.unavailable.result.now c.send-in-Err.result (at c.args.door.now) (at
    c.send-in-Err.new.door) (spends_decided g.C.Clerk.acts sent c.args.decision (c.args.store.now, c.args.work.now) (c.respond.new.store, c.respond.new.work) is c.in-Err.ensures.memory)
    c.unavailable.ensures c.send-in-Err.ensures.sent
