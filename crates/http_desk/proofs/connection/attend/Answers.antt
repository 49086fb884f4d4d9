use Rattle.std.proofs.Common.{sym, ◌∙◌, arith}
use Rattle.http_desk.specs.Visits.{taken}
use Rattle.http_desk.proofs.Answering.{ended_same}
use Rattle.http_desk.proofs.connection.attend.Goals as goal

pub returns-in-Ok-clause-visit : goal.returns-in-Ok-clause-visit
returns-in-Ok-clause-visit g c =
    let ended = c.talk-served.ensures.ended (g.D.Door.told c.args.door.now) c.in-Ok.ensures.ok in
    let talking = c.talk-served.ensures.talking in
    taken (ended_same g.C.Clerk.acts (c.args.store.now, c.args.work.now) (c.talk-served.new.store, c.talk-served.new.work) c.talk-served.result (g.D.Door.told c.args.door.now) (g.D.Door.told
    c.talk-served.new.door) (g.D.Door.told c.finish.new.self) (g.D.Door.line_faults c.accept.new.self) (g.D.Door.line_faults
    c.talk-served.new.door) (g.D.Door.line_faults c.args.door.now) (g.D.Door.line_faults c.finish.new.self) c.in-Ok.ensures.line (sym
    c.finish.ensures.line) c.finish.ensures.told ended) (record {
      closed = c.finish.ensures.closed;
      taken = c.finish.ensures.taken ∙ (talking.taken ∙ c.in-Ok.ensures.opened.1);
      door = omega (arith, c.finish.ensures.door, talking.door, c.in-Ok.ensures.cause.later);
      line = omega (arith, c.finish.ensures.line, talking.line, c.in-Ok.ensures.line);
    })
