use Rattle.wb_outside.specs.Told.{writing}
use Rattle.http_desk.specs.Seen.{seen}
use Rattle.http_desk.proofs.Rows.{visit_status, untaken_work, told_work, untold_work}
use Rattle.http_desk.proofs.serving.serve_one.Goals as goal

pub write_line-requires : goal.write_line-requires
write_line-requires g c =
    let at = seen g.D.Door.is_open g.D.Door.taken g.D.Door.door_faults g.D.Door.line_faults g.D.Door.told in
    visit_status g.C.Clerk.acts (at c.args.door.now) (c.args.store.now, c.args.work.now) c.attend.result (at c.attend.new.door) (c.attend.new.store, c.attend.new.work) c.attend.ensures.visit

pub returns-in-NoConnection-clause-work : goal.returns-in-NoConnection-clause-work
returns-in-NoConnection-clause-work g c =
    let at = seen g.D.Door.is_open g.D.Door.taken g.D.Door.door_faults g.D.Door.line_faults g.D.Door.told in
    untaken_work g.C.Clerk.acts (at c.args.door.now) (c.args.store.now, c.args.work.now) c.attend.result (at c.attend.new.door) (c.attend.new.store, c.attend.new.work) (g.O.Sink.told
    c.args.out.now) (g.O.Sink.faults c.args.out.now) c.in-NoConnection.is c.attend.ensures.visit

pub returns-in-Ok : goal.returns-in-Ok
returns-in-Ok g c =
    let at = seen g.D.Door.is_open g.D.Door.taken g.D.Door.door_faults g.D.Door.line_faults g.D.Door.told in
    record {
      closed = c.attend.ensures.closed;
      work = told_work g.C.Clerk.acts (at c.args.door.now) (c.args.store.now, c.args.work.now) c.attend.result (at c.attend.new.door) (c.attend.new.store, c.attend.new.work) (writing
          g.O.Sink.told g.O.Sink.faults c.args.out.now c.write_line.new.out) c.in_default.not-NoConnection c.attend.ensures.visit
          c.write_line.ensures.cause.later c.in-Ok.ensures.ok;
    }

pub returns-in-Err : goal.returns-in-Err
returns-in-Err g c =
    let at = seen g.D.Door.is_open g.D.Door.taken g.D.Door.door_faults g.D.Door.line_faults g.D.Door.told in
    record {
      closed = c.attend.ensures.closed;
      work = untold_work g.C.Clerk.acts (at c.args.door.now) (c.args.store.now, c.args.work.now) c.attend.result (at c.attend.new.door) (c.attend.new.store, c.attend.new.work) (writing
          g.O.Sink.told g.O.Sink.faults c.args.out.now c.write_line.new.out) c.in_default.not-NoConnection c.attend.ensures.visit
          c.write_line.ensures.cause.later c.in-Err.ensures.err c.in-Err.ensures.cause.failed;
    }
