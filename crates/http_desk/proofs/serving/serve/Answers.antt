use Rattle.std.proofs.Common.{inl, inr, refl, ◌∙◌}
use Rattle.wb_outside.specs.Told.{writing}
use Rattle.wb_outside.proofs.ToldLemmas.{gets_nothing}
use Rattle.http_desk.specs.Seen.{seen}
use Rattle.http_desk.proofs.Answering.{rose_later}
use Rattle.http_desk.proofs.Rows.{work_taken, door_or_write}
use Rattle.http_desk.proofs.serving.serve.Goals as goal

pub returns-in-Ok : goal.returns-in-Ok
returns-in-Ok g c =
    let at = seen g.D.Door.is_open g.D.Door.taken g.D.Door.door_faults g.D.Door.line_faults g.D.Door.told in
    record {
      closed = c.serve_each.ensures.closed;
      service = record {
        listening = (at c.listen.new.self);
        listens = record {
          told = c.in-Ok.ensures.told;
          is_open = c.in-Ok.ensures.opened;
          taken = c.in-Ok.ensures.taken;
          line = c.in-Ok.ensures.line;
          door = c.in-Ok.ensures.cause.later;
        };
        begun = inl c.serve_each.ensures.work;
      };
      taken = work_taken g.C.Clerk.acts c.args.count (at c.listen.new.self) (c.args.store.now, c.args.work.now) c.serve_each.result (at c.serve_each.new.door)
          (c.serve_each.new.store, c.serve_each.new.work) (writing g.O.Sink.told g.O.Sink.faults c.args.out.now c.serve_each.new.out) (g.D.Door.taken c.args.door.now)
          c.in-Ok.ensures.taken c.serve_each.ensures.work;
      door = λ e. rose_later (g.D.Door.door_faults c.args.door.now) (g.D.Door.door_faults c.listen.new.self) (g.D.Door.door_faults
          c.serve_each.new.door) c.in-Ok.ensures.cause.later (c.serve_each.ensures.work.door e).1;
      write = λ e. c.serve_each.ensures.work.write e;
    }

pub returns-in-Err : goal.returns-in-Err
returns-in-Err g c =
    let at = seen g.D.Door.is_open g.D.Door.taken g.D.Door.door_faults g.D.Door.line_faults g.D.Door.told in
    record {
      closed = c.in-Err.ensures.opened ∙ c.requires;
      service = record {
        listening = (at c.listen.new.self);
        listens = record {
          told = c.in-Err.ensures.told;
          is_open = c.in-Err.ensures.opened;
          taken = c.in-Err.ensures.taken;
          line =
              c.in-Err.ensures.line;
          door = c.in-Err.ensures.cause.later;
        };
        begun = inr (refl, c.in-Err.ensures.cause.failed, refl, refl, gets_nothing (g.O.Sink.told c.args.out.now) (g.O.Sink.faults c.args.out.now));
      };
      taken = tt;
      door = λ e. c.in-Err.ensures.cause.failed;
      write = λ e. absurd (door_or_write _ refl e);
    }
