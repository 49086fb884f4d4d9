use Rattle.std.proofs.Common.{◌≡◌, false, Ok}
use Rattle.wb_outside.specs.Told.{writing}
use Rattle.http_desk.specs.Seen.{seen}
use Rattle.http_desk.specs.Series.{IsWork}
use Rattle.http_desk.proofs.serving.serve_each.Given as goal

abbrev pub invariant-loop : goal.invariant-loop
invariant-loop g l = record {
  closed : g.D.Door.is_open l.door ≡ false;
  work : IsWork g.C.Clerk.acts l.counter
      (seen g.D.Door.is_open g.D.Door.taken g.D.Door.door_faults g.D.Door.line_faults g.D.Door.told l.fn.door) (l.fn.store, l.fn.work) (Ok tt)
      (seen g.D.Door.is_open g.D.Door.taken g.D.Door.door_faults g.D.Door.line_faults g.D.Door.told l.door) (l.store, l.work)
      (writing g.O.Sink.told g.O.Sink.faults l.fn.out l.out);
}
