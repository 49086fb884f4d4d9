use Rattle.std.proofs.Common.{◌≡◌, ◌+◌, Ok, Err, subst, sym, ◌∙◌, arith, rules}
use Rattle.wb_outside.specs.Told.{writing}
use Rattle.http_desk.specs.Seen.{seen}
use Rattle.http_desk.specs.Series.{IsWork}
use Rattle.http_desk.proofs.Rows.{work_then, work_within, no_work, no_ok}
use Rattle.http_desk.proofs.serving.serve_each.Goals as goal

pub serve_one-requires : goal.serve_one-requires
serve_one-requires g c = c.loop.invariant.closed

pub loop-init : goal.loop-init
loop-init g c =
    let at = seen g.D.Door.is_open g.D.Door.taken g.D.Door.door_faults g.D.Door.line_faults g.D.Door.told in
    record {
      closed = c.requires;
      work = no_work g.C.Clerk.acts (at c.args.door.now) (c.args.store.now, c.args.work.now) (g.O.Sink.told c.args.out.now) (g.O.Sink.faults c.args.out.now);
    }

pub loop-preserved : goal.loop-preserved
loop-preserved g c =
    let at = seen g.D.Door.is_open g.D.Door.taken g.D.Door.door_faults g.D.Door.line_faults g.D.Door.told in
    record {
      closed = c.serve_one.ensures.closed;
      work = subst (λ r. IsWork g.C.Clerk.acts (c.loop.counter + 1) (at c.args.door.now) (c.args.store.now, c.args.work.now) r (at c.serve_one.new.door)
          (c.serve_one.new.store, c.serve_one.new.work) (writing g.O.Sink.told g.O.Sink.faults c.args.out.now c.serve_one.new.out)) c.in_ok-serve_one.was (work_then
          g.C.Clerk.acts c.loop.counter (at c.args.door.now) (at c.loop.door) (at c.serve_one.new.door) (c.args.store.now, c.args.work.now) (c.loop.store, c.loop.work)
          (c.serve_one.new.store, c.serve_one.new.work) c.serve_one.result (g.O.Sink.told c.args.out.now) (g.O.Sink.told c.loop.out) (g.O.Sink.told c.serve_one.new.out)
          (g.O.Sink.faults c.args.out.now) (g.O.Sink.faults c.loop.out) (g.O.Sink.faults c.serve_one.new.out) c.loop.invariant.work c.serve_one.ensures.work);
    }

pub returns-in_err-serve_one-clause-work : goal.returns-in_err-serve_one-clause-work
returns-in_err-serve_one-clause-work g c =
    let at = seen g.D.Door.is_open g.D.Door.taken g.D.Door.door_faults g.D.Door.line_faults g.D.Door.told in
    let failed : c.from_residual.result ≡ Err c.in_err-serve_one.field-0.0 = search rules in
    let more = subst (λ r. IsWork g.C.Clerk.acts (c.loop.counter + 1) (at c.args.door.now) (c.args.store.now, c.args.work.now) r (at c.serve_one.new.door)
    (c.serve_one.new.store, c.serve_one.new.work) (writing g.O.Sink.told g.O.Sink.faults c.args.out.now c.serve_one.new.out)) (c.in_err-serve_one.was ∙ sym failed)
    (work_then g.C.Clerk.acts c.loop.counter (at c.args.door.now) (at c.loop.door) (at c.serve_one.new.door) (c.args.store.now, c.args.work.now) (c.loop.store, c.loop.work)
    (c.serve_one.new.store, c.serve_one.new.work) c.serve_one.result (g.O.Sink.told c.args.out.now) (g.O.Sink.told c.loop.out) (g.O.Sink.told c.serve_one.new.out)
    (g.O.Sink.faults c.args.out.now) (g.O.Sink.faults c.loop.out) (g.O.Sink.faults c.serve_one.new.out) c.loop.invariant.work c.serve_one.ensures.work) in
    work_within g.C.Clerk.acts (c.loop.counter + 1) c.args.count (at c.args.door.now) (c.args.store.now, c.args.work.now) c.from_residual.result (at
    c.serve_one.new.door) (c.serve_one.new.store, c.serve_one.new.work) (writing g.O.Sink.told g.O.Sink.faults c.args.out.now c.serve_one.new.out) (omega (
      arith,
      c.loop-test.true,
    )) (no_ok c.in_err-serve_one.field-0.0 c.from_residual.result failed) more

pub returns : goal.returns
returns g c =
    let at = seen g.D.Door.is_open g.D.Door.taken g.D.Door.door_faults g.D.Door.line_faults g.D.Door.told in
    record {
      closed = c.loop.invariant.closed;
      work =
          let all : c.loop.counter ≡ c.args.count = omega (arith, c.loop-test.false, c.loop.auto.counter-end) in
          subst (λ n. IsWork g.C.Clerk.acts n (at c.args.door.now) (c.args.store.now, c.args.work.now) (Ok tt) (at c.loop.door) (c.loop.store, c.loop.work) (writing g.O.Sink.told
          g.O.Sink.faults c.args.out.now c.loop.out)) all c.loop.invariant.work;
    }
