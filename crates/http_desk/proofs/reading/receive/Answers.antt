use Rattle.std.proofs.Common.{◌≡◌, false, subst, sym, rules}
use Rattle.desk_requests.specs.declared.decision.Decision.TheVariants.{Open}
use Rattle.desk_requests.specs.Decisions.{Decides}
use Rattle.desk_requests.proofs.Stays.{at_end}
use Rattle.wb_outside.specs.Doors.{Becomes}
use Rattle.http_desk.specs.Seen.{seen}
use Rattle.http_desk.specs.Reads.{IsReadUpTo}
use Rattle.http_desk.proofs.Pieces.{on_err, unread, stopped_here, decided_here, talking_on}
use Rattle.http_desk.proofs.reading.receive.Goals as goal

pub loop-bytes-init : goal.loop-bytes-init
loop-bytes-init g c =
    let at = seen g.D.Door.is_open g.D.Door.taken g.D.Door.door_faults g.D.Door.line_faults g.D.Door.told in
    record {
      talking = talking_on (at c.args.door.now) c.requires.opened;
      read = λ was h. subst (λ xs. Becomes was (g.D.Door.told c.args.door.now) (IsReadUpTo xs)) (sym c.new-bytes.ensures.items) (unread was
          (g.D.Door.told c.args.door.now) h);
    }

pub returns-in_err-progress-clause-stopped : goal.returns-in_err-progress-clause-stopped
returns-in_err-progress-clause-stopped g c =
    on_err c.from_residual.result (λ was h. stopped_here c.loop-bytes.bytes.items was (g.D.Door.told c.loop-bytes.door) (c.loop-bytes.invariant.read was h))

pub returns-then-not-branch-clause-decided : goal.returns-then-not-branch-clause-decided
returns-then-not-branch-clause-decided g c = λ was h.
    let short : c.in_ok-fill-in-Open.field-0 ≡ false = search (rules, c.if-not-branch.true) in
    let all = c.in_ok-fill-in-Open.ensures.ended short in
    (c.fill.new.bytes.items, at_end c.fill.new.bytes.items Open all.0, all.1 was (c.loop-bytes.invariant.read was h))

pub returns-in_default : goal.returns-in_default
returns-in_default g c =
    let is = subst (λ xs. Decides xs c.in_ok-progress.progress.decision) c.deref.ensures.value c.in_ok-progress.ensures.decision in
    record {
      talking = c.loop-bytes.invariant.talking;
      failed = tt;
      decided = λ was h. decided_here c.loop-bytes.bytes.items c.in_ok-progress.progress.decision was (g.D.Door.told c.loop-bytes.door) is
          c.in_default.not-Open (c.loop-bytes.invariant.read was h);
      stopped = tt;
    }
