use Rattle.std.proofs.Common.{◌-◌, length, Option}
use Rattle.wb_outside.specs.Doors.{Connections, IsNext, Becomes}
use Rattle.http_desk.specs.Seen.{seen, IsTalking}
use Rattle.http_desk.specs.Reads.{IsReadUpTo}
use Rattle.http_desk.proofs.reading.receive.Given as goal

abbrev pub decreases-loop-bytes : goal.decreases-loop-bytes
decreases-loop-bytes g l = 1064960 - length l.bytes.items

abbrev pub invariant-loop-bytes : goal.invariant-loop-bytes
invariant-loop-bytes g l = record {
  talking : IsTalking
      (seen g.D.Door.is_open g.D.Door.taken g.D.Door.door_faults g.D.Door.line_faults g.D.Door.told l.fn.door)
      (seen g.D.Door.is_open g.D.Door.taken g.D.Door.door_faults g.D.Door.line_faults g.D.Door.told l.door);
  read : (was : Option Connections) → Becomes was (g.D.Door.told l.fn.door) IsNext → Becomes was (g.D.Door.told l.door) (IsReadUpTo l.bytes.items);
}
