use Rattle.std.proofs.Common.{◌≡◌, ◌-◌, ◌++◌, ℕ, List, length}
use Rattle.http_desk.specs.Seen.{seen, IsTalking}
use Rattle.http_desk.specs.Reads.{GoesOn}
use Rattle.http_desk.proofs.reading.fill.Given as goal

abbrev pub decreases-loop-door : goal.decreases-loop-door
decreases-loop-door g l = l.wanted - length l.bytes.items

abbrev pub invariant-loop-door : goal.invariant-loop-door
invariant-loop-door g l = record {
  talking : IsTalking
      (seen g.D.Door.is_open g.D.Door.taken g.D.Door.door_faults g.D.Door.line_faults g.D.Door.told l.fn.door)
      (seen g.D.Door.is_open g.D.Door.taken g.D.Door.door_faults g.D.Door.line_faults g.D.Door.told l.door);
  more : (next : List ℕ) × (l.bytes.items ≡ l.fn.bytes.items ++ next);
  goes : GoesOn (g.D.Door.told l.fn.door) (g.D.Door.told l.door) l.fn.bytes.items l.bytes.items;
}
