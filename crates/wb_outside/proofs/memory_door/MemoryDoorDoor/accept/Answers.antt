use Rattle.wb_outside.proofs.DoorLemmas.{above_zero, next_is}
use Rattle.wb_outside.proofs.memory_door.MemoryDoorDoor.accept.Goals as goal

pub returns-clause-ok : goal.returns-clause-ok
returns-clause-ok c =
    let some = above_zero _ _ c.if-waiting-eq0.false c.waiting.ensures in
    rw (← c.self.view_is, c.take_next.ensures) (next_is _ some)
