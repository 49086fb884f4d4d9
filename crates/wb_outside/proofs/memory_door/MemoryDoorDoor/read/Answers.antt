use Rattle.std.proofs.Common.{ap, ◌∙◌, refl}
use Rattle.wb_outside.proofs.DoorLemmas.{nothing_read}
use Rattle.wb_outside.proofs.memory_door.MemoryDoorDoor.read.Goals as goal

pub returns-then-contains-clause-err : goal.returns-then-contains-clause-err
returns-then-contains-clause-err c =
    let some = c.self.invariant.1 (ap (λ d. d.is_open) c.self.view_is ∙ c.requires.opened) in
    rw (← c.self.view_is) (nothing_read _ c.read_so_far-self-inside.result c.self.inside.book.last refl some c.read_so_far-self-inside.ensures)
