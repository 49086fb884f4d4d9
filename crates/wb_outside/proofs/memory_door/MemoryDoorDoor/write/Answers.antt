use Rattle.std.proofs.Common.{ap, ◌∙◌, refl}
use Rattle.wb_outside.proofs.DoorLemmas.{nothing_written}
use Rattle.wb_outside.proofs.memory_door.MemoryDoorDoor.write.Goals as goal

pub returns-then-contains-clause-err : goal.returns-then-contains-clause-err
returns-then-contains-clause-err c =
    let some = c.self.invariant.1 (ap (λ d. d.is_open) c.self.view_is ∙ c.requires) in
    rw (← c.self.view_is) (nothing_written c.args.piece.now _ c.self.inside.book.last refl some)
