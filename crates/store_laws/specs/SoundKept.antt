-- Sound tables over a call.
--   StaysSound k next == where k is sound so is next; where k is sound of version 1 next is sound,
--       of version 1 or 2
--   IsSoundKept old new == who told tables tells tables at the end, which stay sound so
use Rattle.std.specs.Prelude.{◌≡◌, ◌⊎◌, ⊤, Option, None, Some}
use Rattle.result_keeper.specs.Kept.{Kept}
use Rattle.workbench_store.specs.Sound.{IsSound, IsOldSound}

abbrev pub StaysSound : Kept → Kept → Type 0
StaysSound k next = (IsSound k → IsSound next) × (IsOldSound k → IsSound next ⊎ IsOldSound next)

abbrev pub IsSoundKept : Option Kept → Option Kept → Type 0
IsSoundKept None new = ⊤
IsSoundKept (Some k) new = (next : Kept) × (new ≡ Some next) × StaysSound k next
