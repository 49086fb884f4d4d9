-- What becomes of a store over which connections are served.
--   Goes most old new == who told k at the start tells at the end what at most so many commands of
--       the desk leave of k, one after the other
use Rattle.std.specs.Prelude.{◌≡◌, ◌≤◌, ⊤, ℕ, List, map, length, Option, None, Some}
use Rattle.result_keeper.specs.Kept.{Kept}
use Rattle.desk_requests.specs.declared.Command.{Command}
use Rattle.workbench_store.specs.Sound as stored
use Rattle.desk_clerk.specs.Replies.{asked_of}

abbrev pub Goes : ℕ → Option Kept → Option Kept → Type 0
Goes most None new = ⊤
Goes most (Some k) new = (cs : List Command) × (next : Kept) × (length cs ≤ most)
    × (new ≡ Some next) × stored.Goes (map asked_of cs) k next
