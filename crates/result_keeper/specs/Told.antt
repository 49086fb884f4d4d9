-- What a keeper tells before a call and after it. A keeper may tell nothing.
--   Becomes f old new == who told k at the start tells f k at the end
--   Stays old new == who told k at the start tells k at the end
use Rattle.std.specs.Prelude.{◌≡◌, Option, Some, None, ⊤}
use Rattle.result_keeper.specs.Kept.{Kept}

abbrev pub Becomes : (Kept → Kept) → Option Kept → Option Kept → Type 0
Becomes f None new = ⊤
Becomes f (Some k) new = new ≡ Some (f k)

abbrev pub Stays : Option Kept → Option Kept → Type 0
Stays = Becomes (λ k. k)
