-- Why a route could not be added.
use Rattle.std.proofs.Common.{◌≡◌, ℕ, List, None, refl, sym, ◌∙◌}
use Rattle.matchit.specs.Rows.{RowsOf}
use Rattle.matchit.specs.Router.{RouteOf, Refused, nearest}
use Rattle.matchit.specs.declared.InsertError.{InsertError}
use Rattle.matchit.specs.declared.InsertError.TheVariants.{Conflict, InvalidParam, InvalidParamSegment, InvalidCatchAll, OutOfMemory}
use Rattle.desk_requests.proofs.Seeking.{none_some}

-- a route that conflicts with none was refused for want of memory
pub only_memory : {T : Type 0} → (p : List ℕ) (rs : RowsOf (RouteOf T)) (e : InsertError) → nearest p rs ≡ None → Refused p rs e → e ≡ OutOfMemory
only_memory p rs (Conflict with) none h = absurd (none_some h.0 (sym none ∙ h.1))
only_memory p rs InvalidParamSegment none h = absurd h
only_memory p rs InvalidParam none h = absurd h
only_memory p rs InvalidCatchAll none h = absurd h
only_memory p rs OutOfMemory none h = refl
