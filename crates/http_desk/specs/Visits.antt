-- What becomes of one connection.
--   IsSending status bytes served old new == these bytes were written, which is told with the
--       status; or a front of them, for a fault
--   IsAnswered acts sent was served old new now == so it is with the bytes of the response to a
--       peer that sends `sent`; the store and the work, which were `was`, are `now`
--   HasEnded acts told was served told' now faults faults' == a connection was taken, and what was
--       written is its response, whose status is told, or a front of that, for a fault of reading
--       or writing; `told` and `told'` are what the door told before and tells now, `faults` and
--       `faults'` its counts of such faults
--   IsVisit acts old was served new now == that, and it is closed; or no connection was taken, for
--       a fault; `old` and `new` are what was known of the door and what is
use Rattle.std.specs.Prelude.{◌≡◌, ℕ, List, ◌++◌, Option}
use Rattle.wb_outside.specs.Causes.{Rose}
use Rattle.wb_outside.specs.Doors.{Connections, IsWrittenOn, IsFrontWrittenOn, Becomes}
use Rattle.desk_responses.specs.declared.Status.{Status}
use Rattle.desk_responses.specs.Responses.{code_of}
use Rattle.http_desk.specs.Pages.{Page, bytes_of, Acts, IsResponse}
use Rattle.http_desk.specs.Seen.{Seen, IsTaken, HasTaken, IsUntaken}
use Rattle.http_desk.specs.declared.connection.Served.{Served}
use Rattle.http_desk.specs.declared.connection.Served.TheVariants.{Answered, Dropped, NoConnection}

pub data IsSending (status : Status) (bytes : List ℕ) (served : Served) (old new : Seen) : Type 0
  where
    all : served ≡ Answered (code_of status) → Becomes old.told new.told (IsWrittenOn bytes)
        → IsSending status bytes served old new
    part : served ≡ Dropped → Becomes old.told new.told (IsFrontWrittenOn bytes)
        → Rose old.line_faults new.line_faults → IsSending status bytes served old new

abbrev pub IsAnswered : {S : Type 0} → Acts S → List ℕ → S → Served → Seen → Seen → S → Type 0
IsAnswered acts sent was served old new now =
    (page : Page) × IsResponse acts sent was page now
    × IsSending page.status (bytes_of page) served old new

pub data HasEnded {S : Type 0} (acts : Acts S) (told : Option Connections) (was : S)
    (served : Served) (told' : Option Connections) (now : S) (faults faults' : ℕ) : Type 0 where
  whole : (sent : List ℕ) (page : Page) → served ≡ Answered (code_of page.status)
      → IsResponse acts sent was page now → Becomes told told' (IsTaken sent (bytes_of page))
      → HasEnded acts told was served told' now faults faults'
  front : (sent : List ℕ) (page : Page) (begun rest : List ℕ) → served ≡ Dropped
      → IsResponse acts sent was page now → bytes_of page ≡ begun ++ rest
      → Becomes told told' (IsTaken sent begun) → Rose faults faults'
      → HasEnded acts told was served told' now faults faults'

pub data IsVisit {S : Type 0} (acts : Acts S) (old : Seen) (was : S) (served : Served) (new : Seen)
    (now : S) : Type 0 where
  none : served ≡ NoConnection → IsUntaken old new → now ≡ was
      → IsVisit acts old was served new now
  taken : HasEnded acts old.told was served new.told now old.line_faults new.line_faults
      → HasTaken old new → IsVisit acts old was served new now
