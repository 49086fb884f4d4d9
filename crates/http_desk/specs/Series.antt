-- Connections one after the other, and the lines that tell of them.
--   IsSeries acts old was visits new now == these connections came one after the other, and ended
--       so
--   taken_by served, taken_in visits == 1 where a connection was taken, else 0; how many were
--   line_of served == the line of a connection: `answered` and the status of the response, or
--       `dropped`; none where no connection came
--   lines_of visits == the lines of all of them
--   IsStatus served == a status that is told has at most three digits
--   RoseBy n before now == a count rose by n, or stands at its last value, 2^64 - 1
--   IsWork acts count old was result new now out == at most `count` connections came, whose lines
--       the output got: all of them and whole, or until none came, or until it did not take a line
--   IsService acts count port old was result new now out == the door was told once to listen on the
--       port; then so they came, unless that failed
use Rattle.std.specs.Prelude.{◌≡◌, ◌≤◌, ◌<◌, ◌⊎◌, ⊤, ℕ, ◌+◌, ◌-◌, ◌^◌, min, List, [], ◌∷◌, ◌++◌, codes, Result, Ok, Err}
use Rattle.http.specs.StatusCode.{code_digits}
use Rattle.wb_outside.specs.Causes.{Rose}
use Rattle.wb_outside.specs.Told.{Grows, Writing, Gets}
use Rattle.http_desk.specs.Pages.{Acts}
use Rattle.http_desk.specs.Seen.{Seen, IsListening}
use Rattle.http_desk.specs.Visits.{IsVisit}
use Rattle.http_desk.specs.declared.connection.Served.{Served}
use Rattle.http_desk.specs.declared.connection.Served.TheVariants.{Answered, Dropped, NoConnection}
use Rattle.http_desk.specs.declared.serving.ServeFault.{ServeFault}
use Rattle.http_desk.specs.declared.serving.ServeFault.TheVariants as Faults

abbrev pub IsSeries : {S : Type 0} → Acts S → Seen → S → List Served → Seen → S → Type 0
IsSeries acts old was [] new now = (new ≡ old) × (now ≡ was)
IsSeries {S} acts old was (served ∷ visits) new now =
    (mid : Seen) × (then : S) × IsVisit acts old was served mid then
    × IsSeries acts mid then visits new now

abbrev pub taken_by : Served → ℕ
taken_by (Answered status) = 1
taken_by Dropped = 1
taken_by NoConnection = 0

abbrev pub taken_in : List Served → ℕ
taken_in [] = 0
taken_in (served ∷ visits) = taken_by served + taken_in visits

abbrev pub line_of : Served → List ℕ
line_of (Answered status) = codes "answered " ++ code_digits status ++ codes "\n"
line_of Dropped = codes "dropped\n"
line_of NoConnection = []

abbrev pub lines_of : List Served → List ℕ
lines_of [] = []
lines_of (served ∷ visits) = line_of served ++ lines_of visits

abbrev pub IsStatus : Served → Type 0
IsStatus (Answered status) = status < 1000
IsStatus Dropped = ⊤
IsStatus NoConnection = ⊤

abbrev pub RoseBy : ℕ → ℕ → ℕ → Type 0
RoseBy n before now = min (before + n) (2 ^ 64 - 1) ≤ now

pub record IsWork {S : Type 0} (acts : Acts S) (count : ℕ) (old : Seen) (was : S)
    (result : Result Unit ServeFault) (new : Seen) (now : S) (out : Writing) : Type 0 where
  pub visits : List Served
  pub series : IsSeries acts old was visits new now
  pub most : taken_in visits ≤ count
  pub lines : Gets out (lines_of visits)
  pub later : out.before ≤ out.after
  pub ok : result ≡ Ok tt → (taken_in visits ≡ count) × Grows out.old out.new (lines_of visits)
  pub door : result ≡ Err Faults.Door
      → (taken_in visits < count) × Rose old.door_faults new.door_faults
  pub write : result ≡ Err Faults.Write → Rose out.before out.after

pub record IsService {S : Type 0} (acts : Acts S) (count port : ℕ) (old : Seen) (was : S)
    (result : Result Unit ServeFault) (new : Seen) (now : S) (out : Writing) : Type 0 where
  pub listening : Seen
  pub listens : IsListening port old listening
  pub begun : IsWork acts count listening was result new now out
      ⊎ ((result ≡ Err Faults.Door) × Rose old.door_faults new.door_faults × (new ≡ listening)
      × (now ≡ was) × Gets out [])
