-- Serving: its words, and how it ends.
--   serving_words count port == the words `serve COUNT PORT`
--   IsServing words count port == these are the words, and both numbers are allowed
--   IsNoServing words == the words are those of no allowed numbers
--   IsEnded result code err == the status with which serving ends so, and what the error stream got:
--       nothing, or the line of the fault
--   IsServed acts count port old was code new now out err == so many connections were served on the
--       port, or until a fault; `old` and `new` are what was known of the door and what is, `was`
--       and `now` the store and the work
use Rattle.std.specs.Prelude.{◌≡◌, ◌≤◌, ℕ, List, [], ◌∷◌, codes, decimal, Result, Ok, Err}
use Rattle.wb_outside.specs.Told.{Grows, Writing, Gets}
use Rattle.http_desk.specs.declared.serving.ServeFault.{ServeFault}
use Rattle.http_desk.specs.declared.serving.ServeFault.TheVariants.{Door, Write}
use Rattle.http_desk.specs.Pages.{Acts}
use Rattle.http_desk.specs.Seen.{Seen}
use Rattle.http_desk.specs.Series.{IsService}
use Rattle.workbench_core.specs.declared.fixed.FixedRefusal.TheVariants.{WriteFault, DoorFault}
use Rattle.workbench_core.specs.Fixed.{fixed_status, fixed_line}
use Rattle.workbench_cli.specs.declared.serving.TheConstants.{MOST_CONNECTIONS, LARGEST_PORT}

abbrev pub serving_words : ℕ → ℕ → List (List ℕ)
serving_words count port = codes "serve" ∷ decimal count ∷ decimal port ∷ []

pub record IsServing (words : List (List ℕ)) (count port : ℕ) : Type 0 where
  pub words_are : words ≡ serving_words count port
  pub least_count : 1 ≤ count
  pub most_count : count ≤ MOST_CONNECTIONS
  pub least_port : 1 ≤ port
  pub most_port : port ≤ LARGEST_PORT

abbrev pub IsNoServing : List (List ℕ) → Type 0
IsNoServing words = (count port : ℕ) → IsServing words count port → ⊥

abbrev pub IsEnded : Result Unit ServeFault → ℕ → Writing → Type 0
IsEnded (Ok done) code err = (code ≡ 0) × Grows err.old err.new []
IsEnded (Err Door) code err = (code ≡ fixed_status DoorFault) × Gets err (fixed_line DoorFault)
IsEnded (Err Write) code err = (code ≡ fixed_status WriteFault) × Gets err (fixed_line WriteFault)

pub record IsServed {S : Type 0} (acts : Acts S) (count port : ℕ) (old : Seen) (was : S)
    (code : ℕ) (new : Seen) (now : S) (out err : Writing) : Type 0 where
  pub result : Result Unit ServeFault
  pub service : IsService acts count port old was result new now out
  pub ended : IsEnded result code err
