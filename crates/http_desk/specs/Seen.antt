-- What is known of a door, and how its calls change that.
--   Seen == whether a connection is open, how many were taken, the counts of faults of its two
--       kinds of calls, and what it tells
--   seen is_open taken door_faults line_faults told door == what is known of this door
--   IsTakenUpTo n sent written was now == a connection with these bytes was taken, the first n of
--       them were read, in reads that began while those before left the response open, and this was
--       written on it
--   IsTaken sent written was now == so it is for some n
--   IsTalking old new == a connection is open; no other was taken, and no call for one was made
--   HasTaken old new == one was taken, and is closed
--   IsListening port old new == the door was told once to listen on this port
--   IsUntaken old new == no connection was taken, for a fault
use Rattle.std.specs.Prelude.{◌≡◌, ◌≤◌, ℕ, Bool, true, false, List, ◌∷◌, take, Option, Some}
use Rattle.wb_outside.specs.Causes.{raised, Rose}
use Rattle.wb_outside.specs.Doors.{Connections, taken_of, IsAsked, IsSame, Becomes}
use Rattle.desk_requests.specs.declared.Decision.TheVariants.{Open}
use Rattle.desk_requests.specs.Decisions.{Decides}

pub record Seen : Type 0 where
  pub is_open : Bool
  pub taken : ℕ
  pub door_faults : ℕ
  pub line_faults : ℕ
  pub told : Option Connections

abbrev pub seen : {D : Type 0} → (D → Bool) → (D → ℕ) → (D → ℕ) → (D → ℕ)
    → (D → Option Connections) → D → Seen
seen is_open taken door_faults line_faults told door = record {
  is_open = is_open door;
  taken = taken door;
  door_faults = door_faults door;
  line_faults = line_faults door;
  told = told door;
}

pub record IsTakenUpTo (n : ℕ) (sent written : List ℕ) (was now : Connections) : Type 0 where
  pub rest : List (List ℕ)
  pub waiting : was.waiting ≡ sent ∷ rest
  pub before : ℕ
  pub is : now ≡ record {
    waiting = rest;
    earlier = taken_of was;
    last = Some (record { bytes = sent; read = n; written = written });
    before = before;
    listens = was.listens;
    port = was.port;
  }
  pub began : Decides (take before sent) Open

abbrev pub IsTaken : List ℕ → List ℕ → Connections → Connections → Type 0
IsTaken sent written was now = (n : ℕ) × IsTakenUpTo n sent written was now

pub record IsTalking (old new : Seen) : Type 0 where
  pub opened : new.is_open ≡ true
  pub taken : new.taken ≡ old.taken
  pub door : new.door_faults ≡ old.door_faults
  pub line : old.line_faults ≤ new.line_faults

pub record HasTaken (old new : Seen) : Type 0 where
  pub closed : new.is_open ≡ false
  pub taken : new.taken ≡ raised old.taken
  pub door : old.door_faults ≤ new.door_faults
  pub line : old.line_faults ≤ new.line_faults

pub record IsListening (port : ℕ) (old new : Seen) : Type 0 where
  pub told : Becomes old.told new.told (IsAsked port)
  pub is_open : new.is_open ≡ old.is_open
  pub taken : new.taken ≡ old.taken
  pub line : new.line_faults ≡ old.line_faults
  pub door : old.door_faults ≤ new.door_faults

pub record IsUntaken (old new : Seen) : Type 0 where
  pub told : Becomes old.told new.told IsSame
  pub closed : new.is_open ≡ false
  pub taken : new.taken ≡ old.taken
  pub line : new.line_faults ≡ old.line_faults
  pub door : old.door_faults ≤ new.door_faults
  pub rose : Rose old.door_faults new.door_faults
