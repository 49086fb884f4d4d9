-- When an object of the outside may answer that a call failed.
--   Rose before now == a count of faults rose, or stands at its last value, 2^64 - 1
--   HasCause before now result == the count never falls, and it rose where the call failed
--   raised n == the next number of a count that stays at its last value
use Rattle.std.specs.Prelude.{ℕ, ◌+◌, ◌-◌, ◌^◌, ◌≤◌, min, Result, OnErr}

abbrev pub raised : ℕ → ℕ
raised n = min (n + 1) (2 ^ 64 - 1)

abbrev pub Rose : ℕ → ℕ → Type 0
Rose before now = raised before ≤ now

pub record HasCause {T E : Type 0} (before now : ℕ) (result : Result T E) : Type 0 where
  pub later : before ≤ now
  pub failed : OnErr result (Rose before now)
