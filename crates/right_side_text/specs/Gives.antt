-- How the answer of a function that allocates stands to a reading.
--   Fails e read == where the error is not want of memory, nothing is read
--   Gives view result read == the result, seen by view, is what the reading gives: a refusal
--       exactly where it gives nothing; want of memory is free
use Rattle.std.specs.Prelude.{Option, None, Some, Result, Ok, Err, ◌≡◌, ⊤}
use Rattle.right_side_text.specs.declared.fault.ReadError.{ReadError}
use Rattle.right_side_text.specs.declared.fault.ReadError.TheVariants as errors

abbrev pub Fails : {Y : Type 0} → ReadError → Option Y → Type 0
Fails errors.Memory read = ⊤
Fails errors.Outside read = read ≡ None

abbrev pub Gives : {X Y : Type 0} → (X → Y) → Result X ReadError → Option Y → Type 0
Gives view (Ok x) read = read ≡ Some (view x)
Gives view (Err e) read = Fails e read
