-- How the answer of a function that allocates stands to a reading.
--   Fails e read == the error e is the fault that is read; want of memory is free
--   Gives view result read == the result, seen by view, is what the reading gives: a fault exactly
--       where it gives this fault; want of memory is free
use Rattle.std.specs.Prelude.{◌≡◌, ⊤, Result, Ok, Err}
use Rattle.equation_document.specs.declared.fault.Fault.{Fault}
use Rattle.equation_document.specs.declared.fault.ReadError.{ReadError}
use Rattle.equation_document.specs.declared.fault.ReadError.TheVariants as errors

abbrev pub Fails : {Y : Type 0} → ReadError → Result Y Fault → Type 0
Fails errors.Memory read = ⊤
Fails (errors.Wrong f) read = read ≡ Err f

abbrev pub Gives : {X Y : Type 0} → (X → Y) → Result X ReadError → Result Y Fault → Type 0
Gives view (Ok x) read = read ≡ Ok (view x)
Gives view (Err e) read = Fails e read
