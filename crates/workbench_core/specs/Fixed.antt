-- Refusals with fixed lines.
--   refused_line s rest == `refused S REST`, with its line feed
--   fixed_status f, fixed_name f == the status and the name of such a refusal
--   fixed_line f == its line
use Rattle.std.specs.Prelude.{ℕ, List, ◌++◌, codes, decimal}
use Rattle.workbench_core.specs.declared.fixed.FixedRefusal.{FixedRefusal}
use Rattle.workbench_core.specs.declared.fixed.FixedRefusal.TheVariants.{Words, FileFault, StoreFault, WriteFault, DoorFault, Memory}

abbrev pub refused_line : ℕ → List ℕ → List ℕ
refused_line s rest = codes "refused " ++ decimal s ++ codes " " ++ rest ++ codes "\n"

abbrev pub fixed_status : FixedRefusal → ℕ
fixed_status Words = 2
fixed_status FileFault = 3
fixed_status StoreFault = 11
fixed_status WriteFault = 15
fixed_status DoorFault = 16
fixed_status Memory = 17

abbrev pub fixed_name : FixedRefusal → List ℕ
fixed_name Words = codes "Words"
fixed_name FileFault = codes "FileFault"
fixed_name StoreFault = codes "StoreFault"
fixed_name WriteFault = codes "WriteFault"
fixed_name DoorFault = codes "DoorFault"
fixed_name Memory = codes "Memory"

abbrev pub fixed_line : FixedRefusal → List ℕ
fixed_line f = refused_line (fixed_status f) (fixed_name f)
