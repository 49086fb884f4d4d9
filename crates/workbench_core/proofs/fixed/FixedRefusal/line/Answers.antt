use Rattle.std.proofs.Common.{◌++◌, List, ℕ, codes, sym, ap}
use Rattle.workbench_core.specs.declared.fixed.FixedRefusal.TheVariants.{Words, FileFault, StoreFault, WriteFault, DoorFault, Memory}
use Rattle.workbench_core.specs.Fixed.{fixed_name}
use Rattle.workbench_core.proofs.Digits.{decimal_2, decimal_3, decimal_11, decimal_15, decimal_16, decimal_17}
use Rattle.workbench_core.proofs.fixed.FixedRefusal.line.Goals as goal

abbrev line_by : List ℕ → List ℕ → List ℕ
line_by name digits = codes "refused " ++ digits ++ codes " " ++ name ++ codes "\n"

pub returns-in-Words : goal.returns-in-Words
returns-in-Words c = rw c.in-Words.is (ap (line_by (fixed_name Words)) (sym decimal_2))

pub returns-in-FileFault : goal.returns-in-FileFault
returns-in-FileFault c = rw c.in-FileFault.is (ap (line_by (fixed_name FileFault)) (sym decimal_3))

pub returns-in-StoreFault : goal.returns-in-StoreFault
returns-in-StoreFault c = rw c.in-StoreFault.is (ap (line_by (fixed_name StoreFault)) (sym decimal_11))

pub returns-in-WriteFault : goal.returns-in-WriteFault
returns-in-WriteFault c = rw c.in-WriteFault.is (ap (line_by (fixed_name WriteFault)) (sym decimal_15))

pub returns-in-DoorFault : goal.returns-in-DoorFault
returns-in-DoorFault c = rw c.in-DoorFault.is (ap (line_by (fixed_name DoorFault)) (sym decimal_16))

pub returns-in-Memory : goal.returns-in-Memory
returns-in-Memory c = rw c.in-Memory.is (ap (line_by (fixed_name Memory)) (sym decimal_17))
