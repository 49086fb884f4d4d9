use Rattle.std.proofs.Common.{take}
use Rattle.std.specs.List.{AllByRecursion}
use Rattle.degree_numbers.specs.Types.{IsKernelEntry}
use Rattle.type_contexts.proofs.file_types.are_kernel_entries.Given as goal

abbrev pub invariant-loop-entry : goal.invariant-loop-entry
invariant-loop-entry l = AllByRecursion (IsKernelEntry l.den) (take l.entry-index l.entries)
