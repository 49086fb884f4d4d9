use Rattle.std.proofs.Common.{take}
use Rattle.std.specs.List.{AllByRecursion}
use Rattle.degree_numbers.specs.Types.{IsNoiseEntry}
use Rattle.type_contexts.proofs.file_types.are_noise_entries.Given as goal

abbrev pub invariant-loop-entry : goal.invariant-loop-entry
invariant-loop-entry l = AllByRecursion (IsNoiseEntry l.den) (take l.entry-index l.entries)
