use Rattle.std.proofs.Common.{drop}
use Rattle.std.specs.Prelude.{◌↔◌}
use Rattle.degree_numbers.specs.Types.{AreDifferent}
use Rattle.type_contexts.proofs.file_types.are_different.Given as goal

abbrev pub invariant-loop-i : goal.invariant-loop-i
invariant-loop-i l = AreDifferent l.names ↔ AreDifferent (drop l.i l.names)
