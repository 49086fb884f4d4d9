use Rattle.std.proofs.Common.{drop}
use Rattle.std.specs.Prelude.{◌↔◌}
use Rattle.degree_numbers.specs.Types.{AreDirections}
use Rattle.type_contexts.proofs.file_types.are_directions.Given as goal

abbrev pub invariant-loop-direction : goal.invariant-loop-direction
invariant-loop-direction l = AreDirections 0 l.dims l.directions ↔ AreDirections l.past l.dims (drop l.direction-index l.directions)
