use Rattle.std.proofs.Common.{◌≤◌, drop, map}
use Rattle.std.specs.Prelude.{◌↔◌}
use Rattle.degree_numbers.specs.Types.{AreInOrder}
use Rattle.type_contexts.proofs.file_types.are_in_order.Given as goal

abbrev pub invariant-loop-noise : goal.invariant-loop-noise
invariant-loop-noise l = (AreInOrder 0 (map (λ e. e.group) l.noises) l.groups ↔ AreInOrder l.met (map (λ e. e.group) (drop l.noise-index l.noises)) l.groups) × (l.met ≤ l.noise-index)
