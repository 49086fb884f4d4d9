use Rattle.std.proofs.Common.{◌≡◌, ◌≤◌, take, length}
use Rattle.equation_file.specs.Meaning.{groups_of}
use Rattle.equation_file.proofs.build.groups_of.Given as goal

abbrev pub invariant-loop-noise : goal.invariant-loop-noise
invariant-loop-noise l = (l.groups ≡ groups_of (take l.noise-index l.noises)) × (length l.groups ≤ l.noise-index)
