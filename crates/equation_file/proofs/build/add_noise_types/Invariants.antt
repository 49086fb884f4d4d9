use Rattle.std.proofs.Common.{◌≡◌, ◌++◌, take, map}
use Rattle.equation_file.specs.Meaning.{noise_type}
use Rattle.equation_file.proofs.build.add_noise_types.Given as goal

abbrev pub invariant-loop-noise : goal.invariant-loop-noise
invariant-loop-noise l = l.list ≡ l.initial.list ++ map (noise_type l.den l.groups) (take l.noise-index l.noises)
