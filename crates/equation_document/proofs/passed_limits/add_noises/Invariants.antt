use Rattle.std.proofs.Common.{◌≡◌, take, fold}
use Rattle.equation_document.specs.Limits.{noise_fractions}
use Rattle.equation_document.proofs.passed_limits.add_noises.Given as goal

abbrev pub invariant-loop-noise : goal.invariant-loop-noise
invariant-loop-noise l = l.fractions ≡ fold noise_fractions l.initial.fractions (take l.noise-index l.noises)
