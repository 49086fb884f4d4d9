use Rattle.std.proofs.Common.{◌≡◌, drop}
use Rattle.equation_document.specs.FirstOf.{first_of}
use Rattle.equation_document.specs.Limits.{noise_number}
use Rattle.equation_document.proofs.passed_limits.noises_number.Given as goal

-- the first of all is the first of those that are left
abbrev pub invariant-loop-noise : goal.invariant-loop-noise
invariant-loop-noise l = first_of noise_number l.noises ≡ first_of noise_number (drop l.noise-index l.noises)
