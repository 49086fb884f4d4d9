use Rattle.std.proofs.Common.{◌≡◌, ◌+◌, ◌-◌, ◌^◌, min, take, if◌then◌else◌, fold}
use Rattle.equation_document.specs.Names.{is_noise}
use Rattle.equation_document.proofs.names.noise_power.Given as goal

abbrev pub invariant-loop-factor : goal.invariant-loop-factor
invariant-loop-factor l = l.power ≡ min (fold (λ n f. if is_noise l.names f then n + f.power else n) 0 (take l.factor-index l.factor-items)) (2 ^ 64 - 1)
