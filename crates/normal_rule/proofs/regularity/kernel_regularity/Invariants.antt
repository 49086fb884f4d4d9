use Rattle.std.proofs.Common.{◌≡◌, drop}
use Rattle.normal_rule.specs.Regularity.{kernel_regularity}
use Rattle.normal_rule.proofs.regularity.kernel_regularity.Given as goal

abbrev pub invariant-loop-unknown : goal.invariant-loop-unknown
invariant-loop-unknown l = kernel_regularity (drop l.unknown-index l.unknowns) l.kernel.0 ≡ kernel_regularity l.unknowns l.kernel.0
