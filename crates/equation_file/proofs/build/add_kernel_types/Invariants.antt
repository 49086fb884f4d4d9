use Rattle.std.proofs.Common.{◌≡◌, ◌++◌, take, map}
use Rattle.equation_file.specs.Meaning.{kernel_type}
use Rattle.equation_file.proofs.build.add_kernel_types.Given as goal

abbrev pub invariant-loop-unknown : goal.invariant-loop-unknown
invariant-loop-unknown l = l.list ≡ l.initial.list ++ map (kernel_type l.den) (take l.unknown-index l.unknowns)
