use Rattle.std.proofs.Common.{◌≡◌}
use Rattle.equation_file.specs.Meaning.{reflect_of}
use Rattle.equation_file.proofs.build.reflect_of.Given as goal

-- the directions so far
abbrev pub invariant-loop-before : goal.invariant-loop-before
invariant-loop-before l = l.directions ≡ reflect_of l.before l.written
