use Rattle.std.proofs.Common.{◌≡◌, ◌++◌}
use Rattle.sample_files.specs.Sample.{joined_to, unknown_text}
use Rattle.sample_files.proofs.put_unknowns.Given as goal

-- so many were written
abbrev pub invariant-loop-before : goal.invariant-loop-before
invariant-loop-before l = l.text.items ≡ l.fn.text.items ++ joined_to l.before (unknown_text l.number)
