use Rattle.std.proofs.Common.{◌≡◌, ◌-◌, []}
use Rattle.right_side_text.specs.Grammar.{entries_at}
use Rattle.right_side_text.proofs.reading.entries_of.Given as goal

-- what is read from here on, after what was found, is what is read of the whole text
abbrev pub invariant-loop : goal.invariant-loop
invariant-loop l = entries_at (l.dims - l.counter) l.mark l.entries l.rest ≡ entries_at l.dims 40 [] l.text
