use Rattle.std.proofs.Common.{◌≡◌, ◌-◌, [], length}
use Rattle.right_side_text.specs.Grammar.{factors_at}
use Rattle.right_side_text.proofs.reading.factors_of.Given as goal

-- what is read from here on, after what was found, is what is read of the whole text
abbrev pub invariant-loop : goal.invariant-loop
invariant-loop l = factors_at (length l.text - l.counter) l.dims l.found l.rest ≡ factors_at (length l.text) l.dims [] l.text
