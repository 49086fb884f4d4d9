use Rattle.std.proofs.Common.{◌≡◌, ◌-◌}
use Rattle.right_side_text.specs.Grammar.{terms_at}
use Rattle.right_side_text.proofs.reading.terms_of.Given as goal

-- what is read from here on, after what was found, is what is read of the whole text
abbrev pub invariant-loop : goal.invariant-loop
invariant-loop l = terms_at (l.most - l.counter) l.dims l.found l.rest ≡ terms_at l.most l.dims l.initial.found l.text
