use Rattle.std.proofs.Common.{◌≡◌, ◌+◌, [], drop}
use Rattle.toml.specs.View.{items_view}
use Rattle.equation_document.specs.Reading.{numbers_from}
use Rattle.equation_document.proofs.tables.numbers_from.Given as goal

-- what is read from here on, after what was found, is what is read of the whole list
abbrev pub invariant-loop-i : goal.invariant-loop-i
invariant-loop-i l = numbers_from (l.i + 1) l.found (items_view (drop l.i l.values)) ≡ numbers_from 1 [] (items_view l.values)
