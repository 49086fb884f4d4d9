use Rattle.std.proofs.Common.{◌≡◌, ◌+◌, [], drop}
use Rattle.toml.specs.View.{items_view}
use Rattle.equation_document.specs.Reading.{noises_from}
use Rattle.equation_document.proofs.tables.noises_from.Given as goal

-- what is read from here on, after what was found, is what is read of the whole list
abbrev pub invariant-loop-i : goal.invariant-loop-i
invariant-loop-i l = noises_from (l.i + 1) l.seen l.found (items_view (drop l.i l.values)) ≡ noises_from 1 l.initial.seen [] (items_view l.values)
