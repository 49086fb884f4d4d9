use Rattle.std.proofs.Common.{◌≡◌, ◌+◌, [], drop}
use Rattle.toml.specs.View.{items_view}
use Rattle.equation_document.specs.Reading.{parameters_from}
use Rattle.equation_document.proofs.tables.parameters_from.Given as goal

-- what is read from here on, after what was found, is what is read of the whole list
abbrev pub invariant-loop-i : goal.invariant-loop-i
invariant-loop-i l = parameters_from (l.i + 1) l.seen (items_view (drop l.i l.values)) ≡ parameters_from 1 [] (items_view l.values)
