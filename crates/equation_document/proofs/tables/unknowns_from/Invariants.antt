use Rattle.std.proofs.Common.{◌≡◌, ◌+◌, [], drop}
use Rattle.toml.specs.View.{items_view}
use Rattle.equation_document.specs.Reading.{unknowns_from}
use Rattle.equation_document.proofs.tables.unknowns_from.Given as goal

-- what is read from here on, after what was found, is what is read of the whole list
abbrev pub invariant-loop-i : goal.invariant-loop-i
invariant-loop-i l = unknowns_from l.version (l.i + 1) l.seen l.found (items_view (drop l.i l.values)) ≡ unknowns_from l.version 1 l.initial.seen [] (items_view l.values)
