use Rattle.std.proofs.Common.{◌≡◌, ◌+◌, [], drop}
use Rattle.toml.specs.View.{items_view}
use Rattle.equation_document.specs.Reading.{directions_from}
use Rattle.equation_document.proofs.versions.directions_from.Given as goal

-- what is read from here on, after what was found, is what is read of the whole list
abbrev pub invariant-loop-i : goal.invariant-loop-i
invariant-loop-i l = directions_from l.dims (l.i + 1) l.seen (items_view (drop l.i l.values)) ≡ directions_from l.dims 1 [] (items_view l.values)
