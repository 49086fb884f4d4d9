use Rattle.std.proofs.Common.{◌≡◌, ◌+◌, [], drop}
use Rattle.toml.specs.View.{items_view}
use Rattle.equation_document.specs.Reading.{rights_from}
use Rattle.equation_document.proofs.rights.rights_from.Given as goal

-- what is read from here on, after what was found, is what is read of the whole list
abbrev pub invariant-loop-i : goal.invariant-loop-i
invariant-loop-i l = rights_from l.names l.dims (l.i + 1) l.found (items_view (drop l.i l.values)) ≡ rights_from l.names l.dims 1 [] (items_view l.values)
