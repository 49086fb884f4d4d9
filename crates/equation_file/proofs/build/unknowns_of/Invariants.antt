use Rattle.std.proofs.Common.{◌≡◌, ◌+◌, ◌++◌, drop, length}
use Rattle.equation_file.specs.Meaning.{unknowns_from}
use Rattle.equation_file.proofs.build.unknowns_of.Given as goal

-- those found, and those that are left
abbrev pub invariant-loop-i : goal.invariant-loop-i
invariant-loop-i l =
    l.found ++ unknowns_from l.units l.den l.document.names (length l.document.noises + l.i) (drop l.i l.document.unknowns) (drop l.i l.document.rights)
    ≡ unknowns_from l.units l.den l.document.names (length l.document.noises) l.document.unknowns l.document.rights
