use Rattle.std.proofs.Common.{◌≡◌, ◌≤◌, ℕ, List, map, take}
use Rattle.wb_outside.specs.Told.{Lengthens}
use Rattle.workbench_cli.specs.Reading.{AreRead}
use Rattle.workbench_cli.proofs.reading.read_files.Given as goal

-- the files so far were read and asked for; they have the texts that they had
abbrev pub invariant-loop-name : goal.invariant-loop-name
invariant-loop-name g l =
    AreRead (g.F.Files.text l.fn.files) (map (λ name. name.now) (take l.name-index l.names)) (map (λ v. v.items) l.texts.items)
    × Lengthens (g.F.Files.asked l.fn.files) (g.F.Files.asked l.files) (map (λ name. name.now) (take l.name-index l.names))
    × ((n : List ℕ) → g.F.Files.text l.files n ≡ g.F.Files.text l.fn.files n)
    × (g.F.Files.faults l.fn.files ≤ g.F.Files.faults l.files)
