-- Short lists of projects and rows, and short migrations, as tests hand them in.
use Rattle.std.proofs.Common.{◌<◌, List, [], ◌∷◌, map, length, arith}
use Rattle.std.specs.List.{IsDistinct}
use Rattle.result_keeper.specs.declared.parts.KeptProject.{KeptProject}
use Rattle.result_keeper.specs.declared.parts.KeptRow.{KeptRow}
use Rattle.result_keeper.specs.Kept.{bytes_cmp, row_cmp}
use Rattle.result_keeper.specs.Entries.{AreApart, project_entry, row_entry}

-- one project has no name twice
pub one_project : (projects : List KeptProject) → length projects < 2 → AreApart bytes_cmp (map project_entry projects)
unfolding IsDistinct
one_project [] h = tt
one_project (p ∷ []) h = (tt, tt)
one_project (p ∷ q ∷ projects) h = absurd (omega arith)

-- one row has no context and tree twice
pub one_row : (rows : List KeptRow) → length rows < 2 → AreApart row_cmp (map row_entry rows)
unfolding IsDistinct
one_row [] h = tt
one_row (r ∷ []) h = (tt, tt)
one_row (r ∷ s ∷ rows) h = absurd (omega arith)
