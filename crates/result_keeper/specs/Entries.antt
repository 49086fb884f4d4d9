-- What the parts of a keeper's calls and of a keeper in memory stand for.
-- What contracts of public calls say:
--   file_bytes f == the bytes of a file, where there is one
--   pair_of r == the tree and the value of a row
--   context_pair p == the old and the new context of a pair
--   project_entry p == the name and the file of a kept project
--   row_entry r == the context and the tree of a kept row, and its value
--   AreApart c es == no key comes twice, by the order c
--   projects_of projects, rows_of rows == the finite maps that they make
--   tables_of version projects rows == what is kept where they are
-- Working notions of the code and of proofs:
--   place_of c key es == the place of the first entry of that key
--   put_at place x xs == xs with x at that place, or at the end where there is none
use Rattle.std.specs.Prelude.{ℕ, List, [], ◌∷◌, ◌++◌, map, Option, Some, None, Vec, slice_set}
use Rattle.std.specs.Option.{option_map}
use Rattle.std.specs.List.{IsDistinct, position_from}
use Rattle.std.specs.Ordering.{eq_by_cmp}
use Rattle.std.specs.declared.cmp.Ordering.{Ordering}
use Rattle.std.specs.declared.alloc.Global.{Global}
use Rattle.std.specs.FinMap.{from_entries}
use Rattle.result_keeper.specs.Kept.{Projects, Rows, Kept}
use Rattle.result_keeper.specs.declared.parts.StoredRow.{StoredRow}
use Rattle.result_keeper.specs.declared.parts.ContextPair.{ContextPair}
use Rattle.result_keeper.specs.declared.parts.KeptProject.{KeptProject}
use Rattle.result_keeper.specs.declared.parts.KeptRow.{KeptRow}

abbrev pub file_bytes : Option (Vec ℕ Global) → Option (List ℕ)
file_bytes f = option_map (λ v. v.items) f

abbrev pub pair_of : StoredRow → List ℕ × List ℕ
pair_of r = (r.tree.items, r.value.items)

abbrev pub context_pair : ContextPair → List ℕ × List ℕ
context_pair p = (p.old.items, p.new.items)

abbrev pub project_entry : KeptProject → List ℕ × List ℕ
project_entry p = (p.name, p.file.items)

abbrev pub row_entry : KeptRow → (List ℕ × List ℕ) × List ℕ
row_entry r = ((r.context.items, r.tree.items), r.value.items)

abbrev pub AreApart : {K X : Type 0} → (K → K → Ordering) → List (K × X) → Type 0
AreApart c es = IsDistinct (eq_by_cmp c) (map (λ e. e.0) es)

abbrev pub projects_of : List KeptProject → Projects
projects_of projects = from_entries (map project_entry projects)

abbrev pub rows_of : List KeptRow → Rows
rows_of rows = from_entries (map row_entry rows)

abbrev pub tables_of : ℕ → List KeptProject → List KeptRow → Kept
tables_of version projects rows =
    record { version = version; projects = projects_of projects; rows = rows_of rows }

abbrev pub place_of : {K X : Type 0} → (K → K → Ordering) → K → List (K × X) → Option ℕ
place_of c key es = position_from (λ e. eq_by_cmp c key e.0) 0 es

abbrev pub put_at : {X : Type 0} → Option ℕ → X → List X → List X
put_at None x xs = xs ++ x ∷ []
put_at (Some i) x xs = slice_set xs i x
