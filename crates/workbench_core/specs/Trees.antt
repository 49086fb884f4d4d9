-- What `trees` answers for a file.
--   ListsTrees c r == r is the tree list of the listed trees of the completed rule
--   IsTreesOf file r == r is that for the completed rule of the file, or why there is none
use Rattle.std.specs.Prelude.{◌≡◌, ℕ, List, Result, Ok}
use Rattle.workbench_core.specs.declared.refusal.Refusal.{Refusal}
use Rattle.workbench_core.specs.Completed.{CompletedRule, IsForCompleted}
use Rattle.workbench_core.specs.TreeList.{IsTreeList}

abbrev pub ListsTrees : CompletedRule → Result (List ℕ) Refusal → Type 0
ListsTrees c r = (text : List ℕ) × IsTreeList c.eq.types c.trees text × (r ≡ Ok text)

abbrev pub IsTreesOf : List ℕ → Result (List ℕ) Refusal → Type 0
IsTreesOf file r = IsForCompleted ListsTrees file r
