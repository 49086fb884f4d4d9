-- Tables whose rows are true.
--   PassesFile file == the file writes down an equation whose normal rule is subcritical
--   HasFiles k == so does the file of each project
--   IsSound k == the tables are of version 2, each row is true, and each file passes
--   IsOldSound k == the same of version 1, with contexts in the old form
--   Goes cs k next == next are the tables after these commands, one after the other, from k on
use Rattle.std.specs.Prelude.{◌≡◌, ℕ, List, [], ◌∷◌, Some, Ok}
use Rattle.std.specs.FinMap.{get}
use Rattle.equations.specs.declared.equation.Equation.{Equation}
use Rattle.equation_file.specs.File.{equation_of}
use Rattle.normal_rule.specs.declared.rule.Rule.{Rule}
use Rattle.normal_rule.specs.Regularity.{IsSubcritical}
use Rattle.normal_rule.specs.Rule.{IsNormalRule}
use Rattle.result_keeper.specs.Kept.{Kept}
use Rattle.stored_constants.specs.Sound.{IsSoundRow, IsSoundOldRow}
use Rattle.workbench_core.specs.Answers.{Answer}
use Rattle.workbench_store.specs.declared.command.Command.{Command}
use Rattle.workbench_store.specs.Steps.{IsStep}

pub record PassesFile (file : List ℕ) : Type 0 where
  pub equation : Equation
  pub written : equation_of file ≡ Ok equation
  pub rule : Rule
  pub normal : IsNormalRule equation rule
  pub subcritical : IsSubcritical equation rule

abbrev pub HasFiles : Kept → Type 0
HasFiles k = (name file : List ℕ) → get k.projects name ≡ Some file → PassesFile file

pub record IsSound (k : Kept) : Type 0 where
  pub version : k.version ≡ 2
  pub rows : (context tree value : List ℕ) → get k.rows (context, tree) ≡ Some value
      → IsSoundRow context (tree, value)
  pub files : HasFiles k

pub record IsOldSound (k : Kept) : Type 0 where
  pub version : k.version ≡ 1
  pub rows : (context tree value : List ℕ) → get k.rows (context, tree) ≡ Some value
      → IsSoundOldRow context (tree, value)
  pub files : HasFiles k

abbrev pub Goes : List Command → Kept → Kept → Type 0
Goes [] k next = next ≡ k
Goes (c ∷ cs) k next = (a : Answer) × (mid : Kept) × IsStep c k a mid × Goes cs mid next
